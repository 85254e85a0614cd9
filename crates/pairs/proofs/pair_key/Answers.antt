use Rattle.pairs.proofs.Orders.{key-first, key-last}
use Rattle.pairs.proofs.pair_key.Goals as goal

pub returns-then-a-b : goal.returns-then-a-b
returns-then-a-b c = key-first c.args.a c.args.b c.if-a-b.true

pub returns : goal.returns
returns c = key-last c.args.a c.args.b c.if-a-b.false
