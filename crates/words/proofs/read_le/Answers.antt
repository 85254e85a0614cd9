use Rattle.words.proofs.Numbers.{le-padded}
use Rattle.words.proofs.read_le.Goals as goal

pub returns-then-n-eq4 : goal.returns-then-n-eq4
returns-then-n-eq4 c = rw c.if-n-eq4.true c.read_le4.ensures

pub returns : goal.returns
returns c = le-padded c.args.s.now _ c.args.at c.args.n (λ i. (c.type_inv.s i).fits) c.requires c.copy_from_slice.ensures.after c.from_le_bytes.ensures
