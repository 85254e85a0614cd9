use Rattle.words.proofs.Bits.{and-ones}
use Rattle.entries.proofs.keys.low_bits.Goals as goal

pub returns : goal.returns
returns c = and-ones c.args.x c.args.n c.ones.result c.ones.ensures
