use Rattle.words.proofs.Numbers.{le_four}
use native.Mathlib.Omega.{arith}
use Rattle.words.proofs.read_le4.Goals as goal

pub returns : goal.returns
returns c = omega (arith, le_four c.args.s.now c.args.at)
