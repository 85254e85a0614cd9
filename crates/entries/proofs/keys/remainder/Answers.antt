use Rattle.entries.proofs.Powers.{and-power}
use lib.Pow.{pow_pos}
use native.Mathlib.Omega.{arith}
use Rattle.entries.proofs.keys.remainder.Goals as goal

pub overflow_sub-result : goal.overflow_sub-result
overflow_sub-result c = omega (arith, c.requires.1.1, pow_pos c.requires.0)

pub returns : goal.returns
returns c = and-power c.args.x c.args.n c.requires
