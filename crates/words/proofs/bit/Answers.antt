use mathlib.Core.Path.{refl}
use Rattle.words.specs.Bits.{bit}
use Rattle.words.proofs.Bits.{and-ones}
use Rattle.words.proofs.bit.Goals as goal

pub returns : goal.returns
unfolding bit
returns c = and-ones _ 1 1 refl
