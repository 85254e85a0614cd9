use mathlib.Core.Path.{◌≡◌}
use Rattle.words.specs.Bits.{ones}
use Rattle.words.proofs.ones.Given as goal

abbrev pub invariant-loop-k : goal.invariant-loop-k
invariant-loop-k l = l.sum ≡ Rattle.words.specs.Bits.ones l.s l.at l.i l.k
