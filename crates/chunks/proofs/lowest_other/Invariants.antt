use mathlib.Core.Path.{◌≡◌}
use Rattle.lists.specs.Quantify.{Below}
use Rattle.layout.specs.Places.{mark}
use Rattle.chunks.proofs.lowest_other.Given as goal

abbrev pub invariant-loop-i : goal.invariant-loop-i
invariant-loop-i l = Below l.i (λ k. mark l.z l.img l.t k ≡ l.b)
