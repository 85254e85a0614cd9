use mathlib.Core.Path.{◌≡◌}
use Prim.Native.Nat.{◌*◌}
use lib.ListN.{get_or}
use Rattle.lists.specs.Quantify.{Below}
use Rattle.layout.specs.Places.{mark}
use Rattle.chunks.specs.Counting.{marked_below}
use Rattle.chunks.proofs.bytes_agree.Given as goal

abbrev pub invariant-loop-k : goal.invariant-loop-k
invariant-loop-k l = Below (l.k * 8) (λ i. get_or l.covered i 0 ≡ mark l.z l.img l.t i) × (l.marked ≡ marked_below l.z l.img l.t (l.k * 8))
