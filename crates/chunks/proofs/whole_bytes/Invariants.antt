use mathlib.Core.Path.{◌≡◌}
use Prim.Native.Nat.{◌*◌}
use Rattle.lists.specs.Quantify.{Below}
use Rattle.layout.specs.Places.{mark}
use Rattle.chunks.proofs.whole_bytes.Given as goal

abbrev pub invariant-loop-k : goal.invariant-loop-k
invariant-loop-k l = Below (l.k * 8) (λ i. mark l.z l.img l.t i ≡ l.b)
