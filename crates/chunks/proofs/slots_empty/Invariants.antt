use mathlib.Core.Path.{◌≡◌}
use Rattle.lists.specs.Quantify.{Below}
use Rattle.entries.specs.Live.{slot_at}
use Rattle.chunks.proofs.slots_empty.Given as goal

abbrev pub invariant-loop-j : goal.invariant-loop-j
invariant-loop-j l = Below l.j (λ k. slot_at l.z l.img l.t k ≡ 0)
