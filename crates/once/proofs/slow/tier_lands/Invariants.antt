use Prim.Native.Nat.{◌-◌}
use Rattle.once.proofs.Searching.{Slots}
use Rattle.once.proofs.slow.tier_lands.Given as goal

abbrev pub invariant-loop-j : goal.invariant-loop-j
invariant-loop-j l = Slots l.z l.img l.by l.p l.t l.j

abbrev pub decreases-loop-j : goal.decreases-loop-j
decreases-loop-j l = l.z.settings.slots - l.j
