use Prim.Native.Nat.{◌-◌}
use Rattle.once.proofs.Walking.{Tiering}
use Rattle.once.proofs.pass_tier.Given as goal

abbrev pub invariant-loop-j : goal.invariant-loop-j
invariant-loop-j l = Tiering l.z l.img l.by l.p l.s l.t l.initial.table l.table l.rest l.j

abbrev pub decreases-loop-j : goal.decreases-loop-j
decreases-loop-j l = l.z.settings.slots - l.j
