use Prim.Native.Nat.{◌-◌}
use mathlib.Core.Path.{◌≡◌}
use Rattle.walk.proofs.Walking.{InTier}
use Rattle.walk.proofs.in_tier.Given as goal

abbrev pub invariant-loop : goal.invariant-loop
invariant-loop l = InTier l.z l.img l.key l.t l.cursor.slot (l.z.settings.slots - l.counter) × (l.cursor.slots ≡ l.z.settings.slots)
