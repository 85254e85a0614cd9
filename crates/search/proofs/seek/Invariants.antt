use Prim.Native.Nat.{◌-◌}
use mathlib.Core.Path.{◌≡◌}
use Rattle.search.proofs.Seeking.{Seeking}
use Rattle.search.proofs.seek.Given as goal

abbrev pub invariant-loop : goal.invariant-loop
invariant-loop l = Seeking l.z l.img l.key l.t l.cursor.slot (l.z.settings.slots - l.counter) × (l.cursor.slots ≡ l.z.settings.slots)
