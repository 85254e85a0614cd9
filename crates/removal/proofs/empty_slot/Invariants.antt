use mathlib.Core.Path.{◌≡◌}
use Rattle.removal.proofs.Emptying.{Emptying}
use Rattle.removal.proofs.empty_slot.Given as goal

abbrev pub invariant-loop-left : goal.invariant-loop-left
invariant-loop-left l = Emptying l.z l.t l.j l.initial.img l.img l.cursor.slot l.hole l._left × (l.cursor.slots ≡ l.z.settings.slots)
