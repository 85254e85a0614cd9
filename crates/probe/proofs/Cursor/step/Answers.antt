use mathlib.Core.Path.{refl, sym}
use native.Mathlib.Omega.{arith}
use Rattle.probe.proofs.Ring.{next_up, next-wrap}
use Rattle.probe.proofs.Cursor.step.Goals as goal

pub returns-then-slot-slots : goal.returns-then-slot-slots
returns-then-slot-slots c = (sym (next_up _ _ (omega arith)), refl)

pub returns-else-slot-slots : goal.returns-else-slot-slots
returns-else-slot-slots c = (sym (next-wrap _ _ (omega arith)), refl)
