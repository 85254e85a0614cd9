use Prim.Native.Nat.{◌≤◌}
use mathlib.Core.Path.{◌≡◌}
use Rattle.probe.specs.Ring.{dist}
use Rattle.search.proofs.Reaching.{Walking}
use Rattle.search.proofs.rules.steps_left.Given as goal

abbrev pub invariant-loop-cursor : goal.invariant-loop-cursor
invariant-loop-cursor l = Walking l.z l.img l.t l.j l.lookup l.cursor.slot × ((l.cursor.slots ≡ l.z.settings.slots) × (l.left ≤ l.steps))

abbrev pub decreases-loop-cursor : goal.decreases-loop-cursor
decreases-loop-cursor l = dist l.z.settings.slots l.cursor.slot l.j
