use mathlib.Core.Path.{◌≡◌}
use Rattle.probe.specs.Ring.{dist}
use Rattle.search.proofs.Ending.{Coming}
use Rattle.search.proofs.rules.ends_at.Given as goal

abbrev pub invariant-loop-cursor : goal.invariant-loop-cursor
invariant-loop-cursor l = Coming l.z l.img l.t l.j l.cursor.slot × (l.cursor.slots ≡ l.z.settings.slots)

abbrev pub decreases-loop-cursor : goal.decreases-loop-cursor
decreases-loop-cursor l = dist l.z.settings.slots l.cursor.slot l.j
