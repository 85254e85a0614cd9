use mathlib.Core.Path.{◌≡◌}
use Rattle.image.specs.Moving.{Moves}
use Rattle.image.proofs.cursor.LiveCursor.in_chain.Given as goal

abbrev pub invariant-loop-c : goal.invariant-loop-c
invariant-loop-c l = Moves l.z l.img l.initial.c l.c × (l.c.segment ≡ l.initial.c.segment)

abbrev pub decreases-loop-c : goal.decreases-loop-c
decreases-loop-c l = l.c.left
