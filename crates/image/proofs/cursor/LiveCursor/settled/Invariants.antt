use Prim.Native.Nat.{◌-◌}
use Rattle.image.specs.Moving.{Moves}
use Rattle.image.proofs.cursor.LiveCursor.settled.Given as goal

abbrev pub invariant-loop-c : goal.invariant-loop-c
invariant-loop-c l = Moves l.z l.img l.initial.c l.c

abbrev pub decreases-loop-c : goal.decreases-loop-c
decreases-loop-c l = l.z.settings.segments - l.c.segment
