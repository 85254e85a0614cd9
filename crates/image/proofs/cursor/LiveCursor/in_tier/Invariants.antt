use Prim.Native.Nat.{◌-◌}
use Rattle.image.specs.Moving.{InTier}
use Rattle.image.proofs.cursor.LiveCursor.in_tier.Given as goal

abbrev pub invariant-loop-c : goal.invariant-loop-c
invariant-loop-c l = InTier l.z l.img l.initial.c l.c

abbrev pub decreases-loop-c : goal.decreases-loop-c
decreases-loop-c l = l.z.settings.slots - l.c.slot
