use native.Mathlib.Omega.{arith}
use mathlib.Core.Path.{◌∙◌}
use Rattle.placement.proofs.OldEntry.{full-old, full_else}
use Rattle.placement.proofs.runs.full_but.Goals as goal

pub returns-then-t-o : goal.returns-then-t-o
returns-then-t-o c =
    rw c.in-Some.is
    (omega (arith, full-old c.args.z c.args.img.now c.in-Some.o c.args.t c.if-t-o.true, c.full_slots-full.ensures, c.saturating_sub.ensures))

pub returns-else-t-o : goal.returns-else-t-o
returns-else-t-o c = rw c.in-Some.is (c.full_slots-full.ensures ∙ full_else c.args.z c.args.img.now _ c.args.t c.if-t-o.false)

pub returns-in_default : goal.returns-in_default
returns-in_default c = rw c.in_default.is (c.full_slots-full.ensures ∙ full_else c.args.z c.args.img.now _ c.args.t tt)
