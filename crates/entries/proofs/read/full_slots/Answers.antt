use native.Mathlib.Omega.{arith}
use mathlib.Core.Path.{sym, ◌∙◌}
use Rattle.entries.proofs.FullSlots.{counted-starts, counted-few, counted-full, counted-empty, counted-ends}
use Rattle.entries.proofs.read.full_slots.Goals as goal
use Rattle.entries.proofs.read.full_slots.Goals.{then-slot-ne0, else-slot-ne0}

pub loop-j-init : goal.loop-j-init
loop-j-init c = counted-starts _ _ _

pub overflow_add-n : goal.overflow_add-n
overflow_add-n c = omega (arith, counted-few c.args.z c.args.img.now c.args.t c.loop-j.invariant)

pub loop-j-preserved : goal.loop-j-preserved
loop-j-preserved c =
    elim c.if-slot-ne0.branch [
      | then-slot-ne0 v ↦
          counted-full c.args.z c.args.img.now c.args.t c.loop-j.invariant (λ e. v.if-slot-ne0.true (c.slot.ensures ∙ e)) v.n-is
      | else-slot-ne0 v ↦
          counted-empty c.args.z c.args.img.now c.args.t c.loop-j.invariant (sym c.slot.ensures ∙ v.if-slot-ne0.false) v.n-is
    ]

pub returns : goal.returns
returns c = counted-ends c.args.z c.args.img.now c.args.t c.loop-j.invariant (omega arith)
