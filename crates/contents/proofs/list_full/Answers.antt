use Rattle.contents.proofs.Gathering.{gathering_starts, gathering_full, gathering_empty, gathering_ends}
use mathlib.Core.Path.{sym, ◌∙◌}
use native.Mathlib.Omega.{arith}
use Rattle.contents.proofs.list_full.Goals as goal
use Rattle.contents.proofs.list_full.Goals.{then-slot-ne0, else-slot-ne0}

pub loop-j-init : goal.loop-j-init
loop-j-init c = gathering_starts c.args.z c.args.img.now c.args.t _

pub overflow_cast-list : goal.overflow_cast-list
overflow_cast-list c = omega (arith, c.loop-j.invariant.low, c.loop-j-test.true, c.requires.tier.framed.valid.slots)

pub offset_bounds-list-n : goal.offset_bounds-list-n
offset_bounds-list-n c = omega (arith, c.loop-j.invariant.few, c.loop-j-test.true, c.requires.tier.framed.valid.slots)

pub bounds-list-n : goal.bounds-list-n
bounds-list-n c = omega (arith, c.loop-j.invariant.few, c.loop-j.invariant.long, c.loop-j-test.true, c.requires.long)

pub slot-requires : goal.slot-requires
slot-requires c =
    record {
      tier = record { framed = c.requires.tier.framed; tier_in = c.requires.tier.tier_in };
      slot_in = omega (arith, c.loop-j-test.true);
    }

pub overflow_add-n : goal.overflow_add-n
overflow_add-n c = omega (arith, c.loop-j.invariant.few, c.loop-j-test.true, c.requires.tier.framed.valid.slots)

pub loop-j-preserved : goal.loop-j-preserved
loop-j-preserved c =
    elim c.if-slot-ne0.branch [
      | then-slot-ne0 w ↦
          gathering_full c.args.z c.args.img.now c.args.t c.loop-j.invariant c.requires.long
          (omega (arith, c.loop-j-test.true)) (λ e. w.if-slot-ne0.true (c.slot.ensures ∙ e)) w.n-is
      | else-slot-ne0 w ↦
          gathering_empty c.args.z c.args.img.now c.args.t c.loop-j.invariant c.requires.long
          (omega (arith, c.loop-j-test.true)) (sym c.slot.ensures ∙ w.if-slot-ne0.false) w.n-is
    ]

pub shape_of-list : goal.shape_of-list
shape_of-list c = c.loop-j.invariant.long

pub returns : goal.returns
returns c =
    gathering_ends c.args.z c.args.img.now c.args.t c.loop-j.invariant c.requires.long
    (omega (arith, c.loop-j-test.false))
