use native.Mathlib.Omega.{arith}
use mathlib.Core.Path.{ap, ◌∙◌}
use Prim.Native.Nat.{ℕ}
use Rattle.probe.specs.Ring.{next}
use Rattle.removal.proofs.Emptying.{emptying_starts, emptying_framed, emptying_long, emptying_empty, emptying_out, emptying_stays, emptying_moves}
use Rattle.removal.proofs.empty_slot.Goals as goal
use Rattle.removal.proofs.empty_slot.Goals.{then-not-stays, else-not-stays}

pub loop-left-init : goal.loop-left-init
loop-left-init c = (
  emptying_starts c.args.z c.args.t c.args.j c.args.img.now c.step-cursor.result.slot c.requires.slot_in c.step-cursor.ensures.0,
  c.step-cursor.ensures.1,
)

pub slot-v-requires : goal.slot-v-requires
slot-v-requires c =
    record {
      tier = record {
        framed = emptying_framed c.args.z c.args.t c.loop-left.invariant.0 c.requires.tier.framed;
        tier_in = c.requires.tier.tier_in;
      };
      slot_in = c.loop-left.invariant.0.i_lt;
    }

pub put_slot-requires : goal.put_slot-requires
put_slot-requires c =
    record {
      tier = record {
        framed = emptying_framed c.args.z c.args.t c.loop-left.invariant.0 c.requires.tier.framed;
        tier_in = c.requires.tier.tier_in;
      };
      slot_in = c.loop-left.invariant.0.hole-lt;
    }

pub shape_of-img-then-v-eq0 : goal.shape_of-img-then-v-eq0
shape_of-img-then-v-eq0 c =
    emptying_long c.args.z c.args.t c.loop-left.invariant.0 _
    c.put_slot.ensures

pub returns-then-v-eq0 : goal.returns-then-v-eq0
returns-then-v-eq0 c =
    emptying_empty c.args.z c.args.t c.loop-left.invariant.0
    c.slot-v.result c.slot-v.ensures
    c.if-v-eq0.true c.put_slot.ensures

pub stays-requires : goal.stays-requires
stays-requires c = (c.requires.tier.framed.valid, c.loop-left.invariant.0.hole-lt, c.loop-left.invariant.0.i_lt)

pub put_slot-requires-then-not-stays : goal.put_slot-requires-then-not-stays
put_slot-requires-then-not-stays c =
    record {
      tier = record {
        framed = emptying_framed c.args.z c.args.t c.loop-left.invariant.0 c.requires.tier.framed;
        tier_in = c.requires.tier.tier_in;
      };
      slot_in = c.loop-left.invariant.0.hole-lt;
    }

pub step-cursor-requires-in-loop-left : goal.step-cursor-requires-in-loop-left
step-cursor-requires-in-loop-left c = omega (arith, c.loop-left.invariant.0.i_lt, c.loop-left.invariant.1)

pub loop-left-preserved : goal.loop-left-preserved
loop-left-preserved c =
    let e = c.step-cursor-in-loop-left.ensures.0 ∙ ap (λ (n : ℕ). next n c.loop-left.cursor.slot) c.loop-left.invariant.1 in
    let pos = c.loop-left-test.true in (
      elim c.if-not-stays.branch [
        | then-not-stays w ↦
            emptying_moves c.args.z c.args.t c.loop-left.invariant.0 c.slot-v.result c.slot-v.ensures c.if-v-eq0.false pos
            c.step-cursor-in-loop-left.result.slot e c.stays.result c.stays.ensures w.if-not-stays.true
            (w.img-is ∙ w.put_slot-then-not-stays.ensures) w.hole-is
        | else-not-stays w ↦
            emptying_stays c.args.z c.args.t c.loop-left.invariant.0 c.slot-v.result c.slot-v.ensures c.if-v-eq0.false pos
            c.step-cursor-in-loop-left.result.slot e c.stays.result c.stays.ensures w.if-not-stays.false w.img-is w.hole-is
      ],
      c.step-cursor-in-loop-left.ensures.1 ∙ c.loop-left.invariant.1,
    )

pub put_slot-requires-2 : goal.put_slot-requires-2
put_slot-requires-2 c =
    record {
      tier = record {
        framed = emptying_framed c.args.z c.args.t c.loop-left.invariant.0 c.requires.tier.framed;
        tier_in = c.requires.tier.tier_in;
      };
      slot_in = c.loop-left.invariant.0.hole-lt;
    }

pub shape_of-img : goal.shape_of-img
shape_of-img c = emptying_long c.args.z c.args.t c.loop-left.invariant.0 _ c.put_slot-2.ensures

pub returns : goal.returns
returns c = emptying_out c.args.z c.args.t c.loop-left.invariant.0 (omega arith) c.put_slot-2.ensures
