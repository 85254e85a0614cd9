use native.Mathlib.Omega.{arith}
use Rattle.image.proofs.Rest.{tier-starts, tier-met, tier-empty, tier-over, tier-found}
use Rattle.image.proofs.cursor.LiveCursor.in_tier.Goals as goal

pub loop-c-init : goal.loop-c-init
loop-c-init c = tier-starts c.args.z c.args.img.now c.requires.in_chain

pub slot-requires : goal.slot-requires
slot-requires c =
    record {
      tier = record {
        framed = c.requires.framed;
        tier_in = tier-met c.args.z c.args.img.now c.requires.some c.requires.tier_is c.loop-c.invariant;
      };
      slot_in = omega arith;
    }

pub overflow_add-c : goal.overflow_add-c
overflow_add-c c = omega (arith, c.requires.framed.valid.slots)

pub loop-c-smaller-then-slot-eq0 : goal.loop-c-smaller-then-slot-eq0
loop-c-smaller-then-slot-eq0 c = omega arith

pub loop-c-preserved-then-slot-eq0 : goal.loop-c-preserved-then-slot-eq0
loop-c-preserved-then-slot-eq0 c =
    tier-empty c.args.z c.args.img.now c.requires.some c.requires.tier_is c.loop-c.invariant (omega arith) c.slot.ensures c.if-slot-eq0.true

pub returns-then-c-eq0 : goal.returns-then-c-eq0
returns-then-c-eq0 c = (
  c.loop-c.invariant,
  λ h. tier-found c.args.z c.args.img.now c.requires.some c.requires.tier_is c.loop-c.invariant h c.slot.ensures
      c.if-slot-eq0.false c.if-c-eq0.true,
)

pub overflow_sub-c : goal.overflow_sub-c
overflow_sub-c c = omega arith

pub overflow_add-c-in-loop-c : goal.overflow_add-c-in-loop-c
overflow_add-c-in-loop-c c = omega (arith, c.requires.framed.valid.slots)

pub loop-c-smaller : goal.loop-c-smaller
loop-c-smaller c = omega arith

pub loop-c-preserved : goal.loop-c-preserved
loop-c-preserved c =
    tier-over c.args.z c.args.img.now c.requires.some c.requires.tier_is c.loop-c.invariant (omega arith) c.slot.ensures c.if-slot-eq0.false c.if-c-eq0.false

pub returns : goal.returns
returns c = (c.loop-c.invariant, λ h. absurd (omega arith))
