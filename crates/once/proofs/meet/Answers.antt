use native.Mathlib.Omega.{arith}
use Rattle.once.proofs.Refs.{ref-small}
use Rattle.once.proofs.Reading.{chain-tier}
use Rattle.once.proofs.Walking.{can-seek, meet-again, meet-fresh}
use Rattle.once.proofs.meet.Goals as goal

pub seek-at-requires : goal.seek-at-requires
seek-at-requires c = can-seek c.args.z c.args.img.now c.args.by c.args.p c.args.s c.args.t (c.requires)

pub offset_bounds-table-at : goal.offset_bounds-table-at
offset_bounds-table-at c = omega (arith, c.seek-at.ensures.1, c.requires.places.few)

pub returns-then-table-at-ne0 : goal.returns-then-table-at-ne0
returns-then-table-at-ne0 c =
    meet-again c.args.z c.args.img.now c.args.by c.args.p c.args.s c.args.t (c.requires) c.seek-at.result c.seek-at.ensures.0 c.if-table-at-ne0.true

pub returns-then-left-eq0 : goal.returns-then-left-eq0
returns-then-left-eq0 c = tt

pub overflow_mul-table : goal.overflow_mul-table
overflow_mul-table c =
    let tier = chain-tier c.requires.slot.tier.pass.reads.fitting c.requires.slot.tier.tier_in in
    let small =
    ref-small c.args.t c.args.z.settings.slots c.args.j (omega (arith, tier, c.requires.slot.tier.pass.reads.fitting.chains.framed.tier_count))
    c.requires.slot.tier.pass.reads.fitting.chains.framed.valid.slots.1.1
    c.requires.slot.slot_in in
    omega (arith, small)

pub overflow_add-table : goal.overflow_add-table
overflow_add-table c =
    let tier = chain-tier c.requires.slot.tier.pass.reads.fitting c.requires.slot.tier.tier_in in
    let small =
    ref-small c.args.t c.args.z.settings.slots c.args.j (omega (arith, tier, c.requires.slot.tier.pass.reads.fitting.chains.framed.tier_count))
    c.requires.slot.tier.pass.reads.fitting.chains.framed.valid.slots.1.1
    c.requires.slot.slot_in in
    omega (arith, small)

pub overflow_cast-table : goal.overflow_cast-table
overflow_cast-table c =
    let tier = chain-tier c.requires.slot.tier.pass.reads.fitting c.requires.slot.tier.tier_in in
    let small =
    ref-small c.args.t c.args.z.settings.slots c.args.j (omega (arith, tier, c.requires.slot.tier.pass.reads.fitting.chains.framed.tier_count))
    c.requires.slot.tier.pass.reads.fitting.chains.framed.valid.slots.1.1
    c.requires.slot.slot_in in
    omega (arith, small)

pub offset_bounds-table-at-2 : goal.offset_bounds-table-at-2
offset_bounds-table-at-2 c = omega (arith, c.seek-at.ensures.1, c.requires.places.few)

pub bounds-table-at-2 : goal.bounds-table-at-2
bounds-table-at-2 c = c.seek-at.ensures.1

pub returns : goal.returns
returns c =
    meet-fresh c.args.z c.args.img.now c.args.by c.args.p c.args.s c.args.t (c.requires) c.seek-at.result c.seek-at.ensures.0
    (omega (arith, c.if-table-at-ne0.false))
    c.if-left-eq0.false
