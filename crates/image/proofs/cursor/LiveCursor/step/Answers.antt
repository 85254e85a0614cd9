use mathlib.Core.Path.{◌∙◌}
use native.Mathlib.Omega.{arith}
use Rattle.image.proofs.Rest.{slot_in_lem, moves-rest, rest-none, rest-cons}
use Rattle.image.proofs.cursor.LiveCursor.step.Goals as goal

pub returns-then-c-eq0 : goal.returns-then-c-eq0
returns-then-c-eq0 c =
    moves-rest c.args.z c.args.img.now c.settled-c.ensures.0 ∙ rest-none c.args.z c.args.img.now _ (c.settled-c.ensures.1.none c.if-c-eq0.true)

pub overflow_add-after : goal.overflow_add-after
overflow_add-after c = omega (arith, (c.settled-c.ensures.1.on_full c.if-c-eq0.false).slot_in, c.requires.chains.framed.valid.slots)

pub entry-requires : goal.entry-requires
entry-requires c = (c.requires.chains.framed, c.settled-c.ensures.1.on_full c.if-c-eq0.false)

pub returns : goal.returns
returns c =
    let full = c.settled-c.ensures.1.on_full c.if-c-eq0.false in (
      slot_in_lem c.args.z c.args.img.now c.settled-c.ensures.0.in_chain _ _,
      moves-rest c.args.z c.args.img.now c.settled-c.ensures.0 ∙ rest-cons c.args.z c.args.img.now c.settled-c.ensures.0.in_chain full c.entry.ensures,
    )
