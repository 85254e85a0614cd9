use mathlib.Core.Path.{sym, ◌∙◌}
use Rattle.std.proofs.Common.{rules}
use lib.Seq.{length-take-le}
use Rattle.quick.proofs.Opening.{block-refused, settings-valid, frame-opened}
use Rattle.quick.proofs.open_image.Goals as goal

pub slice_bounds-parse-end : goal.slice_bounds-parse-end
slice_bounds-parse-end c = sym (length-take-le c.looked_at-n.result c.args.block.now c.looked_at-n.ensures.within)

pub frame_of-requires : goal.frame_of-requires
frame_of-requires c = settings-valid c.args.block.now c.args.img.now (c.parse.ensures ∙ c.looked_at-n.ensures.same) c.in_ok-st.st c.in_ok-st.was

pub returns-in_err-st : goal.returns-in_err-st
returns-in_err-st c =
    rw (block-refused c.args.block.now c.args.img.now (c.parse.ensures ∙ c.looked_at-n.ensures.same) _ c.in_err-st.was) (search rules)

pub returns : goal.returns
returns c =
    c.ok_or.ensures.value
    ∙ frame-opened c.args.block.now c.args.img.now (c.parse.ensures ∙ c.looked_at-n.ensures.same) c.in_ok-st.st c.in_ok-st.was c.frame_of.ensures
