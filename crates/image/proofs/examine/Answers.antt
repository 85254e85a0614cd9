use mathlib.Core.Path.{ap, sym, ◌∙◌}
use Rattle.std.proofs.Common.{rules}
use Rattle.settings.proofs.Laws.{parse-only}
use Rattle.image.specs.Check.{after_block, examine}
use Rattle.image.proofs.examine.Goals as goal

pub examine_image-requires : goal.examine_image-requires
examine_image-requires c = (parse-only c.args.block.now c.in_ok-st.st (sym c.parse.ensures ∙ c.in_ok-st.was)).valid

pub returns-in_err-st : goal.returns-in_err-st
unfolding examine after_block
returns-in_err-st c = search rules

pub returns : goal.returns
unfolding examine after_block
returns c = c.examine_image.ensures ∙ sym (ap (after_block c.args.img.now) (sym c.parse.ensures ∙ c.in_ok-st.was))
