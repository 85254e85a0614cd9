use Rattle.std.specs.Prelude.{Ok}
use Rattle.settings.specs.Rules.{Valid}
use mathlib.Core.Path.{sym, ◌∙◌, ap, subst}
use Rattle.lists.proofs.Decides.{decided_true, decided-false}
use Rattle.settings.proofs.Versions.{block-least}
use Rattle.settings.proofs.Laws.{parse-bad-block, parse-bad-field, parse-accepts}
use Rattle.settings.proofs.parse.Goals as goal

pub returns-then-not-block_fits : goal.returns-then-not-block_fits
returns-then-not-block_fits c = sym (parse-bad-block _ (decided-false c.block_fits.result c.block_fits.ensures c.if-not-block_fits.true))

pub settings_of-st-requires : goal.settings_of-st-requires
settings_of-st-requires c = block-least _ (decided_true c.block_fits.result c.block_fits.ensures c.if-not-block_fits.false)

pub returns-then-valid : goal.returns-then-valid
returns-then-valid c =
    let f = decided_true c.block_fits.result c.block_fits.ensures c.if-not-block_fits.false in
    let v = decided_true c.valid.result c.valid.ensures c.if-valid.true in
    ap Ok c.settings_of-st.ensures ∙ sym (parse-accepts _ f (subst Valid c.settings_of-st.ensures v))

pub returns-else-valid : goal.returns-else-valid
returns-else-valid c =
    let f = decided_true c.block_fits.result c.block_fits.ensures c.if-not-block_fits.false in
    let h = decided-false c.valid.result c.valid.ensures c.if-valid.false in
    sym (parse-bad-field _ f (λ v. h (subst Valid (sym c.settings_of-st.ensures) v)))
