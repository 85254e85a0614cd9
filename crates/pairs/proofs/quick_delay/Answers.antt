use mathlib.Core.Path.{ap, sym, ◌∙◌}
use Rattle.std.specs.Prelude.{Ok, Err}
use Rattle.std.proofs.lemmas.Result.{err_from_is_err_and}
use Rattle.lists.proofs.Decides.{decided_true, decided-false}
use Rattle.quick.proofs.Answering.{quick_within}
use Rattle.pairs.proofs.Answering.{within_by, located-refused}
use Rattle.pairs.proofs.Quick.{quick_ask-refused, quick_ask_misfit, quick_ask-looked}
use Rattle.pairs.proofs.quick_delay.Goals as goal

pub returns-in_err-open_image : goal.returns-in_err-open_image
returns-in_err-open_image c =
    let refused = err_from_is_err_and c.from_residual.result c.from_residual.ensures.1 in
    rw (refused.1, refused.2) (quick_ask-refused c.args.block.now c.args.img.now c.args.a c.args.b c.open_image.ensures _ c.in_err-open_image.was)

pub returns-then-not-channels_fit : goal.returns-then-not-channels_fit
returns-then-not-channels_fit c =
    quick_ask_misfit c.args.block.now c.args.img.now c.args.a c.args.b c.open_image.ensures _
    c.in_ok-open_image.was (decided-false c.channels_fit.result c.channels_fit.ensures c.if-not-channels_fit.true)

pub pair_key-key-requires : goal.pair_key-key-requires
pair_key-key-requires c = decided_true c.channels_fit.result c.channels_fit.ensures c.if-not-channels_fit.false

pub from_located-requires : goal.from_located-requires
from_located-requires c =
    within_by c.args.img.now c.in_ok-quick_lookup.field-0
    (λ p e.
    quick_within c.args.block.now c.args.img.now _ c.quick_lookup.result c.quick_lookup.ensures p (c.in_ok-quick_lookup.was ∙ ap Ok e))

pub returns-in_err-quick_lookup : goal.returns-in_err-quick_lookup
returns-in_err-quick_lookup c =
    let refused = err_from_is_err_and c.from_residual-in_err-quick_lookup.result c.from_residual-in_err-quick_lookup.ensures.1 in
    quick_ask-looked c.args.block.now c.args.img.now c.args.a c.args.b
    (decided_true c.channels_fit.result c.channels_fit.ensures c.if-not-channels_fit.false) c.pair_key-key.ensures
    (sym c.in_err-quick_lookup.was ∙ c.quick_lookup.ensures)
    (located-refused c.args.img.now c.args.a c.args.b c.in_err-quick_lookup.field-0.0 (refused.1 ∙ ap Err refused.2))

pub returns : goal.returns
returns c =
    quick_ask-looked c.args.block.now c.args.img.now c.args.a c.args.b
    (decided_true c.channels_fit.result c.channels_fit.ensures c.if-not-channels_fit.false) c.pair_key-key.ensures
    (sym c.in_ok-quick_lookup.was ∙ c.quick_lookup.ensures) c.from_located.ensures
