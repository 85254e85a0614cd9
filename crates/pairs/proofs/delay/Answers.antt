use mathlib.Core.Path.{ap, sym, ◌∙◌}
use Rattle.std.specs.Prelude.{Ok, Err}
use Rattle.std.proofs.lemmas.Result.{err_from_is_err_and}
use native.Mathlib.Omega.{arith}
use Rattle.lists.proofs.Decides.{decided_true, decided-false}
use Rattle.chronicle_map.proofs.Calling.{record_within}
use Rattle.pairs.proofs.Answering.{within_by, located-refused, ask-refused, ask_misfit, ask-looked}
use Rattle.pairs.proofs.delay.Goals as goal

pub returns-in-Refused : goal.returns-in-Refused
returns-in-Refused c = ask-refused c.args.block.now c.args.img.now c.args.a c.args.b c.check-verdict.ensures c.in-Refused.stage c.in-Refused.is

pub returns-in-Accepted : goal.returns-in-Accepted
returns-in-Accepted c =
    ask_misfit c.args.block.now c.args.img.now c.args.a c.args.b c.check-verdict.ensures c.in-Accepted.field-0
    c.in-Accepted.is (decided-false c.channels_fit.result c.channels_fit.ensures c.if-not-channels_fit.true)

pub pair_key-key-requires : goal.pair_key-key-requires
pair_key-key-requires c = decided_true c.channels_fit.result c.channels_fit.ensures c.if-not-channels_fit.false

pub from_located-requires : goal.from_located-requires
from_located-requires c =
    within_by c.args.img.now c.in_ok-lookup.field-0
    (λ p e.
    record_within c.args.block.now c.args.img.now _ c.lookup.result c.lookup.ensures (λ i. omega (arith, c.type_inv.img i)) p
    (c.in_ok-lookup.was ∙ ap Ok e))

pub returns-in_err-lookup : goal.returns-in_err-lookup
returns-in_err-lookup c =
    let refused = err_from_is_err_and c.from_residual.result c.from_residual.ensures.1 in
    ask-looked c.args.block.now c.args.img.now c.args.a c.args.b
    (decided_true c.channels_fit.result c.channels_fit.ensures c.if-not-channels_fit.false) c.pair_key-key.ensures
    (sym c.in_err-lookup.was ∙ c.lookup.ensures)
    (located-refused c.args.img.now c.args.a c.args.b c.in_err-lookup.field-0.0 (refused.1 ∙ ap Err refused.2))

pub returns : goal.returns
returns c =
    ask-looked c.args.block.now c.args.img.now c.args.a c.args.b
    (decided_true c.channels_fit.result c.channels_fit.ensures c.if-not-channels_fit.false) c.pair_key-key.ensures
    (sym c.in_ok-lookup.was ∙ c.lookup.ensures) c.from_located.ensures
