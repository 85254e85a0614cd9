use mathlib.Core.Path.{ap, sym, ◌∙◌}
use Rattle.pairs.proofs.Numbers.{bits_most, most-bits, held-not}
use Rattle.lists.proofs.Decides.{decided_true, decided-false}
use Rattle.pairs.proofs.Records.{record_in_order}
use Rattle.pairs.proofs.Answering.{set_misfit, set-most, set-stored}
use Rattle.std.specs.Prelude.{Err}
use Rattle.std.proofs.lemmas.Result.{err_from_is_err_and}
use Rattle.pairs.specs.Delays.{stored}
use Rattle.pairs.proofs.set_delay.Goals as goal

pub returns-then-not-pair : goal.returns-then-not-pair
returns-then-not-pair c =
    set_misfit c.args.block.now c.args.img.now c.args.a c.args.b c.args.d
    (decided-false c.channels_fit-pair.result c.channels_fit-pair.ensures c.if-not-pair.true) c.unless_refused.ensures

pub returns-then-d-eqminus2147483648 : goal.returns-then-d-eqminus2147483648
returns-then-d-eqminus2147483648 c =
    set-most c.args.block.now c.args.img.now c.args.a c.args.b c.args.d
    (decided_true c.channels_fit-pair.result c.channels_fit-pair.ensures c.if-not-pair.false) (bits_most c.ranges.d c.if-d-eqminus2147483648.true)
    c.unless_refused-then-d-eqminus2147483648.ensures

pub pair_key-key-requires : goal.pair_key-key-requires
pair_key-key-requires c = decided_true c.channels_fit-pair.result c.channels_fit-pair.ensures c.if-not-pair.false

pub in_order-requires : goal.in_order-requires
in_order-requires c = held-not c.ranges.d (λ e. c.if-d-eqminus2147483648.false (most-bits e))

pub returns-in_err-store : goal.returns-in_err-store
returns-in_err-store c =
    let refused = err_from_is_err_and c.from_residual.result c.from_residual.ensures.1 in
    set-stored c.args.block.now c.args.img.now c.args.a c.args.b c.args.d
    (decided_true c.channels_fit-pair.result c.channels_fit-pair.ensures c.if-not-pair.false)
    (λ e. c.if-d-eqminus2147483648.false (most-bits e)) c.pair_key-key.ensures
    (record_in_order c.args.a c.args.b c.ranges.d (record { sfits = c.in_order.type_inv }) c.in_order.ensures.value c.delay_record-bytes.ensures)
    c.store.ensures (refused.1 ∙ ap Err refused.2 ∙ ap stored (sym c.in_err-store.was))

pub returns : goal.returns
returns c =
    set-stored c.args.block.now c.args.img.now c.args.a c.args.b c.args.d
    (decided_true c.channels_fit-pair.result c.channels_fit-pair.ensures c.if-not-pair.false)
    (λ e. c.if-d-eqminus2147483648.false (most-bits e)) c.pair_key-key.ensures
    (record_in_order c.args.a c.args.b c.ranges.d (record { sfits = c.in_order.type_inv }) c.in_order.ensures.value c.delay_record-bytes.ensures)
    c.store.ensures (ap stored (sym c.in_ok-store.was))
