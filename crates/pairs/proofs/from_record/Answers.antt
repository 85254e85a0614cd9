use mathlib.Core.Path.{sym, ◌∙◌}
use Rattle.std.proofs.lemmas.Result.{MatchResult-at_ok, MatchResult-at_err}
use Rattle.pairs.proofs.Numbers.{bits_most, most-bits, held-not}
use Rattle.pairs.proofs.Records.{delay_of}
use Rattle.pairs.proofs.Answering.{wrong-length, wrong-delay, record_found}
use Rattle.pairs.proofs.from_record.Goals as goal

pub returns-in_default : goal.returns-in_default
returns-in_default c =
    wrong-length c.args.a c.args.b c.args.bytes.now (MatchResult-at_err _ _ c.in_default.field-0 c.in_default.is c.try_from.ensures.1)

pub returns-then-delay : goal.returns-then-delay
returns-then-delay c =
    let whole = MatchResult-at_ok _ _ c.in-Ok.record c.in-Ok.is c.try_from.ensures.1 in
    let is = delay_of c.args.bytes.now whole.same c.from_le_bytes-delay.ensures in
    wrong-delay c.args.a c.args.b c.args.bytes.now (sym is ∙ bits_most (record { sfits = c.from_le_bytes-delay.type_inv }) c.if-delay.true)

pub in_order-requires : goal.in_order-requires
in_order-requires c = held-not {d = c.from_le_bytes-delay.result} (record { sfits = c.from_le_bytes-delay.type_inv }) (λ e. c.if-delay.false (most-bits e))

pub returns : goal.returns
returns c =
    let whole = MatchResult-at_ok _ _ c.in-Ok.record c.in-Ok.is c.try_from.ensures.1 in
    record_found c.args.a c.args.b c.args.bytes.now whole.long (record { sfits = c.from_le_bytes-delay.type_inv })
    (record { sfits = c.in_order.type_inv }) (delay_of c.args.bytes.now whole.same c.from_le_bytes-delay.ensures)
    (λ e. c.if-delay.false (most-bits e)) c.in_order.ensures.value
