use mathlib.Core.Path.{sym, ◌∙◌}
use mathlib.Core.Logic.{inl, inr}
use Rattle.leb128.proofs.Decode.{decode-end, decode-1, decode-end-1, decode-2, decode-end-2, decode-3, accept-2, accept-3, refuse-2, refuse-3}
use native.Mathlib.Omega.{arith}
use Rattle.leb128.proofs.read.Goals as goal

pub returns-in_err-get : goal.returns-in_err-get
returns-in_err-get c =
    c.from_residual.ensures ∙ sym (decode-end _ _ c.in_err-get.ensures.lookup.3)

pub returns-then-a-lt128 : goal.returns-then-a-lt128
returns-then-a-lt128 c =
    sym (decode-1 _ _ c.from-a.result c.in_ok-get.ensures.lookup.3.0 (c.from-a.ensures ∙ c.in_ok-get.ensures.lookup.3.1 0) (omega arith))

pub returns-in_err-get-2 : goal.returns-in_err-get-2
returns-in_err-get-2 c =
    c.from_residual-in_err-get-2.ensures
    ∙ sym (decode-end-1 _ _ c.from-a.result c.in_ok-get.ensures.lookup.3.0 (c.from-a.ensures ∙ c.in_ok-get.ensures.lookup.3.1 0) (omega arith)
    c.in_err-get-2.ensures.lookup.3)

pub returns-then-b-eq0 : goal.returns-then-b-eq0
returns-then-b-eq0 c =
    sym (decode-2 _ _ c.from-a.result c.in_ok-get.ensures.lookup.3.0 (c.from-a.ensures ∙ c.in_ok-get.ensures.lookup.3.1 0) (omega arith)
    c.from-b.result c.in_ok-get-2.ensures.lookup.3.0 (c.from-b.ensures ∙ c.in_ok-get-2.ensures.lookup.3.1 0) (omega arith)
    ∙ refuse-2 _ _ _ (omega arith) (inl (omega arith)))

pub returns-then-b-lt128 : goal.returns-then-b-lt128
returns-then-b-lt128 c =
    sym (decode-2 _ _ c.from-a.result c.in_ok-get.ensures.lookup.3.0 (c.from-a.ensures ∙ c.in_ok-get.ensures.lookup.3.1 0) (omega arith)
    c.from-b.result c.in_ok-get-2.ensures.lookup.3.0 (c.from-b.ensures ∙ c.in_ok-get-2.ensures.lookup.3.1 0) (omega arith)
    ∙ accept-2 _ _ _ (omega arith) (omega arith) (omega arith) (omega arith))

pub returns-in_err-get-3 : goal.returns-in_err-get-3
returns-in_err-get-3 c =
    c.from_residual-in_err-get-3.ensures
    ∙ sym (decode-end-2 _ _ c.from-a.result c.in_ok-get.ensures.lookup.3.0 (c.from-a.ensures ∙ c.in_ok-get.ensures.lookup.3.1 0) (omega arith)
    c.from-b.result c.in_ok-get-2.ensures.lookup.3.0 (c.from-b.ensures ∙ c.in_ok-get-2.ensures.lookup.3.1 0) (omega arith) c.in_err-get-3.ensures.lookup.3)

pub returns-then-c-eq0 : goal.returns-then-c-eq0
returns-then-c-eq0 c =
    sym (decode-3 _ _ c.from-a.result c.in_ok-get.ensures.lookup.3.0 (c.from-a.ensures ∙ c.in_ok-get.ensures.lookup.3.1 0) (omega arith)
    c.from-b.result c.in_ok-get-2.ensures.lookup.3.0 (c.from-b.ensures ∙ c.in_ok-get-2.ensures.lookup.3.1 0) (omega arith)
    c.from-c.result c.in_ok-get-3.ensures.lookup.3.0 (c.from-c.ensures ∙ c.in_ok-get-3.ensures.lookup.3.1 0)
    ∙ refuse-3 _ _ _ _ (inl (omega arith)))

pub returns-then-c-gt3 : goal.returns-then-c-gt3
returns-then-c-gt3 c =
    sym (decode-3 _ _ c.from-a.result c.in_ok-get.ensures.lookup.3.0 (c.from-a.ensures ∙ c.in_ok-get.ensures.lookup.3.1 0) (omega arith)
    c.from-b.result c.in_ok-get-2.ensures.lookup.3.0 (c.from-b.ensures ∙ c.in_ok-get-2.ensures.lookup.3.1 0) (omega arith)
    c.from-c.result c.in_ok-get-3.ensures.lookup.3.0 (c.from-c.ensures ∙ c.in_ok-get-3.ensures.lookup.3.1 0)
    ∙ refuse-3 _ _ _ _ (inr (omega arith)))

pub returns : goal.returns
returns c =
    sym (decode-3 _ _ c.from-a.result c.in_ok-get.ensures.lookup.3.0 (c.from-a.ensures ∙ c.in_ok-get.ensures.lookup.3.1 0) (omega arith)
    c.from-b.result c.in_ok-get-2.ensures.lookup.3.0 (c.from-b.ensures ∙ c.in_ok-get-2.ensures.lookup.3.1 0) (omega arith)
    c.from-c.result c.in_ok-get-3.ensures.lookup.3.0 (c.from-c.ensures ∙ c.in_ok-get-3.ensures.lookup.3.1 0)
    ∙ accept-3 _ _ _ _ (omega arith) (omega arith) (omega arith) (omega arith) (omega arith) (omega arith))
