use native.Mathlib.Omega.{arith}
use mathlib.Core.Path.{sym, ◌∙◌}
use Rattle.placement.proofs.LowestRun.{running-starts, running-ends, running-broken, running-turns, running-found}
use Rattle.placement.proofs.runs.lowest_run.Goals as goal

pub loop-i-init : goal.loop-i-init
loop-i-init c = running-starts _ _ _ _ _ c.requires.some c.scan_from-i.ensures.0 c.scan_from-i.ensures.1

pub loop-i-preserved-then-not-is_clear : goal.loop-i-preserved-then-not-is_clear
loop-i-preserved-then-not-is_clear c = running-broken _ _ _ _ _ c.loop-i.invariant (omega arith) (sym c.is_clear.ensures ∙ c.if-not-is_clear.true)

pub returns-then-have-n : goal.returns-then-have-n
returns-then-have-n c = running-found _ _ _ _ _ c.loop-i.invariant (omega arith) (sym c.is_clear.ensures ∙ c.if-not-is_clear.false) c.if-have-n.true

pub loop-i-preserved : goal.loop-i-preserved
loop-i-preserved c = running-turns _ _ _ _ _ c.loop-i.invariant (omega arith) (sym c.is_clear.ensures ∙ c.if-not-is_clear.false) c.if-have-n.false

pub returns : goal.returns
returns c = running-ends _ _ _ _ _ c.loop-i.invariant (omega arith)
