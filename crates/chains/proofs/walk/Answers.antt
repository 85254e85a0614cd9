use Rattle.layout.proofs.Bounds.{framed-bounded}
use mathlib.Core.Path.{refl}
use native.Mathlib.Omega.{arith}
use Rattle.chains.proofs.Walking.{walk-starts, walk-met, walk_ends, walk-lost, walk-turns, walk-out}
use Rattle.chains.proofs.walk.Goals as goal

pub tier_count-count-requires : goal.tier_count-count-requires
tier_count-count-requires c = framed-bounded c.requires.counting.framed

pub loop-k-init : goal.loop-k-init
loop-k-init c = walk-starts _ _ _ _ _

pub returns-then-t-eq0 : goal.returns-then-t-eq0
returns-then-t-eq0 c = walk_ends _ _ _ _ _ c.loop-k.invariant c.if-t-eq0.true refl

pub returns-then-t-z : goal.returns-then-t-z
returns-then-t-z c = walk-lost _ _ _ _ _ c.loop-k.invariant (omega arith) (omega arith) (λ x. omega arith)

pub returns-then-count-t : goal.returns-then-count-t
returns-then-count-t c = walk-lost _ _ _ _ _ c.loop-k.invariant (omega arith) (omega arith) (λ x. omega arith)

pub overflow_add-times : goal.overflow_add-times
overflow_add-times c = omega (arith, walk-met _ _ _ _ _ c.loop-k.invariant c.requires.counting.met c.loop-k.t)

pub loop-k-preserved : goal.loop-k-preserved
loop-k-preserved c = walk-turns _ _ _ _ _ c.loop-k.invariant (omega arith) (omega arith) (omega arith) c.shared-t.ensures

pub returns-then-t-eq0-2 : goal.returns-then-t-eq0-2
returns-then-t-eq0-2 c = walk_ends _ _ _ _ _ c.loop-k.invariant c.if-t-eq0-2.true (omega arith)

pub returns : goal.returns
returns c = walk-out _ _ _ _ _ c.loop-k.invariant (omega arith) c.if-t-eq0-2.false
