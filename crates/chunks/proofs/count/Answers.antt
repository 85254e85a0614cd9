use native.Mathlib.Omega.{arith}
use Rattle.chunks.proofs.Covering.{counting-starts, counting-small, counting-turns}
use Rattle.chunks.proofs.count.Goals as goal

pub loop-i-init : goal.loop-i-init
loop-i-init c = counting-starts _ _ _

pub overflow_add-covered-in-loop-i : goal.overflow_add-covered-in-loop-i
overflow_add-covered-in-loop-i c = omega (arith, counting-small c.loop-i.invariant c.requires.few (omega arith))

pub loop-i-preserved : goal.loop-i-preserved
loop-i-preserved c = counting-turns c.loop-i.invariant (omega arith)
