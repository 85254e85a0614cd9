use Rattle.words.proofs.Numbers.{be-starts, be-turns, be-ends, seven-bytes-lt}
use native.Mathlib.Omega.{arith}
use Rattle.words.proofs.read_be.Goals as goal

pub loop-k-init : goal.loop-k-init
loop-k-init c = be-starts _ _ _

pub overflow_mul-sum : goal.overflow_mul-sum
overflow_mul-sum c = omega (arith, seven-bytes-lt c.loop-k.invariant.fits (omega arith))

pub overflow_add-sum : goal.overflow_add-sum
overflow_add-sum c = omega (arith, seven-bytes-lt c.loop-k.invariant.fits (omega arith))

pub loop-k-preserved : goal.loop-k-preserved
loop-k-preserved c = be-turns c.loop-k.invariant c.from.result (omega arith) (omega arith) (omega arith)

pub returns : goal.returns
returns c = be-ends c.loop-k.invariant (omega arith)
