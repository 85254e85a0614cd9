use Rattle.words.proofs.Bits.{put_bits-starts, put_bits-turns, put_bits-ends}
use native.Mathlib.Omega.{arith}
use Rattle.words.proofs.put_bits.Goals as goal

pub loop-done-init : goal.loop-done-init
loop-done-init c = put_bits-starts _ _ _ _ _

pub loop-done-preserved : goal.loop-done-preserved
loop-done-preserved c = put_bits-turns c.loop-done.invariant (omega arith) c.put_bit.ensures

pub returns : goal.returns
returns c = put_bits-ends c.loop-done.invariant (omega arith)
