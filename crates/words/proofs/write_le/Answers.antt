use Rattle.words.proofs.Numbers.{put_le-starts, put_le-turns, put_le-ends}
use native.Mathlib.Omega.{arith}
use Rattle.words.proofs.write_le.Goals as goal

pub loop-k-init : goal.loop-k-init
loop-k-init c = put_le-starts _ _ _ _

pub loop-k-preserved : goal.loop-k-preserved
loop-k-preserved c = put_le-turns c.loop-k.invariant (omega arith)

pub returns : goal.returns
returns c = put_le-ends c.loop-k.invariant (omega arith)
