use native.Mathlib.Omega.{arith}
use Rattle.placement.proofs.Copying.{copying_starts, copying_turns, copying_ends}
use Rattle.placement.proofs.place.write_bytes.Goals as goal

pub loop-i-init : goal.loop-i-init
loop-i-init c = copying_starts _ _ _

pub loop-i-preserved : goal.loop-i-preserved
loop-i-preserved c = copying_turns c.loop-i.invariant (omega arith)

pub shape_of-s : goal.shape_of-s
shape_of-s c = c.loop-i.invariant.long

pub returns : goal.returns
returns c = copying_ends c.loop-i.invariant (omega arith)
