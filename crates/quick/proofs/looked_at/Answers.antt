use native.Mathlib.Omega.{arith}
use Rattle.quick.proofs.Opening.{all_alike, front-alike}
use Rattle.quick.proofs.looked_at.Goals as goal

pub returns-then-block-most : goal.returns-then-block-most
returns-then-block-most c = all_alike c.args.block.now

pub returns : goal.returns
returns c = front-alike c.args.block.now _ (omega (arith, c.block_size-most.ensures)) (omega (arith, c.block_size-most.ensures))
