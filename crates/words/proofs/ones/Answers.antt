use Rattle.words.proofs.Bits.{ones_none, ones-more, ones-le}
use mathlib.Core.Path.{sym}
use native.Mathlib.Omega.{arith}
use Rattle.words.proofs.ones.Goals as goal

pub loop-k-init : goal.loop-k-init
loop-k-init c = sym (ones_none _ _ _)

pub overflow_add-sum : goal.overflow_add-sum
overflow_add-sum c = omega (arith, ones-le c.args.s.now c.args.at c.args.i c.loop-k.k)

pub loop-k-preserved : goal.loop-k-preserved
loop-k-preserved c = cc (ones-more c.args.s.now c.args.at c.args.i c.loop-k.k)
