use borrow.Author.Rules.{rules}
use Rattle.leb128.proofs.Encode.{write-starts, write-some, write-turns, write-last, write-ends}
use lib.ListN.{length-set}
use native.Mathlib.Omega.{arith}
use Rattle.leb128.proofs.write.Goals as goal

pub loop-init : goal.loop-init
loop-init c = rw c.size-counter.ensures (write-starts _ _ _ (search rules))

pub bounds-s-next : goal.bounds-s-next
bounds-s-next c = omega (arith, c.loop.invariant.end)

pub overflow_add-next : goal.overflow_add-next
overflow_add-next c = omega (arith, c.loop.invariant.end)

pub loop-preserved : goal.loop-preserved
loop-preserved c = write-turns c.loop.invariant (omega arith)

pub overflow_cast-s-2 : goal.overflow_cast-s-2
overflow_cast-s-2 c = omega (arith, write-last c.loop.invariant (omega arith))

pub bounds-s-next-2 : goal.bounds-s-next-2
bounds-s-next-2 c = omega (arith, c.loop.invariant.end, write-some c.loop.invariant)

pub overflow_add-result : goal.overflow_add-result
overflow_add-result c = omega (arith, c.loop.invariant.end, write-some c.loop.invariant)

pub shape_of-s : goal.shape_of-s
shape_of-s c = simp length-set c.loop.invariant.long

pub returns : goal.returns
returns c = write-ends c.loop.invariant (omega arith)
