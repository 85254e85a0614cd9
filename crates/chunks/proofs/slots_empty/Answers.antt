use native.Mathlib.Omega.{arith}
use borrow.Author.Count.{below_more}
use mathlib.Core.Path.{sym, ◌∙◌}
use Rattle.chunks.proofs.slots_empty.Goals as goal

pub returns-then-slot-ne0 : goal.returns-then-slot-ne0
returns-then-slot-ne0 c = λ f. c.if-slot-ne0.true (c.slot.ensures ∙ f c.loop-j.j (omega arith))

pub loop-j-preserved : goal.loop-j-preserved
loop-j-preserved c = below_more _ _ c.loop-j.invariant (sym c.slot.ensures ∙ c.if-slot-ne0.false)

pub returns : goal.returns
returns c = λ i h. c.loop-j.invariant i (omega arith)
