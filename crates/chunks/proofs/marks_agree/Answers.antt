use native.Mathlib.Omega.{arith}
use borrow.Author.Count.{below_more}
use mathlib.Core.Path.{◌∙◌}
use Rattle.chunks.proofs.Marks.{marked_more, marked-le}
use Rattle.chunks.proofs.marks_agree.Goals as goal

pub overflow_add-marked : goal.overflow_add-marked
overflow_add-marked c =
    omega (
      arith,
      marked-le c.args.z c.args.img.now c.args.t c.loop-i.i,
      c.loop-i.invariant.1,
      c.mark-bit.ensures.1,
      c.requires.tier.framed.valid.chunks.1,
    )

pub loop-i-preserved : goal.loop-i-preserved
loop-i-preserved c = (
  below_more _ _ c.loop-i.invariant.0 (c.if-covered-i.false ∙ c.from.ensures ∙ c.mark-bit.ensures.0),
  omega (arith, marked_more c.args.z c.args.img.now c.args.t c.loop-i.i, c.loop-i.invariant.1, c.mark-bit.ensures.0),
)
