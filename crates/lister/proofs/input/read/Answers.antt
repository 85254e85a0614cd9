use Rattle.std.proofs.Common.{Ok, ap, ◌∙◌, arith}
use Rattle.lister.proofs.Reading.{more-asked, reads_on}
use Rattle.lister.proofs.input.read.Goals as goal

pub slice_bounds-read_full-count : goal.slice_bounds-read_full-count
slice_bounds-read_full-count g c = omega (arith, more-asked _ _ _ c.loop-end.invariant c.reading.ensures (c.in-Ok-More.is ∙ ap Ok c.in-Ok-More.field-0-is))

pub slice_bounds-read_full-start : goal.slice_bounds-read_full-start
slice_bounds-read_full-start g c = omega (arith, more-asked _ _ _ c.loop-end.invariant c.reading.ensures (c.in-Ok-More.is ∙ ap Ok c.in-Ok-More.field-0-is))

pub slice_bounds-read_full-end : goal.slice_bounds-read_full-end
slice_bounds-read_full-end g c = omega (arith, more-asked _ _ _ c.loop-end.invariant c.reading.ensures (c.in-Ok-More.is ∙ ap Ok c.in-Ok-More.field-0-is))

pub loop-end-smaller : goal.loop-end-smaller
loop-end-smaller g c = reads_on _ (more-asked _ _ _ c.loop-end.invariant c.reading.ensures (c.in-Ok-More.is ∙ ap Ok c.in-Ok-More.field-0-is))
