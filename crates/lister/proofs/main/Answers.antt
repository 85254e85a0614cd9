use Rattle.std.proofs.Common.{◌+◌, ◌≤◌, length, sym, ap, ◌∙◌, Ok, arith}
use lib.Seq.{length-take-le}
use Rattle.lister.proofs.Reading.{whole-there}
use Rattle.lister.proofs.main.Goals as goal
use Rattle.lister.proofs.main.Goals.{In-Ok-Whole}

there : (c : In-Ok-Whole) → c.in-Ok-Whole.end + 4 + c.in-Ok-Whole.n ≤ length c.read.new.buf
there c = whole-there c.in_ok-end.ensures.read (c.in-Ok-Whole.is ∙ ap Ok c.in-Ok-Whole.field-0-is)

pub slice_bounds-buf-end : goal.slice_bounds-buf-end
slice_bounds-buf-end c = there (goal.at.slice_bounds-buf-end c).In-Ok-Whole

pub overflow_add-buf : goal.overflow_add-buf
overflow_add-buf c = omega (arith, there (goal.at.overflow_add-buf c).In-Ok-Whole)

pub overflow_add-buf-in-Ok-Whole : goal.overflow_add-buf-in-Ok-Whole
overflow_add-buf-in-Ok-Whole c = omega (arith, there (goal.at.overflow_add-buf-in-Ok-Whole c).In-Ok-Whole)

pub slice_bounds-list-end : goal.slice_bounds-list-end
slice_bounds-list-end c = sym (length-take-le _ _ (there (goal.at.slice_bounds-list-end c).In-Ok-Whole))

pub list-requires : goal.list-requires
list-requires c =
    omega (
      arith,
      there (goal.at.list-requires c).In-Ok-Whole,
      length-take-le (c.in-Ok-Whole.end + 4 + c.in-Ok-Whole.n) c.read.new.buf (there (goal.at.list-requires c).In-Ok-Whole),
    )
