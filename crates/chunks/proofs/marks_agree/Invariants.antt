use Rattle.std.specs.Prelude.{Some}
use Rattle.chunks.specs.Counting.{MarksBelow}
use Rattle.chunks.proofs.marks_agree.Given as goal

abbrev pub invariant-loop-i : goal.invariant-loop-i
invariant-loop-i l = MarksBelow l.z l.img l.t l.covered l.i (Some l.marked)
