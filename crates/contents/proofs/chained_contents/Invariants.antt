use Rattle.contents.proofs.Sums.{AllSumming}
use Rattle.contents.proofs.chained_contents.Given as goal

abbrev pub invariant-loop-s : goal.invariant-loop-s
invariant-loop-s l = AllSumming l.z l.img l.sum l.s
