use Rattle.joining.proofs.EndOfChain.{Ending}
use Rattle.joining.proofs.end_of_chain.Given as goal

abbrev pub invariant-loop-k : goal.invariant-loop-k
invariant-loop-k l = Ending l.z l.img l.s l.most l.last l.t l.k
