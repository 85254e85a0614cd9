use Rattle.placement.proofs.Walking.{Walking}
use Rattle.placement.proofs.walk.walk_chain.Given as goal

abbrev pub invariant-loop-k : goal.invariant-loop-k
invariant-loop-k l = Walking l.z l.img l.key l.n l.most l.t l.candidate l.k
