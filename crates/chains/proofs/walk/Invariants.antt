use Rattle.chains.proofs.Walking.{Walking}
use Rattle.chains.proofs.walk.Given as goal

abbrev pub invariant-loop-k : goal.invariant-loop-k
invariant-loop-k l = Walking l.z l.img l.most l.start l.initial.times l.times l.t l.k
