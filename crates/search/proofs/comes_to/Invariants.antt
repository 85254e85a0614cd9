use Rattle.search.proofs.Ending.{Reaching}
use Rattle.search.proofs.comes_to.Given as goal

abbrev pub invariant-loop : goal.invariant-loop
invariant-loop l = Reaching l.z l.img l.key l.t l.most l.u l.counter
