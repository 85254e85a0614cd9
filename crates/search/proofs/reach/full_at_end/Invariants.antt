use Rattle.search.proofs.Reaching.{Ending}
use Rattle.search.proofs.reach.full_at_end.Given as goal

abbrev pub invariant-loop-n : goal.invariant-loop-n
invariant-loop-n l = Ending l.z l.img l.t l.n
