use Rattle.search.proofs.Seeking.{Searching}
use Rattle.search.proofs.search.Given as goal

abbrev pub invariant-loop : goal.invariant-loop
invariant-loop l = Searching l.z l.img l.key l.most l.t l.tier l.slot l.counter
