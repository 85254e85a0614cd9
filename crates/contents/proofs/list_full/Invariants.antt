use Rattle.contents.proofs.Gathering.{Gathering}
use Rattle.contents.proofs.list_full.Given as goal

abbrev pub invariant-loop-j : goal.invariant-loop-j
invariant-loop-j l = Gathering l.z l.img l.t l.initial.list l.list l.n l.j
