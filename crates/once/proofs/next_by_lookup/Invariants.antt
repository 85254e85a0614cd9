use Rattle.once.proofs.Walking.{Skipping}
use Rattle.once.proofs.next_by_lookup.Given as goal

abbrev pub invariant-loop-j : goal.invariant-loop-j
invariant-loop-j l = Skipping l.z l.img l.by l.p l.t l.from l.j
