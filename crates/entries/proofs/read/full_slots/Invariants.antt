use Rattle.entries.proofs.FullSlots.{Counted}
use Rattle.entries.proofs.read.full_slots.Given as goal

abbrev pub invariant-loop-j : goal.invariant-loop-j
invariant-loop-j l = Counted l.z l.img l.t l.n l.j
