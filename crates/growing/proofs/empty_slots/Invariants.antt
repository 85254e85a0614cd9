use Rattle.growing.proofs.Loops.{EmptyingSlots}
use Rattle.growing.proofs.empty_slots.Given as goal

abbrev pub invariant-loop-j : goal.invariant-loop-j
invariant-loop-j l = EmptyingSlots l.z l.initial.img l.t l.img l.j
