use Rattle.placement.proofs.Copying.{Copying}
use Rattle.placement.proofs.place.write_bytes.Given as goal

abbrev pub invariant-loop-i : goal.invariant-loop-i
invariant-loop-i l = Copying l.initial.s l.at l.bytes l.s l.i
