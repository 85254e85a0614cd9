use Rattle.chains.proofs.Segments.{AllWalking}
use Rattle.chains.proofs.all_fit.Given as goal

abbrev pub invariant-loop-s : goal.invariant-loop-s
invariant-loop-s l = AllWalking l.z l.img l.initial.times l.times l.total l.s
