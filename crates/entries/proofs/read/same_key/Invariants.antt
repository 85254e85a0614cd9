use Rattle.entries.proofs.Matching.{Matching}
use Rattle.entries.proofs.read.same_key.Given as goal

abbrev pub invariant-loop-i : goal.invariant-loop-i
invariant-loop-i l = Matching l.img l.at l.n l.key l.i
