use Rattle.words.proofs.Numbers.{WritingLe}
use Rattle.words.proofs.write_le.Given as goal

abbrev pub invariant-loop-k : goal.invariant-loop-k
invariant-loop-k l = WritingLe l.initial.s l.at l.n l.v l.s l.rest l.k
