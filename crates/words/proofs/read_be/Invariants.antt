use Rattle.words.proofs.Numbers.{ReadingBe}
use Rattle.words.proofs.read_be.Given as goal

abbrev pub invariant-loop-k : goal.invariant-loop-k
invariant-loop-k l = ReadingBe l.s l.at l.n l.sum l.k
