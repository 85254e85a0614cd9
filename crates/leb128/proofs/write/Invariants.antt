use Rattle.leb128.proofs.Encode.{WritingCode}
use Rattle.leb128.proofs.write.Given as goal

abbrev pub invariant-loop : goal.invariant-loop
invariant-loop l = WritingCode l.initial.s l.at l.n l.s l.counter l.rest l.next
