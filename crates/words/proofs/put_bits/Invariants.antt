use Rattle.words.proofs.Bits.{PuttingBits}
use Rattle.words.proofs.put_bits.Given as goal

abbrev pub invariant-loop-done : goal.invariant-loop-done
invariant-loop-done l = PuttingBits l.initial.s l.at l.i l.n l.b l.s l.done
