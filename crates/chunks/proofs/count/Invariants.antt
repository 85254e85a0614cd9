use Rattle.chunks.proofs.Covering.{Counting}
use Rattle.chunks.proofs.count.Given as goal

abbrev pub invariant-loop-i : goal.invariant-loop-i
invariant-loop-i l = Counting l.initial.covered l.c l.n l.covered l.i
