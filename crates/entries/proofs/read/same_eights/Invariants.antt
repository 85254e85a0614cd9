use Prim.Native.Nat.{◌*◌, ◌≤◌}
use Rattle.entries.specs.Asking.{Agree}
use Rattle.entries.proofs.read.same_eights.Given as goal

abbrev pub invariant-loop-k : goal.invariant-loop-k
invariant-loop-k l = (l.k ≤ l.n) × Agree l.img l.at l.key (8 * l.k)
