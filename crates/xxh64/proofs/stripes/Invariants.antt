use Rattle.std.proofs.Common.{◌≡◌, ◌*◌, length}
use Rattle.xxh64.specs.Hash.{lanes_of}
use Rattle.xxh64.proofs.stripes.Given as goal

abbrev pub invariant-loop : goal.invariant-loop
invariant-loop l = (l.st.at ≡ l.counter * 32) × (l.st.lanes ≡ lanes_of l.s l.counter) × (l.st.len ≡ length l.s)
