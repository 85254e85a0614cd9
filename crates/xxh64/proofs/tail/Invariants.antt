use Rattle.std.proofs.Common.{◌≡◌, ℕ}
use Rattle.xxh64.specs.Hash.{tail_of}
use Rattle.xxh64.proofs.tail.Given as goal

abbrev pub invariant-loop-k : goal.invariant-loop-k
invariant-loop-k g l =
    (m : ℕ → ℕ → ℕ) → ((acc w r : ℕ) → goal.F-post g l.mix acc w r → r ≡ m acc w) → l.acc ≡ tail_of m g.row.SIZE l.s l.base l.acc0 l.k
