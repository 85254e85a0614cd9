-- Rules for each number below a bound.
use Prim.Native.Nat.{ℕ, ◌+◌, ◌-◌, ◌≤◌, ◌<◌}
use mathlib.Core.Path.{◌≡◌, subst}
use mathlib.Core.Logic.{⊎_elim}
use native.Mathlib.Omega.{arith}
use borrow.Author.Count.{below_more}
use Rattle.lists.specs.Cases.{lt-or}
use Rattle.lists.specs.Quantify.{Below}

-- the first n and the next m
pub below-join : (P : ℕ → Type 0) (n m : ℕ) → Below n P → Below m (λ k. P (n + k)) → Below (n + m) P
below-join P n m f g i h =
    ⊎_elim
    (λ (l : i < n). f i l)
    (λ (l : n ≤ i). let e : n + (i - n) ≡ i = omega arith in subst P e (g (i - n) (omega arith)))
    (lt-or i n)

pub four_below : (P : ℕ → Type 0) → P 0 → P 1 → P 2 → P 3 → Below 4 P
four_below P a b c d = below_more P 3 (below_more P 2 (below_more P 1 (below_more P 0 (λ i h. absurd (omega arith)) a) b) c) d

pub eight-below : (P : ℕ → Type 0) → P 0 → P 1 → P 2 → P 3 → P 4 → P 5 → P 6 → P 7 → Below 8 P
eight-below P a b c d e f g h = below-join P 4 4 (four_below P a b c d) (four_below (λ k. P (4 + k)) e f g h)
