-- How often a number stands in a list, and where.
use Prim.Native.Nat.{ℕ, suc, ◌<◌, ◌≤◌, ◌+◌}
use mathlib.Core.List.Memᴰ
use mathlib.Core.List.{List, [], ◌∷◌, Memᴰ}
use mathlib.Core.Path.{◌≡◌, refl, sym, ◌∙◌, ap}
use mathlib.Core.Logic.{⊎_elim, ◌≢◌}
use native.Mathlib.Omega.{arith}
use lib.Dec.{eqb, ltb}
use lib.ListN.{length, get_or}
use borrow.Author.Tests.{eq-eqb, ne_eqb, lt-ltb, le-ltb}
use Rattle.lists.specs.Cases.{same_or, lt-or}
use Rattle.lists.specs.Lists.{those, how_many}
use Rattle.lists.specs.Quantify.{Every}
use Rattle.lists.proofs.Lists.{how_many-same, how_many-other}

pub member-met : (t : ℕ) (ts : List ℕ) → Memᴰ t ts → 0 < how_many ts (eqb t)
member-met t [] m = absurd (Memᴰ.not-nil m)
member-met t (x ∷ ts) m =
    ⊎_elim
    (λ (e : t ≡ x). omega (arith, how_many-same t x ts e))
    (λ (e : t ≢ x).
    ⊎_elim (λ (q : t ≡ x). absurd (e q)) (λ k. omega (arith, how_many-other t x ts e, member-met t ts k)) (Memᴰ.cases_cons m))
    (same_or t x)

pub stranger_unmet : (t : ℕ) (ts : List ℕ) → (Memᴰ t ts → ⊥) → how_many ts (eqb t) ≡ 0
unfolding those
stranger_unmet t [] n = refl
stranger_unmet t (x ∷ ts) n =
    ⊎_elim
    (λ (e : t ≡ x). absurd (n (Memᴰ.head e)))
    (λ (e : t ≢ x). how_many-other t x ts e ∙ stranger_unmet t ts (λ m. n (Memᴰ.tail m)))
    (same_or t x)

-- the place of a member
pub member-place : (t : ℕ) (ts : List ℕ) → Memᴰ t ts → (i : ℕ) × (i < length ts) × (get_or ts i 0 ≡ t)
member-place t [] m = absurd (Memᴰ.not-nil m)
member-place t (x ∷ ts) m =
    ⊎_elim
    (λ (e : t ≡ x). (0, omega arith, sym e))
    (λ k. let r : (i : ℕ) × (i < length ts) × (get_or ts i 0 ≡ t) = member-place t ts k in (suc r.0, omega (arith, r.1), r.2))
    (Memᴰ.cases_cons m)

-- ---- numbers below a bound, counted one by one

pub how_many-ltb-more : (n : ℕ) (xs : List ℕ) → how_many xs (λ x. ltb x (n + 1)) ≡ how_many xs (λ x. ltb x n) + how_many xs (eqb n)
unfolding those
how_many-ltb-more n [] = refl
how_many-ltb-more n (x ∷ xs) =
    ⊎_elim
    (λ (e : n ≡ x).
    rw (eq-eqb n x e, lt-ltb x (n + 1) (omega arith), le-ltb x n (omega arith), those) (omega (arith, how_many-ltb-more n xs)))
    (λ (e : n ≢ x).
    ⊎_elim
    (λ (l : x < n). rw (ne_eqb n x e, lt-ltb x (n + 1) (omega arith), lt-ltb x n l, those) (omega (arith, how_many-ltb-more n xs)))
    (λ (l : n ≤ x). rw (ne_eqb n x e, le-ltb x (n + 1) (omega arith), le-ltb x n l, those) (how_many-ltb-more n xs))
    (lt-or x n))
    (same_or n x)

pub how_many-ltb-zero : (xs : List ℕ) → how_many xs (λ x. ltb x 0) ≡ 0
unfolding those
how_many-ltb-zero [] = refl
how_many-ltb-zero (x ∷ xs) = rw (le-ltb x 0 (omega arith), those) (how_many-ltb-zero xs)

pub how_many-ltb-all : (n : ℕ) (xs : List ℕ) → Every xs (λ x. x < n) → how_many xs (λ x. ltb x n) ≡ length xs
unfolding those
how_many-ltb-all n [] f = refl
how_many-ltb-all n (x ∷ xs) f = rw (lt-ltb x n (f x (Memᴰ.head refl)), those) (ap suc (how_many-ltb-all n xs (λ y m. f y (Memᴰ.tail m))))
