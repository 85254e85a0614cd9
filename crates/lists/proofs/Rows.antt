-- Laws of numbers in a row: which of them pass a test, and which first.
use Prim.Native.Nat.{ℕ, zero, suc, ◌+◌, ◌-◌, ◌≤◌, ◌<◌}
use mathlib.Core.List.{List, [], ◌∷◌, ◌++◌, append-nil}
use mathlib.Core.Path.{◌≡◌, refl, ap, ap₂, sym, ◌∙◌}
use mathlib.Core.Bool.{Bool, true, false}
use mathlib.Core.Logic.{⊎_elim, ◌≢◌}
use mathlib.Core.Option.{none, some}
use native.Mathlib.Omega.{arith}
use native.Mathlib.Nat.{zero-add, add-zero}
use native.Mathlib.Numerals.{add-one}
use lib.Dec.{eqb}
use lib.ListN.{length, length-append}
use Rattle.lists.specs.Cases.{by-test, same_or}
use Rattle.lists.specs.Lists.{span, below, first, those, how_many, or_else}
use Rattle.lists.specs.Quantify.{Below}
use Rattle.lists.proofs.Lists.{span_more, how_many-same, how_many-other}

-- ---- how often a number stands in a row: once or not at all

pub how_many-span-before : (a n i : ℕ) → i < a → how_many (span a n) (eqb i) ≡ 0
unfolding span those
how_many-span-before a zero i h = refl
how_many-span-before a (suc n) i h = how_many-other i a (span (suc a) n) (omega arith) ∙ how_many-span-before (suc a) n i (omega arith)

pub how_many-span-after : (a n i : ℕ) → a + n ≤ i → how_many (span a n) (eqb i) ≡ 0
unfolding span those
how_many-span-after a zero i h = refl
how_many-span-after a (suc n) i h = how_many-other i a (span (suc a) n) (omega arith) ∙ how_many-span-after (suc a) n i (omega arith)

pub how_many-span_in : (a n i : ℕ) → a ≤ i → i < a + n → how_many (span a n) (eqb i) ≡ 1
unfolding span those
how_many-span_in a zero i l h = absurd (omega arith)
how_many-span_in a (suc n) i l h =
    ⊎_elim
    (λ (e : i ≡ a). how_many-same i a (span (suc a) n) e ∙ ap suc (how_many-span-before (suc a) n i (omega arith)))
    (λ (e : i ≢ a). how_many-other i a (span (suc a) n) e ∙ how_many-span_in (suc a) n i (omega arith) (omega arith))
    (same_or i a)

-- ---- the first that passes a test

module _ (p : ℕ → Bool) where
  pub first-span-at : (a n k : ℕ) → k < n → Below k (λ i. p (a + i) ≡ false) → p (a + k) ≡ true → first (span a n) p ≡ some (a + k)
  unfolding span first
  first-span-at a zero k h f t = absurd (omega arith)
  first-span-at a (suc n) zero h f t = let u : p a ≡ true = rw add-zero at t in rw (u, add-zero)
  first-span-at a (suc n) (suc k) h f t =
      let u : p a ≡ false = rw add-zero at (f 0 (omega arith)) in
      let e : suc a + k ≡ a + suc k = omega arith in
      rw (u, ← e)
      (first-span-at (suc a) n k (omega arith) (λ i l. let g : suc a + i ≡ a + suc i = omega arith in rw g (f (suc i) (omega arith))) (rw e t))

  pub first-span-none : (a n : ℕ) → Below n (λ i. p (a + i) ≡ false) → first (span a n) p ≡ none
  unfolding span first
  first-span-none a zero f = refl
  first-span-none a (suc n) f =
      let u : p a ≡ false = rw add-zero at (f 0 (omega arith)) in
      rw (u, first) (first-span-none (suc a) n (λ i l. let g : suc a + i ≡ a + suc i = omega arith in rw g (f (suc i) (omega arith))))

  -- those before it do not pass
  pub before-first : (a n d i : ℕ) → a ≤ i → i < a + n → i < or_else (first (span a n) p) d → p i ≡ false
  unfolding span first
  before-first a zero d i l h f = absurd (omega arith)
  before-first a (suc n) d i l h f =
      by-test (p a)
      (λ (t : p a ≡ true). let g : i < a = rw t at f in absurd (omega arith))
      (λ (t : p a ≡ false).
      ⊎_elim
      (λ (e : i ≡ a). ap p e ∙ t)
      (λ (e : i ≢ a). before-first (suc a) n d i (omega arith) (omega arith) (rw t at f))
      (same_or i a))

  -- ---- one number more

  those-append : (xs ys : List ℕ) → those (xs ++ ys) p ≡ those xs p ++ those ys p
  unfolding those
  those-append [] ys = refl
  those-append (x ∷ xs) ys =
      by-test (p x)
      (λ (t : p x ≡ true). rw (t, those) (ap (λ (r : List ℕ). x ∷ r) (those-append xs ys)))
      (λ (t : p x ≡ false). rw (t, those) (those-append xs ys))

  those-below : (n : ℕ) → those (below (n + 1)) p ≡ those (below n) p ++ those (n ∷ []) p
  those-below n = rw (add-one, span_more 0 n, zero-add) (those-append (below n) (n ∷ []))

  pub those-more : (n : ℕ) → p n ≡ true → those (below (n + 1)) p ≡ those (below n) p ++ (n ∷ [])
  unfolding those
  those-more n t = those-below n ∙ rw (t, those)

  pub those-same : (n : ℕ) → p n ≡ false → those (below (n + 1)) p ≡ those (below n) p
  unfolding those
  those-same n t = those-below n ∙ rw (t, those) (append-nil (those (below n) p))

  pub how_many-more : (n : ℕ) → p n ≡ true → how_many (below (n + 1)) p ≡ how_many (below n) p + 1
  how_many-more n t = ap length (those-more n t) ∙ length-append (those (below n) p) (n ∷ [])

  pub how_many-less : (n : ℕ) → p n ≡ false → how_many (below (n + 1)) p ≡ how_many (below n) p
  how_many-less n t = ap length (those-same n t)

-- ---- the numbers from j on, below n

pub from_next : (j n : ℕ) → j < n → span j (n - j) ≡ j ∷ span (j + 1) (n - (j + 1))
unfolding span
from_next j n h = let e : n - j ≡ suc (n - (j + 1)) = omega arith in rw (e, add-one)

pub from_end : (j n : ℕ) → n ≤ j → span j (n - j) ≡ []
unfolding span
from_end j n h = let e : n - j ≡ 0 = omega arith in rw e

pub from_zero : (n : ℕ) → span 0 (n - 0) ≡ below n
from_zero n = let e : n - 0 ≡ n = omega arith in rw e

pub those-keep : (p : ℕ → Bool) (x : ℕ) (xs : List ℕ) → p x ≡ true → those (x ∷ xs) p ≡ x ∷ those xs p
unfolding those
those-keep p x xs h = rw (h, those)

pub those-drop : (p : ℕ → Bool) (x : ℕ) (xs : List ℕ) → p x ≡ false → those (x ∷ xs) p ≡ those xs p
unfolding those
those-drop p x xs h = rw (h, those)

-- the first of those from a on that pass a test: none before it passes, and the rest are those after it
pub record FirstOf (p : ℕ → Bool) (a n j : ℕ) (rest : List ℕ) : Type 0 where
  pub from : a ≤ j
  pub low : j < a + n
  pub passes : p j ≡ true
  pub skipped : (k : ℕ) → a ≤ k → k < j → p k ≡ false
  pub after : rest ≡ those (span (suc j) (a + n - suc j)) p

-- a number that does not pass is passed over
first-later : (p : ℕ → Bool) (a n j : ℕ) (rest : List ℕ) → p a ≡ false → FirstOf p (suc a) n j rest → FirstOf p a (suc n) j rest
first-later p a n j rest t f =
    let left : suc a + n - suc j ≡ a + suc n - suc j = omega arith in
    record {
      from = omega (arith, f.from);
      low = omega (arith, f.low);
      passes = f.passes;
      skipped = λ k l h. ⊎_elim (λ (q : k ≡ a). rw q t) (λ (q : k ≢ a). f.skipped k (omega arith) h) (same_or k a);
      after = f.after ∙ ap (λ (y : ℕ). those (span (suc j) y) p) left;
    }

pub those-first : (p : ℕ → Bool) (a n j : ℕ) (rest : List ℕ) → those (span a n) p ≡ j ∷ rest → FirstOf p a n j rest
unfolding those span
those-first p a zero j rest e = absurd (let z : ◌≡◌ {A = ℕ} 0 1 = cc in omega arith)
those-first p a (suc n) j rest e =
    by-test (p a)
    (λ (t : p a ≡ true).
    let both : a ∷ those (span (suc a) n) p ≡ j ∷ rest = rw (t, those) at e in
    let q : a ≡ j = cc in
    let r : those (span (suc a) n) p ≡ rest = cc in
    let left : n ≡ a + suc n - suc j = omega arith in
    record {
      from = omega arith;
      low = omega arith;
      passes = rw (← q) t;
      skipped = λ k l h. absurd (omega arith);
      after = sym r ∙ ap₂ (λ (x y : ℕ). those (span (suc x) y) p) q left;
    })
    (λ (t : p a ≡ false). first-later p a n j rest t (those-first p (suc a) n j rest (rw (t, those) at e)))
