-- Laws of the small functions on lists.
use Prim.Native.Nat.{ℕ, zero, suc, ◌+◌, ◌-◌, ◌≤◌, ◌<◌}
use mathlib.Core.List.Memᴰ
use mathlib.Core.List.{List, [], ◌∷◌, ◌++◌, append_assoc, append-nil, flat_map, Memᴰ}
use mathlib.Core.Path.{◌≡◌, refl, ap, sym, ◌∙◌}
use mathlib.Core.Logic.{⊎_elim, ◌≢◌}
use mathlib.Core.Bool.{Bool, true, false}
use native.Mathlib.Omega.{arith}
use native.Mathlib.Nat.{zero-add, add-zero}
use native.Mathlib.Numerals.{add-one}
use lib.ListN.{length, get_or, take}
use lib.Seq.{take-suc}
use lib.Dec.{eqb}
use borrow.Author.Tests.{eq-eqb, ne_eqb}
use Rattle.lists.specs.Cases.{by-test, same_or}
use Rattle.lists.specs.Lists.{span, below, those, how_many, total}

-- ---- numbers in a row

pub span_more : (a n : ℕ) → span a (suc n) ≡ span a n ++ ((a + n) ∷ [])
unfolding span
span_more a zero = rw add-zero
span_more a (suc n) = let e : suc a + n ≡ a + suc n = omega arith in ap (λ (r : List ℕ). a ∷ r) (span_more (suc a) n ∙ rw e)

pub in_span : (a n i : ℕ) → a ≤ i → i < a + n → Memᴰ i (span a n)
unfolding span
in_span a zero i l h = absurd (omega arith)
in_span a (suc n) i l h =
    ⊎_elim (λ (e : i ≡ a). Memᴰ.head e) (λ (e : i ≢ a). Memᴰ.tail (in_span (suc a) n i (omega arith) (omega arith))) (same_or i a)

pub span_in : (a n i : ℕ) → Memᴰ i (span a n) → (a ≤ i) × (i < a + n)
unfolding span
span_in a zero i m = absurd (Memᴰ.not-nil m)
span_in a (suc n) i m =
    ⊎_elim (λ (e : i ≡ a). omega arith) (λ k. let h : (suc a ≤ i) × (i < suc a + n) = span_in (suc a) n i k in omega arith)
    (Memᴰ.cases_cons m)

pub length-span : (a n : ℕ) → length (span a n) ≡ n
unfolding span
length-span a zero = refl
length-span a (suc n) = ap suc (length-span (suc a) n)

-- what stands at a place of a list is a member
pub member : (l : List ℕ) (i : ℕ) → i < length l → Memᴰ (get_or l i 0) l
member [] i h = absurd (omega arith)
member (x ∷ l) zero h = Memᴰ.head refl
member (x ∷ l) (suc i) h = Memᴰ.tail (member l i (omega arith))

-- the last of a list, counted after one more in front
pub last-after : (d : ℕ) (l : List ℕ) → 0 < length l → get_or (d ∷ l) (length l) 0 ≡ get_or l (length l - 1) 0
last-after d [] h = absurd (omega arith)
last-after d (x ∷ xs) h = let e : suc (length xs) - 1 ≡ length xs = omega arith in rw e

module _ {A : Type 0} where
  -- ---- lists of lists

  pub flat_map_append : {B : Type 0} (f : B → List A) (xs ys : List B) → flat_map f (xs ++ ys) ≡ flat_map f xs ++ flat_map f ys
  unfolding flat_map
  flat_map_append f [] ys = refl
  flat_map_append f (x ∷ xs) ys = ap (λ (r : List A). f x ++ r) (flat_map_append f xs ys) ∙ sym (append_assoc (f x) (flat_map f xs) (flat_map f ys))

  -- with one element more at the end
  pub flat_map_last : {B : Type 0} (f : B → List A) (xs : List B) (x : B) → flat_map f (xs ++ (x ∷ [])) ≡ flat_map f xs ++ f x
  unfolding flat_map
  flat_map_last f xs x = flat_map_append f xs (x ∷ []) ∙ ap (λ (r : List A). flat_map f xs ++ r) (append-nil (f x))

  pub flat_map_below : (f : ℕ → List A) (n : ℕ) → flat_map f (below (n + 1)) ≡ flat_map f (below n) ++ f n
  flat_map_below f n = rw (add-one, span_more 0 n, zero-add) (flat_map_last f (below n) n)

  pub flat_map_take-more : (f : ℕ → List A) (xs : List ℕ) (i : ℕ) → i < length xs
      → flat_map f (take (i + 1) xs) ≡ flat_map f (take i xs) ++ f (get_or xs i 0)
  flat_map_take-more f xs i h = rw (add-one, take-suc xs i 0) (flat_map_last f (take i xs) (get_or xs i 0))

  pub flat_map_one : (xs : List A) → flat_map (λ x. x ∷ []) xs ≡ xs
  unfolding flat_map
  flat_map_one [] = refl
  flat_map_one (x ∷ xs) = ap (λ (r : List A). x ∷ r) (flat_map_one xs)

  -- ---- how many pass a test

  pub how_many-append : (p : A → Bool) (xs ys : List A) → how_many (xs ++ ys) p ≡ how_many xs p + how_many ys p
  unfolding those
  how_many-append p [] ys = omega arith
  how_many-append p (x ∷ xs) ys =
      by-test (p x)
      (λ (t : p x ≡ true). rw (t, those) (omega (arith, how_many-append p xs ys)))
      (λ (t : p x ≡ false). rw (t, those) (how_many-append p xs ys))

  pub how_many-le : (p : A → Bool) (xs : List A) → how_many xs p ≤ length xs
  unfolding those
  how_many-le p [] = omega arith
  how_many-le p (x ∷ xs) =
      by-test (p x)
      (λ (t : p x ≡ true). rw (t, those) (omega (arith, how_many-le p xs)))
      (λ (t : p x ≡ false). rw (t, those) (omega (arith, how_many-le p xs)))

  pub total-append : (f : A → ℕ) (xs ys : List A) → total (xs ++ ys) f ≡ total xs f + total ys f
  unfolding total
  total-append f [] ys = omega arith
  total-append f (x ∷ xs) ys = omega (arith, total-append f xs ys)

-- the number x in front counts where it is meant
pub how_many-same : (t x : ℕ) (xs : List ℕ) → t ≡ x → how_many (x ∷ xs) (eqb t) ≡ suc (how_many xs (eqb t))
unfolding those
how_many-same t x xs e = rw (eq-eqb t x e, those)

pub how_many-other : (t x : ℕ) (xs : List ℕ) → t ≢ x → how_many (x ∷ xs) (eqb t) ≡ how_many xs (eqb t)
unfolding those
how_many-other t x xs e = rw (ne_eqb t x e, those)
