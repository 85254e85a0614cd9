-- Sums over lists.
use Prim.Native.Nat.{ℕ, suc, ◌+◌, ◌≤◌, ◌<◌}
use mathlib.Core.List.Memᴰ
use mathlib.Core.List.{List, [], ◌∷◌, map, flat_map, Memᴰ}
use mathlib.Core.Path.{◌≡◌, refl, ap, sym, ◌∙◌}
use mathlib.Core.Logic.{⊎_elim, ◌≢◌}
use mathlib.Core.Bool.{Bool, true, false}
use native.Mathlib.Omega.{arith}
use lib.Dec.{eqb}
use lib.ListN.{length}
use Rattle.lists.specs.Cases.{by-test, same_or}
use Rattle.lists.specs.Lists.{span, those, how_many, total}
use Rattle.lists.specs.Quantify.{Every}
use Rattle.lists.proofs.Lists.{length-span, total-append, how_many-append, how_many-same, how_many-other}
use Rattle.lists.proofs.Rows.{how_many-span_in}
use Rattle.lists.proofs.Counted.{member-met}

pub total-same : {A : Type 0} (ts : List A) (f f' : A → ℕ) → Every ts (λ u. f' u ≡ f u) → total ts f' ≡ total ts f
unfolding total
total-same [] f f' e = refl
total-same (t ∷ ts) f f' e = omega (arith, e t (Memᴰ.head refl), total-same ts f f' (λ u m. e u (Memᴰ.tail m)))

pub total-change : (ts : List ℕ) (t : ℕ) (f f' : ℕ → ℕ) → how_many ts (eqb t) ≡ 1 → Every ts (λ u. u ≢ t → f' u ≡ f u)
    → total ts f' + f t ≡ total ts f + f' t
unfolding total those
total-change [] t f f' one e = absurd (omega arith)
total-change (x ∷ ts) t f f' one e =
    ⊎_elim
    (λ (q : t ≡ x).
    let none : how_many ts (eqb t) ≡ 0 = omega (arith, one, how_many-same t x ts q) in
    let rest : total ts f' ≡ total ts f =
    total-same ts f f' (λ u m.
    e u (Memᴰ.tail m)
    (λ (p : u ≡ t). let k : 0 < how_many ts (eqb u) = member-met u ts m in omega (arith, none, ap (λ (v : ℕ). how_many ts (eqb v)) p))) in
    rw q (omega arith))
    (λ (q : t ≢ x).
    let same : f' x ≡ f x = e x (Memᴰ.head refl) (λ p. q (sym p)) in
    let rest : total ts f' + f t ≡ total ts f + f' t =
    total-change ts t f f' (sym (how_many-other t x ts q) ∙ one) (λ u m. e u (Memᴰ.tail m)) in
    omega arith)
    (same_or t x)

pub how_many-total : {A : Type 0} (es : List A) (p : A → Bool) → how_many es p ≡ total es (λ e. elim (p e) [ true ↦ 1 | false ↦ 0 ])
unfolding total those
how_many-total [] p = refl
how_many-total (x ∷ es) p =
    by-test (p x)
    (λ (t : p x ≡ true). rw (t, those) (omega (arith, how_many-total es p)))
    (λ (t : p x ≡ false). rw (t, those) (omega (arith, how_many-total es p)))

pub length-total : {A : Type 0} (xs : List A) → length xs ≡ total xs (λ _. 1)
unfolding total
length-total [] = refl
length-total (x ∷ xs) = omega (arith, length-total xs)

pub total-zero : {A : Type 0} (xs : List A) → total xs (λ _. 0) ≡ 0
unfolding total
total-zero [] = refl
total-zero (x ∷ xs) = omega (arith, total-zero xs)

pub total-map : {A B : Type 0} (g : A → B) (xs : List A) (F : B → ℕ) → total (map g xs) F ≡ total xs (λ x. F (g x))
unfolding total
total-map g [] F = refl
total-map g (x ∷ xs) F = ap (λ (n : ℕ). F (g x) + n) (total-map g xs F)

pub total_flat_map : {A B : Type 0} (f : A → List B) (xs : List A) (g : B → ℕ) → total (flat_map f xs) g ≡ total xs (λ x. total (f x) g)
unfolding total flat_map
total_flat_map f [] g = refl
total_flat_map f (x ∷ xs) g = omega (arith, total-append g (f x) (flat_map f xs), total_flat_map f xs g)

pub how_many_flat_map : {A B : Type 0} (f : A → List B) (xs : List A) (p : B → Bool) → how_many (flat_map f xs) p ≡ total xs (λ x. how_many (f x) p)
unfolding total flat_map those
how_many_flat_map f [] p = refl
how_many_flat_map f (x ∷ xs) p = omega (arith, how_many-append p (f x) (flat_map f xs), how_many_flat_map f xs p)

module _ {A : Type 0} where
  -- an element weighs at most the whole; a list that weighs something has an element that does
  pub total-at : (F : A → ℕ) (x : A) (xs : List A) → Memᴰ x xs → F x ≤ total xs F
  unfolding total
  total-at F x [] m = absurd (Memᴰ.not-nil m)
  total-at F x (y ∷ ys) m =
      ⊎_elim (λ (e : x ≡ y). rw e (omega arith)) (λ k. omega (arith, total-at F x ys k)) (Memᴰ.cases_cons m)

  pub total-some : (F : A → ℕ) (xs : List A) → 0 < total xs F → (x : A) × Memᴰ x xs × (0 < F x)
  unfolding total
  total-some F [] h = absurd (omega arith)
  total-some F (y ∷ ys) h =
      ⊎_elim
      (λ (e : F y ≡ 0). let r : (x : A) × Memᴰ x ys × (0 < F x) = total-some F ys (omega arith) in (r.0, Memᴰ.tail r.1, r.2))
      (λ (e : F y ≢ 0). (y, Memᴰ.head refl, omega arith))
      (same_or (F y) 0)

  -- those that pass a test weigh what the whole does where the others weigh nothing
  pub those-total : (p : A → Bool) (F : A → ℕ) (xs : List A) → total (those xs p) F ≡ total xs (λ x. elim (p x) [ true ↦ F x | false ↦ 0 ])
  unfolding those total
  those-total p F [] = refl
  those-total p F (x ∷ xs) =
      by-test (p x)
      (λ (t : p x ≡ true). rw (t, those, total) (ap (λ (n : ℕ). F x + n) (those-total p F xs)))
      (λ (t : p x ≡ false). rw (t, those, total) (omega (arith, those-total p F xs)))

-- ---- lists of numbers in a row

-- counted number by number
pub length_in_span : (a n : ℕ) (l : List ℕ) → Every l (λ x. (a ≤ x) × (x < a + n)) → length l ≡ total (span a n) (λ t. how_many l (eqb t))
unfolding those
length_in_span a n [] e = sym (total-zero (span a n))
length_in_span a n (x ∷ l) e =
    let f : ℕ → ℕ = λ t. how_many l (eqb t) in
    let f' : ℕ → ℕ = λ t. how_many (x ∷ l) (eqb t) in
    let h : (a ≤ x) × (x < a + n) = e x (Memᴰ.head refl) in
    let sum : total (span a n) f' + f x ≡ total (span a n) f + f' x =
    total-change (span a n) x f f' (how_many-span_in a n x h.0 h.1) (λ u m ne. how_many-other u x l ne) in
    let rest : length l ≡ total (span a n) f = length_in_span a n l (λ y m. e y (Memᴰ.tail m)) in
    let here : f' x ≡ suc (f x) = how_many-same x x l refl in
    omega arith

-- where each number of the row is there once, the list is as long as the row
pub length-span-once : (a n : ℕ) (l : List ℕ) → Every l (λ x. (a ≤ x) × (x < a + n)) → Every (span a n) (λ t. how_many l (eqb t) ≡ 1)
    → length l ≡ n
length-span-once a n l e once =
    length_in_span a n l e ∙ (total-same (span a n) (λ _. 1) (λ t. how_many l (eqb t)) once ∙ (sym (length-total (span a n)) ∙ length-span a n))
