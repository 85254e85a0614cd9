-- Functions on lists where what they are given agrees on the list's members.
use Prim.Native.Nat.{ℕ, zero, suc, ◌+◌, ◌≤◌}
use mathlib.Core.List.Memᴰ
use mathlib.Core.List.{List, [], ◌∷◌, map, flat_map}
use mathlib.Core.Path.{◌≡◌, refl, ap}
use mathlib.Core.Bool.{Bool, true, false}
use native.Mathlib.Omega.{arith}
use Rattle.lists.specs.Cases.{by-test}
use Rattle.lists.specs.Lists.{span, first, those, or_else}
use Rattle.lists.specs.Quantify.{Every}

module _ {A : Type 0} (p q : A → Bool) where
  pub same-those : (xs : List A) → Every xs (λ x. p x ≡ q x) → those xs p ≡ those xs q
  unfolding those
  same-those [] e = refl
  same-those (x ∷ xs) e =
      let r : those xs p ≡ those xs q = same-those xs (λ y m. e y (Memᴰ.tail m)) in
      let h : p x ≡ q x = e x (Memᴰ.head refl) in
      by-test (q x)
      (λ (t : q x ≡ true). rw (h, t, those) (ap (λ (l : List A). x ∷ l) r))
      (λ (t : q x ≡ false). rw (h, t, those) r)

  pub same_first : (xs : List A) → Every xs (λ x. p x ≡ q x) → first xs p ≡ first xs q
  unfolding first
  same_first [] e = refl
  same_first (x ∷ xs) e =
      let r : first xs p ≡ first xs q = same_first xs (λ y m. e y (Memᴰ.tail m)) in
      let h : p x ≡ q x = e x (Memᴰ.head refl) in
      by-test (q x)
      (λ (t : q x ≡ true). rw (h, t, first))
      (λ (t : q x ≡ false). rw (h, t, first) r)

module _ {A B : Type 0} where
  pub same_map : (f g : A → B) (xs : List A) → Every xs (λ x. f x ≡ g x) → map f xs ≡ map g xs
  same_map f g [] e = refl
  same_map f g (x ∷ xs) e =
      let r : map f xs ≡ map g xs = same_map f g xs (λ y m. e y (Memᴰ.tail m)) in
      let h : f x ≡ g x = e x (Memᴰ.head refl) in
      cc

  pub same_flat_map : (f g : A → List B) (xs : List A) → Every xs (λ x. f x ≡ g x) → flat_map f xs ≡ flat_map g xs
  unfolding flat_map
  same_flat_map f g [] e = refl
  same_flat_map f g (x ∷ xs) e =
      let r : flat_map f xs ≡ flat_map g xs = same_flat_map f g xs (λ y m. e y (Memᴰ.tail m)) in
      let h : f x ≡ g x = e x (Memᴰ.head refl) in
      rw (h, r)

-- the first of a row that passes, or else d
pub first-le : (p : ℕ → Bool) (a n d : ℕ) → a + n ≤ d → or_else (first (span a n) p) d ≤ d
unfolding span first
first-le p a zero d h = omega arith
first-le p a (suc n) d h =
    by-test (p a)
    (λ (t : p a ≡ true). rw (t, first) (omega arith))
    (λ (t : p a ≡ false). rw (t, first) (first-le p (suc a) n d (omega arith)))
