-- What is in a list that is made of others.
use Prim.Native.Nat.{ℕ}
use native.Mathlib.Omega.{arith}
use mathlib.Core.Path.{◌≡◌, refl, ap, sym, ◌∙◌, subst}
use mathlib.Core.List.{List, [], ◌∷◌, ◌++◌, flat_map, Memᴰ}
use mathlib.Core.Logic.{⊎_elim}
use mathlib.Core.Bool.{Bool, true, false, false≢true}
use Rattle.lists.specs.Cases.{by-test}
use mathlib.Core.Option.{none, some}
use Rattle.lists.specs.Lists.{first, those}
use Rattle.lists.specs.Quantify.{Every}

module _ {A : Type 0} (p : A → Bool) where
  pub those_in : (x : A) (xs : List A) → Memᴰ x (those xs p) → Memᴰ x xs × (p x ≡ true)
  unfolding those
  those_in x [] m = absurd (mathlib.Core.List.Memᴰ.not-nil m)
  those_in x (y ∷ ys) m =
      by-test (p y)
      (λ (t : p y ≡ true).
      let n : Memᴰ x (y ∷ those ys p) = rw (t, those) at m in
      ⊎_elim
      (λ (e : x ≡ y). (mathlib.Core.List.Memᴰ.head e, rw e t))
      (λ k. let r : Memᴰ x ys × (p x ≡ true) = those_in x ys k in (mathlib.Core.List.Memᴰ.tail r.0, r.1))
      (mathlib.Core.List.Memᴰ.cases_cons n))
      (λ (t : p y ≡ false).
      let n : Memᴰ x (those ys p) = rw (t, those) at m in
      let r : Memᴰ x ys × (p x ≡ true) = those_in x ys n in
      (mathlib.Core.List.Memᴰ.tail r.0, r.1))

  pub in_those : (x : A) (xs : List A) → Memᴰ x xs → p x ≡ true → Memᴰ x (those xs p)
  unfolding those
  in_those x [] m h = absurd (mathlib.Core.List.Memᴰ.not-nil m)
  in_those x (y ∷ ys) m h =
      by-test (p y)
      (λ (t : p y ≡ true).
      rw (t, those) (⊎_elim (λ (e : x ≡ y). mathlib.Core.List.Memᴰ.head e) (λ k. mathlib.Core.List.Memᴰ.tail (in_those x ys k h))
      (mathlib.Core.List.Memᴰ.cases_cons m)))
      (λ (t : p y ≡ false).
      rw (t, those)
      (⊎_elim (λ (e : x ≡ y). absurd (false≢true (sym t ∙ ap p (sym e) ∙ h))) (λ k. in_those x ys k h) (mathlib.Core.List.Memᴰ.cases_cons m)))

module _ {A B : Type 0} (f : A → List B) where
  pub flat_map_in : {y : B} (xs : List A) → Memᴰ y (flat_map f xs) → (x : A) × Memᴰ x xs × Memᴰ y (f x)
  unfolding flat_map
  flat_map_in [] m = absurd (mathlib.Core.List.Memᴰ.not-nil m)
  flat_map_in {y} (x ∷ xs) m =
      ⊎_elim
      (λ k. (x, mathlib.Core.List.Memᴰ.head refl, k))
      (λ k. let r : (x : A) × Memᴰ x xs × Memᴰ y (f x) = flat_map_in xs k in (r.0, mathlib.Core.List.Memᴰ.tail r.1, r.2))
      (mathlib.Core.List.Memᴰ.append_cases (f x) m)

  pub in_flat_map : (xs : List A) {x : A} {y : B} → Memᴰ x xs → Memᴰ y (f x) → Memᴰ y (flat_map f xs)
  unfolding flat_map
  in_flat_map [] m k = absurd (mathlib.Core.List.Memᴰ.not-nil m)
  in_flat_map (a ∷ xs) {x} {y} m k =
      ⊎_elim
      (λ (e : x ≡ a). mathlib.Core.List.Memᴰ.append_left (flat_map f xs) (subst (λ (u : A). Memᴰ y (f u)) e k))
      (λ n. mathlib.Core.List.Memᴰ.append_right (f a) (in_flat_map xs n k))
      (mathlib.Core.List.Memᴰ.cases_cons m)

-- ---- the first that passes a test

module _ {A : Type 0} (p : A → Bool) where
  pub first_in : (x : A) (xs : List A) → first xs p ≡ some x → Memᴰ x xs × (p x ≡ true)
  unfolding first
  first_in x [] e = absurd (let q : ◌≡◌ {A = ℕ} 0 1 = cc in omega arith)
  first_in x (y ∷ ys) e =
      by-test (p y)
      (λ (t : p y ≡ true).
      let f : some y ≡ some x = rw (t, first) at e in
      let q : y ≡ x = cc in
      (mathlib.Core.List.Memᴰ.head (sym q), rw q at t))
      (λ (t : p y ≡ false).
      let f : first ys p ≡ some x = rw (t, first) at e in
      let r : Memᴰ x ys × (p x ≡ true) = first_in x ys f in
      (mathlib.Core.List.Memᴰ.tail r.0, r.1))

  pub first-fails : (xs : List A) → first xs p ≡ none → Every xs (λ x. p x ≡ false)
  unfolding first
  first-fails [] e x m = absurd (mathlib.Core.List.Memᴰ.not-nil m)
  first-fails (y ∷ ys) e x m =
      by-test (p y)
      (λ (t : p y ≡ true). absurd (let f : some y ≡ none = rw (t, first) at e in let q : ◌≡◌ {A = ℕ} 0 1 = cc in omega arith))
      (λ (t : p y ≡ false).
      let f : first ys p ≡ none = rw (t, first) at e in
      ⊎_elim (λ (q : x ≡ y). rw q t) (λ k. first-fails ys f x k) (mathlib.Core.List.Memᴰ.cases_cons m))

  pub none_first : (xs : List A) → Every xs (λ x. p x ≡ false) → first xs p ≡ none
  unfolding first
  none_first [] f = refl
  none_first (y ∷ ys) f = rw (f y (mathlib.Core.List.Memᴰ.head refl), first) (none_first ys (λ x m. f x (mathlib.Core.List.Memᴰ.tail m)))

  -- the only one that passes is the first
  pub first-only : (x : A) (xs : List A) → Memᴰ x xs → p x ≡ true → Every xs (λ y. p y ≡ true → y ≡ x) → first xs p ≡ some x
  unfolding first
  first-only x [] m t only = absurd (mathlib.Core.List.Memᴰ.not-nil m)
  first-only x (y ∷ ys) m t only =
      by-test (p y)
      (λ (u : p y ≡ true). rw (u, first) (ap some (only y (mathlib.Core.List.Memᴰ.head refl) u)))
      (λ (u : p y ≡ false).
      rw (u, first)
      (⊎_elim
      (λ (q : x ≡ y). absurd (false≢true (sym u ∙ ap p (sym q) ∙ t)))
      (λ k. first-only x ys k t (λ z n. only z (mathlib.Core.List.Memᴰ.tail n)))
      (mathlib.Core.List.Memᴰ.cases_cons m)))

-- ---- every element of a list and one more

module _ {A : Type 0} {P : A → Type 0} (xs : List A) (x : A) where
  pub every_more : Every xs P → P x → Every (xs ++ (x ∷ [])) P
  every_more f p = λ y m. ⊎_elim (λ k. f y k) (λ k. subst P (sym (mathlib.Core.List.Memᴰ.eq_of_singleton k)) p) (mathlib.Core.List.Memᴰ.append_cases xs m)

  pub every_first : Every (xs ++ (x ∷ [])) P → Every xs P
  every_first f = λ y m. f y (mathlib.Core.List.Memᴰ.append_left (x ∷ []) m)

  pub every-last : Every (xs ++ (x ∷ [])) P → P x
  every-last f = f x (mathlib.Core.List.Memᴰ.append_right xs (mathlib.Core.List.Memᴰ.head {xs = []} refl))
