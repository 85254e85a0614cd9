-- Bounded quantifiers, and their decisions.
use Rattle.std.specs.Prelude.{ℕ, zero, suc, ◌<◌, ◌≡◌, refl, ◌≢◌}
use Rattle.std.proofs.Common.{subst, sym, ⊎_elim, arith}
use mathlib.Core.List.{List, [], ◌∷◌, Memᴰ}
use Rattle.lists.specs.Cases.{same_or}

-- each number below n; each element of a list
abbrev pub Below : ℕ → (ℕ → Type 0) → Type 0
Below n P = (i : ℕ) → i < n → P i

abbrev pub Every : {A : Type 0} → List A → (A → Type 0) → Type 0
Every {A} xs P = (x : A) → Memᴰ x xs → P x

-- ---- decided, from the first on

pub below_suc : (P : ℕ → Type 0) (n : ℕ) → Below n P → P n → Below (suc n) P
below_suc P n f p i h = ⊎_elim (λ (e : i ≡ n). subst P (sym e) p) (λ (e : i ≢ n). f i (omega arith)) (same_or i n)

unfoldable pub below? : (P : ℕ → Type 0) → ((i : ℕ) → Dec (P i)) → (n : ℕ) → Dec (Below n P)
below? P d zero = yes (λ i h. absurd (omega arith))
below? P d (suc n) =
    elim (below? P d n) [
      | no h ↦ no (λ f. h (λ i l. f i (omega arith)))
      | yes f ↦ elim (d n) [ no h ↦ no (λ g. h (g n (omega arith))) | yes p ↦ yes (below_suc P n f p) ]
    ]

module _ {A : Type 0} (P : A → Type 0) where
  pub every-cons : (x : A) (xs : List A) → P x → Every xs P → Every (x ∷ xs) P
  every-cons x xs p f y (Memᴰ.head e) = subst P (sym e) p
  every-cons x xs p f y (Memᴰ.tail m) = f y m

  pub every-none : Every [] P
  every-none y m = elim m [ ]

  unfoldable pub every? : ((x : A) → Dec (P x)) → (xs : List A) → Dec (Every xs P)
  every? d [] = yes every-none
  every? d (x ∷ xs) =
      elim (d x) [
        | no h ↦ no (λ f. h (f x (Memᴰ.head refl)))
        | yes p ↦ elim (every? d xs) [ no h ↦ no (λ f. h (λ y m. f y (Memᴰ.tail m))) | yes f ↦ yes (every-cons x xs p f) ]
      ]
