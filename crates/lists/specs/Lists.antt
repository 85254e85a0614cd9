-- Small functions on lists. Each computes, and stops as soon as its answer is known.
use Rattle.std.specs.Prelude.{ℕ, zero, suc, ◌+◌, ◌-◌, ◌/◌, List, [], ◌∷◌, Bool, true, false, length}
use Rattle.std.proofs.Math.Option.{Option, none, some}

-- the n numbers from a on; those below n
unfoldable pub span : ℕ → ℕ → List ℕ
span a zero = []
span a (suc n) = a ∷ span (suc a) n

abbrev pub below : ℕ → List ℕ
below n = span 0 n

module _ {A : Type 0} where
  -- the first element that passes a test; those that pass it, and how many they are
  unfoldable pub first : List A → (A → Bool) → Option A
  first [] p = none
  first (x ∷ xs) p = elim (p x) [ true ↦ some x | false ↦ first xs p ]

  unfoldable pub those : List A → (A → Bool) → List A
  those [] p = []
  those (x ∷ xs) p = elim (p x) [ true ↦ x ∷ those xs p | false ↦ those xs p ]

  abbrev pub how_many : List A → (A → Bool) → ℕ
  how_many xs p = length (those xs p)

  -- the sum of f over the elements
  unfoldable pub total : List A → (A → ℕ) → ℕ
  total [] f = 0
  total (x ∷ xs) f = f x + total xs f

  abbrev pub or_else : Option A → A → A
  or_else none d = d
  or_else (some x) d = x

-- a divided by b, rounded up
abbrev pub ceil : ℕ → ℕ → ℕ
ceil a b = (a + b - 1) / b
