-- Lists of bytes. The library's `sets l at bs` is l with bs written from place `at` on.
use Rattle.std.specs.Prelude.{ℕ, ◌+◌, ◌≤◌, ◌<◌, List, [], ◌∷◌, ◌⊎◌, Bool, true, false, eqb, get_or, take, drop}

-- every element is a byte
abbrev pub Bytes : List ℕ → Type 0
Bytes l = (i : ℕ) → get_or l i 0 < 256

-- n bytes as they stand from place `at` on
abbrev pub cut : List ℕ → ℕ → ℕ → List ℕ
cut l at n = take n (drop at l)

-- two stretches, of m bytes from a and of n bytes from b, that have no byte in common
abbrev pub Apart : ℕ → ℕ → ℕ → ℕ → Type 0
Apart a m b n = (a + m ≤ b) ⊎ (b + n ≤ a)

-- two lists of bytes are the same, length and all
unfoldable pub same : List ℕ → List ℕ → Bool
same [] [] = true
same [] (y ∷ ys) = false
same (x ∷ xs) [] = false
same (x ∷ xs) (y ∷ ys) = elim (eqb x y) [ true ↦ same xs ys | false ↦ false ]
