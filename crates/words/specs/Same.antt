-- Whether two lists of bytes are the same is decided.
use Rattle.std.specs.Prelude.{ℕ, ◌≡◌, refl, List, [], ◌∷◌}
use Rattle.std.proofs.Math.Decide.{ℕ_discrete}
use Rattle.std.proofs.Common.{arith}

unfoldable pub same? : (xs ys : List ℕ) → Dec (xs ≡ ys)
same? [] [] = yes refl
same? [] (y ∷ ys) = no (λ e. let z : ◌≡◌ {A = ℕ} 0 1 = cc in omega arith)
same? (x ∷ xs) [] = no (λ e. let z : ◌≡◌ {A = ℕ} 0 1 = cc in omega arith)
same? (x ∷ xs) (y ∷ ys) =
    elim (ℕ_discrete x y) [
      | no n ↦ no (λ e. let h : x ≡ y = cc in n h)
      | yes p ↦ elim (same? xs ys) [ no n ↦ no (λ e. let h : xs ≡ ys = cc in n h) | yes q ↦ yes (cc) ]
    ]
