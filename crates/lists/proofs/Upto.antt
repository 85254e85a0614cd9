-- A loop that asks the same of each number below n: those below j were asked.
use Prim.Native.Nat.{ℕ, ◌+◌, ◌≤◌, ◌<◌}
use mathlib.Core.Path.{◌≡◌, subst}
use native.Mathlib.Omega.{arith}
use native.Mathlib.Numerals.{add-one}
use Rattle.lists.specs.Quantify.{Below, below_suc}

module _ (P : ℕ → Type 0) (n : ℕ) where
  pub record Upto (j : ℕ) : Type 0 where
    pub low : j ≤ n
    pub held : Below j P

  pub upto-starts : Upto 0
  upto-starts = record { low = omega arith; held = λ i h. absurd (omega arith) }

  module _ {j : ℕ} (u : Upto j) where
    pub upto-turns : j < n → P j → Upto (j + 1)
    upto-turns h p = record { low = omega arith; held = rw add-one (below_suc P j u.held p) }

    pub upto-ends : n ≤ j → Below n P
    upto-ends h = let e : j ≡ n = omega (arith, u.low) in subst (λ (m : ℕ). Below m P) e u.held
