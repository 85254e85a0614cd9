-- Laws of numbers: products in a row, quotients rounded up.
use Prim.Native.Nat.{ℕ, ◌+◌, ◌-◌, ◌*◌, ◌/◌, ◌≤◌, ◌<◌}
use mathlib.Core.Path.{◌≡◌, ap, sym, ◌∙◌}
use native.Mathlib.Omega.{arith}
use native.Mathlib.Nat.{div-add-mod', mod-lt, one-mul, le-div_iff_mul-le, add-div_right, div-eq_of_lt, mul-le-mul_right}
use Rattle.lists.specs.Lists.{ceil}

-- rows that are w wide: row i ends before row j starts
pub mul-add-le : (w i j : ℕ) → i < j → i * w + w ≤ j * w
mul-add-le w i j h = omega (arith, mul-le-mul_right w h)

-- ---- a quotient rounded up

pub ceil-enough : (a b : ℕ) → 0 < b → a ≤ ceil a b * b
ceil-enough a b h = omega (arith, div-add-mod' (a + b - 1) b, mod-lt (a + b - 1) h)

pub ceil-pos : (a b : ℕ) → 0 < a → 0 < b → 0 < ceil a b
ceil-pos a b h k = (le-div_iff_mul-le k).1 (rw one-mul (omega arith))

pub ceil-one : (a b : ℕ) → 1 ≤ a → a ≤ b → 1 ≡ ceil a b
ceil-one a b h k =
    let e : a + b - 1 ≡ (a - 1) + b = omega arith in
    sym (ap (λ (x : ℕ). x / b) e ∙ add-div_right (a - 1) (omega arith) ∙ ap (λ (x : ℕ). x + 1) (div-eq_of_lt (omega arith)))
