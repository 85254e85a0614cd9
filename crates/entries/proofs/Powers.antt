-- Powers of two: remainders by them, and their logarithms.
use Prim.Native.Nat.{ℕ, suc, ◌-◌, ◌*◌, ◌%◌, ◌^◌, ◌≤◌, ◌<◌}
use mathlib.Core.Path.{◌≡◌, ap, sym, ◌∙◌}
use mathlib.Core.Logic.{⊎_elim}
use native.Mathlib.Omega.{arith}
use native.Mathlib.Nat.{pow-suc}
use lib.Bits.{bit_and}
use lib.Pow.{pow_mono}
use Rattle.lists.specs.Cases.{lt-or}
use Rattle.settings.specs.Rules.{PowerOfTwo}
use Rattle.words.proofs.Bits.{and-ones}

pub and-power : (x n : ℕ) → PowerOfTwo n → (bit_and x (n - 1) ≡ x % n) × (bit_and x (n - 1) < n)
and-power x n p =
    let m : (bit_and x (n - 1) ≡ x % 2 ^ p.0) × (bit_and x (n - 1) < 2 ^ p.0) = and-ones x p.0 (n - 1) (ap (λ (k : ℕ). k - 1) p.1.1) in
    (m.0 ∙ ap (λ (k : ℕ). x % k) (sym p.1.1), omega (arith, m.1, p.1.1))

-- a power of two that is at least 2 ^ r and below the next power is 2 ^ r
pub log-power : (n r : ℕ) → PowerOfTwo n → 2 ^ r ≤ n → n < 2 * 2 ^ r → n ≡ 2 ^ r
log-power n r p low high =
    ⊎_elim
    (λ (h : r < p.0). absurd (omega (arith, high, p.1.1, pow-suc 2 r, pow_mono {i = suc r} {j = p.0} h)))
    (λ (h : p.0 ≤ r). omega (arith, low, p.1.1, pow_mono {i = p.0} {j = r} h))
    (lt-or r p.0)
