-- Logarithms of powers of two, by leading zeros.
use Prim.Native.Nat.{ℕ, suc, ◌+◌, ◌-◌, ◌*◌, ◌^◌, ◌≤◌, ◌<◌}
use mathlib.Core.Path.{◌≡◌, ap, sym, ◌∙◌, subst}
use mathlib.Core.Logic.{⊎_elim}
use native.Mathlib.Omega.{arith}
use native.Mathlib.Nat.{pow-suc}
use lib.Count.{count_leading_zeros, leading_top}
use lib.Dec.{eqb}
use Rattle.std.specs.Int.RustNames.{count_ones}
use Rattle.std.proofs.lemmas.Nat.{ones_cat, zero_from_ones}
use lib.Pow.{pow_pos, pow_mono}
use Rattle.lists.specs.Cases.{lt-or}
use Rattle.lists.specs.Decide.{Decides}
use Rattle.lists.proofs.Decides.{decides_eq}
use Rattle.settings.specs.Rules.{most_tier_slots, Between, PowerOfTwo}

-- between two powers in a row there is none
pow-between : (j k : ℕ) → 2 ^ j ≤ 2 ^ k → 2 ^ k < 2 ^ suc j → j ≡ k
pow-between j k a b =
    ⊎_elim
    (λ (h : j < k). absurd (omega (arith, b, pow_mono {i = suc j} {j = k} h)))
    (λ (h : k ≤ j).
    ⊎_elim
    (λ (g : k < j). absurd (omega (arith, a, pow_mono {i = suc k} {j = j} g, pow-suc 2 k, pow_pos k)))
    (λ (g : j ≤ k). omega arith)
    (lt-or k j))
    (lt-or j k)

pub leading_zeros_power : (n : ℕ) → PowerOfTwo n → (count_leading_zeros 64 n ≤ 63) × (n ≡ 2 ^ (63 - count_leading_zeros 64 n))
leading_zeros_power n p =
    let small : n < 2 ^ 64 = omega (arith, p.1.1, pow_mono {i = p.0} {j = 24} (omega (arith, p.1.0))) in
    let t : (j : ℕ) × (count_leading_zeros 64 n + suc j ≡ 64) × (2 ^ j ≤ n) × (n < 2 ^ suc j) =
    leading_top 64 n (omega (arith, p.1.1, pow_pos p.0)) small in
    let same : t.0 ≡ p.0 =
    pow-between t.0 p.0 (subst (λ (x : ℕ). 2 ^ t.0 ≤ x) p.1.1 t.2) (subst (λ (x : ℕ). x < 2 ^ suc t.0) p.1.1 t.3)
    in
    let is : t.0 ≡ 63 - count_leading_zeros 64 n = omega (arith, t.1) in
    (omega (arith, t.1), p.1.1 ∙ ap (λ (k : ℕ). 2 ^ k) (sym same ∙ is))

-- one bit is set in a power of two, and in no other number
pub one_bit : (n : ℕ) → Between 1 most_tier_slots n → Decides (eqb (count_ones n) 1) (PowerOfTwo n)
unfolding count_ones
one_bit n range =
    let t : (j : ℕ) × (count_leading_zeros 64 n + suc j ≡ 64) × (2 ^ j ≤ n) × (n < 2 ^ suc j) = leading_top 64 n (omega arith) (omega arith) in
    let j : ℕ = t.0 in
    let r : ℕ = n - 2 ^ j in
    let low : r < 2 ^ j = omega (arith, t.2, t.3, pow-suc 2 j) in
    let parts : 1 * 2 ^ j + r ≡ n = omega (arith, t.2) in
    let bits : count_ones n ≡ 1 + count_ones r = ap count_ones (sym parts) ∙ ones_cat j 1 r low in
    decides_eq (count_ones n) 1
    (λ e.
    let none : r ≡ 0 = zero_from_ones r (omega arith) in (
      j,
      (⊎_elim (λ h. h) (λ (h : 25 ≤ j). absurd (omega (arith, t.2, pow_mono {i = 25} {j = j} h))) (lt-or j 25), omega (arith, t.2)),
    ))
    (λ p. let is : n ≡ 1 * 2 ^ p.0 + 0 = omega (arith, p.1.1) in rw is (ones_cat p.0 1 0 (pow_pos p.0)))
