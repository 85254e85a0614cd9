-- How many bytes a number takes, from its leading zeros.
use Prim.Native.Nat.{ℕ, zero, suc, max, ◌+◌, ◌-◌, ◌*◌, ◌/◌, ◌%◌, ◌^◌, ◌≤◌, ◌<◌}
use mathlib.Core.Path.{◌≡◌, refl, ap, sym, ◌∙◌}
use native.Mathlib.Omega.{arith}
use native.Mathlib.Nat.{max-eq_right, pow-suc}
use lib.Bits.{bit_or, or_step, or_zero_r}
use lib.Count.{count_leading_zeros, leading_top}
use lib.ListN.{length}
use lib.Pow.{pow-add, pow_mono}
use Rattle.leb128.specs.Leb128.{encode_within, encode}
use Rattle.leb128.proofs.Encode.{encode_within-last, encode_within-more}

-- the lowest bit is set and no other changes
or-one : (n : ℕ) → bit_or n 1 ≡ n / 2 * 2 + 1
or-one n =
    let bit : max (n % 2) 1 ≡ 1 = max-eq_right (omega arith) in
    or_step n 1 ∙ rw (or_zero_r (n / 2), bit)

-- a byte for each digit of seven bits; the lowest bit set, 0 has a digit too
length_digits : (more q n : ℕ) → q ≤ more → 128 ^ q ≤ n / 2 * 2 + 1 → n < 128 ^ suc q → length (encode_within more n) ≡ suc q
length_digits more zero n room low high = ap length (encode_within-last more n (omega arith))
length_digits zero (suc q) n room low high = absurd (omega arith)
length_digits (suc more) (suc q) n room low high =
    let up : 128 ^ suc q ≡ 128 ^ q * 128 = pow-suc 128 q in
    let up' : 128 ^ suc (suc q) ≡ 128 ^ suc q * 128 = pow-suc 128 (suc q) in
    ap length (encode_within-more more n (omega arith)) ∙ ap suc (length_digits more q (n / 128) (omega arith) (omega arith) (omega arith))

digits-bits : (q : ℕ) → 128 ^ q ≡ 2 ^ (7 * q)
digits-bits zero = refl
digits-bits (suc q) =
    let bits : 7 * suc q ≡ 7 * q + 7 = omega arith in
    pow-suc 128 q ∙ ap (λ (x : ℕ). x * 128) (digits-bits q) ∙ sym (pow-add 2 (7 * q) 7) ∙ ap (λ (x : ℕ). 2 ^ x) (sym bits)

-- bit j is the highest once the lowest is set
length-bits : (n j : ℕ) → j ≤ 63 → 2 ^ j ≤ n / 2 * 2 + 1 → n / 2 * 2 + 1 < 2 ^ suc j → length (encode n) ≡ suc (j / 7)
unfolding encode
length-bits n j most low high =
    let q : ℕ = j / 7 in
    let below : 2 ^ (7 * q) ≤ 2 ^ j = pow_mono (omega arith) in
    let above : 2 ^ suc j ≤ 2 ^ (7 * suc q) = pow_mono (omega arith) in
    length_digits 9 q n (omega arith) (omega (arith, digits-bits q)) (omega (arith, digits-bits (suc q)))

-- the law of `size`
pub leading_zeros_encode : (n : ℕ) → n < 2 ^ 64
    → (count_leading_zeros 64 (bit_or n 1) ≤ 63) × ((63 - count_leading_zeros 64 (bit_or n 1)) / 7 + 1 ≡ length (encode n))
leading_zeros_encode n h =
    let odd : bit_or n 1 ≡ n / 2 * 2 + 1 = or-one n in
    let top : (j : ℕ) × (count_leading_zeros 64 (bit_or n 1) + suc j ≡ 64) × (2 ^ j ≤ bit_or n 1) × (bit_or n 1 < 2 ^ suc j) =
    leading_top 64 (bit_or n 1) (omega arith) (omega arith) in
    let j : ℕ = top.0 in
    let zeros : 63 - count_leading_zeros 64 (bit_or n 1) ≡ j = omega (arith, top.1) in
    let bytes : length (encode n) ≡ suc (j / 7) = length-bits n j (omega (arith, top.1)) (omega (arith, top.2)) (omega (arith, top.3)) in
    (omega (arith, top.1), rw zeros (omega arith))
