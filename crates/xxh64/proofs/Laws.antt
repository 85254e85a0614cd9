-- Laws of rotation, and of the definitions' recursions.
use Rattle.std.proofs.Common.{◌≡◌, ℕ, ◌+◌, ◌-◌, ◌*◌, ◌/◌, ◌%◌, ◌^◌, ◌<◌, ◌≤◌, List, length, sym, refl, ap, ◌∙◌, subst, ap₂, add-zero, add-one, arith, shr_lt, le-ltb, lt-ltb}
use native.Mathlib.Nat.{mul-mod_left}
use lib.Pow.{shl-shr, mod-pow-add}
use lib.Bits.{bit_or, or_shifted}
use Rattle.words.specs.Numbers.{le}
use Rattle.xxh64.specs.Hash.{P5, add64, rotl64, stripe_of, lanes_of, converge_of, start_of, total_of, tail_of, rest_of, avalanche_of, xxh64}

-- ---- rotation

-- the digits that stay, at their new place
shl-low : (x j k : ℕ) → x * 2 ^ k % 2 ^ (j + k) ≡ x % 2 ^ j * 2 ^ k
shl-low x j k =
    mod-pow-add (x * 2 ^ k) j k
    ∙ ap₂ (λ (a b : ℕ). a % 2 ^ j * 2 ^ k + b) (shl-shr x k) (mul-mod_left x (2 ^ k))
    ∙ add-zero (x % 2 ^ j * 2 ^ k)

or-rotated : (x j k : ℕ) → x < 2 ^ (k + j) → bit_or (x * 2 ^ k % 2 ^ (j + k)) (x / 2 ^ j) ≡ x * 2 ^ k % 2 ^ (j + k) + x / 2 ^ j
or-rotated x j k h =
    ap (λ (a : ℕ). bit_or a (x / 2 ^ j)) (shl-low x j k)
    ∙ or_shifted (x % 2 ^ j) k (x / 2 ^ j) (shr_lt k j h)
    ∙ ap (λ (a : ℕ). a + x / 2 ^ j) (sym (shl-low x j k))

pub rotl64-or : (x n : ℕ) → x < 2 ^ 64 → n < 64 → bit_or (x * 2 ^ n % 2 ^ 64) (x / 2 ^ (64 - n)) ≡ rotl64 x n
rotl64-or x n hx hn =
    let e : 64 - n + n ≡ 64 = omega arith in
    let f : n + (64 - n) ≡ 64 = omega arith in
    subst (λ (w : ℕ). bit_or (x * 2 ^ n % 2 ^ w) (x / 2 ^ (64 - n)) ≡ x * 2 ^ n % 2 ^ w + x / 2 ^ (64 - n)) e
    (or-rotated x (64 - n) n (subst (λ (w : ℕ). x < 2 ^ w) (sym f) hx))

-- ---- one turn more

pub lanes_of_more : (xs : List ℕ) (n : ℕ) → lanes_of xs (n + 1) ≡ stripe_of xs (n * 32) (lanes_of xs n)
unfolding lanes_of
lanes_of_more xs n = rw add-one

-- a tail with nothing in it, and with one number more
module _ (mix : ℕ → ℕ → ℕ) (size : ℕ) (xs : List ℕ) (i acc : ℕ) where
  pub tail_of-none : tail_of mix size xs i acc 0 ≡ acc
  unfolding tail_of
  tail_of-none = refl

  pub tail_of-more : (n : ℕ) → tail_of mix size xs i acc (n + 1) ≡ mix (tail_of mix size xs i acc n) (le xs (i + size * n) size)
  unfolding tail_of
  tail_of-more n = rw add-one

-- ---- the two ways through the hash

pub xxh64-short : (xs : List ℕ) → length xs < 32 → xxh64 xs ≡ avalanche_of (rest_of xs 0 (length xs % 32) (add64 P5 (length xs)))
unfolding xxh64 total_of start_of
xxh64-short xs h =
    let e : length xs / 32 * 32 ≡ 0 = omega arith in
    rw (lt-ltb (length xs) 32 h, e)

pub xxh64-long : (xs : List ℕ) → 32 ≤ length xs
    → xxh64 xs
    ≡ avalanche_of
    (rest_of xs (length xs / 32 * 32) (length xs % 32) (add64 (converge_of (lanes_of xs (length xs / 32))) (length xs)))
unfolding xxh64 total_of start_of
xxh64-long xs h = rw (le-ltb (length xs) 32 h)
