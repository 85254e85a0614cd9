-- Laws of bits: of a number, and of a list of bytes.
use Prim.Native.Nat.{ℕ, zero, suc, ◌+◌, ◌-◌, ◌*◌, ◌/◌, ◌%◌, ◌^◌, ◌≤◌, ◌<◌}
use mathlib.Core.List.{List}
use mathlib.Core.Path.{◌≡◌, refl, ap, ap₂, sym, ◌∙◌, subst}
use mathlib.Core.Logic.{◌⊎◌, inl, inr, ⊎_elim, ◌≢◌}
use native.Mathlib.Omega.{arith}
use native.Mathlib.Nat.{add-zero, add_comm, one-mul, mod-eq_of_lt, mod-lt, mul_assoc, mul-le-mul_right, div-eq_of_lt, lt_of_lt_of_le, pow-suc}
use native.Mathlib.Numerals.{add-one}
use lib.ListN.{length, get_or, length-set}
use lib.Seq.{get_or-set_same, get_or-set_other, set_out}
use lib.Pow.{pow-add, split, high, low, field, mod-mod-pow, shr-shr, shr_lt, pow_pos, pow-lt, pow_mono, shl_exact, ones_lt}
use lib.Arith.{digits_lt, mul_pred}
use lib.Bits.{bit_and, bit_or, or_block, or_step, or_zero_r, and_block, and_step, and_mask, mask_lt, or_shifted_r}
use Rattle.words.specs.Bytes.{Bytes}
use Rattle.words.specs.Bits.{bit_of, with_bit, bit, put_bit, put_bits, ones}
use Rattle.lists.specs.Cases.{lt-or, same_or}
use Rattle.words.proofs.Bytes.{bytes-set}

-- ---- bits of a number

mod_pow-lt : (v i : ℕ) → v % 2 ^ i < 2 ^ i
mod_pow-lt v i = mod-lt v (pow_pos i)

pub bit_of_lt : (v i : ℕ) → bit_of v i < 2
bit_of_lt v i = omega arith

bit_of_with_bit-same : (v i b : ℕ) → b < 2 → bit_of (with_bit v i b) i ≡ b
bit_of_with_bit-same v i b h = rw (high (v / 2 ^ i / 2 * 2 + b) i (mod_pow-lt v i)) (omega arith)

-- the bits below i are those of the number modulo 2 ^ i
bit_of_mod : (v i j : ℕ) → j < i → bit_of v j ≡ bit_of (v % 2 ^ i) j
bit_of_mod v i j h =
    let k : ℕ = i - j - 1 in
    let e : k + 1 + j ≡ i = omega arith in
    let f : v % 2 ^ i / 2 ^ j ≡ v / 2 ^ j % 2 ^ (k + 1) = subst (λ (w : ℕ). v % 2 ^ w / 2 ^ j ≡ v / 2 ^ j % 2 ^ (k + 1)) e (field v (k + 1) j) in
    sym (mod-mod-pow (v / 2 ^ j) k 1) ∙ ap (λ (x : ℕ). x % 2) (sym f)

-- those above i are those of the number without its i + 1 lowest
div-pow-above : (v i j : ℕ) → i < j → v / 2 ^ j ≡ v / 2 ^ i / 2 / 2 ^ (j - i - 1)
div-pow-above v i j h =
    let e : i + 1 + (j - i - 1) ≡ j = omega arith in
    sym (shr-shr (v / 2 ^ i) 1 (j - i - 1) ∙ shr-shr v i (1 + (j - i - 1)) ∙ ap (λ (w : ℕ). v / 2 ^ w) (omega arith))

bit_of_with_bit-other : (v i b j : ℕ) → b < 2 → j ≢ i → bit_of (with_bit v i b) j ≡ bit_of v j
bit_of_with_bit-other v i b j hb ne =
    ⊎_elim
    (λ (h : j < i).
    bit_of_mod (with_bit v i b) i j h
    ∙ ap (λ (w : ℕ). bit_of w j) (low (v / 2 ^ i / 2 * 2 + b) i (mod_pow-lt v i))
    ∙ sym (bit_of_mod v i j h))
    (λ (h : i ≤ j).
    let above : i < j = omega arith in
    let same : with_bit v i b / 2 ^ i / 2 ≡ v / 2 ^ i / 2 = rw (high (v / 2 ^ i / 2 * 2 + b) i (mod_pow-lt v i)) (omega arith) in
    ap (λ (w : ℕ). w % 2) (div-pow-above (with_bit v i b) i j above ∙ ap (λ (w : ℕ). w / 2 ^ (j - i - 1)) same ∙ sym (div-pow-above v i j above)))
    (lt-or j i)

-- a byte is 7 - i bits, a bit and i bits
pow-split : (i : ℕ) → i < 8 → 2 ^ (7 - i) * 2 * 2 ^ i ≡ 256
pow-split i h =
    let e : 7 - i + 1 + i ≡ 8 = omega arith in
    sym (pow-add 2 (7 - i + 1) i ∙ ap (λ (w : ℕ). w * 2 ^ i) (pow-add 2 (7 - i) 1)) ∙ ap (λ (w : ℕ). 2 ^ w) e

div-pow-lt : (v i : ℕ) → v < 256 → i < 8 → v / 2 ^ i / 2 < 2 ^ (7 - i)
div-pow-lt v i hv hi =
    let e : 7 - i + (i + 1) ≡ 8 = omega arith in
    rw (shr-shr v i 1) (shr_lt (7 - i) (i + 1) (subst (λ (w : ℕ). v < 2 ^ w) (sym e) hv))

with_bit-lt : (v i b : ℕ) → v < 256 → i < 8 → b < 2 → with_bit v i b < 256
with_bit-lt v i b hv hi hb =
    let upper : v / 2 ^ i / 2 * 2 + b < 2 ^ (7 - i) * 2 = omega (arith, div-pow-lt v i hv hi) in
    rw (← pow-split i hi) (digits_lt upper (mod_pow-lt v i))

-- ---- the masks of the code

-- a 1 shifted by fewer places than the word has
pub shifted_one : (w n : ℕ) → n < w → 1 * 2 ^ n % 2 ^ w ≡ 2 ^ n
shifted_one w n h = rw one-mul (mod-eq_of_lt (pow-lt {i = n} {j = w} h))

-- b in the place of a 0
or-with_bit : (v i b : ℕ) → b < 2 → bit_or (with_bit v i 0) (b * 2 ^ i) ≡ with_bit v i b
or-with_bit v i b h =
    let x : ℕ = v / 2 ^ i / 2 in
    let half : (x * 2 + 0) / 2 ≡ x = omega arith in
    let none : b / 2 ≡ 0 = omega arith in
    let one : bit_or (x * 2 + 0) b ≡ x * 2 + b = or_step (x * 2 + 0) b ∙ ap₂ (λ (c d : ℕ). c * 2 + d) (rw (half, none) (or_zero_r x)) (omega arith) in
    ap (bit_or (with_bit v i 0)) (sym (add-zero (b * 2 ^ i)))
    ∙ or_block i (x * 2 + 0) b (v % 2 ^ i) 0 (mod_pow-lt v i) (pow_pos i)
    ∙ ap₂ (λ (c d : ℕ). c * 2 ^ i + d) one (or_zero_r (v % 2 ^ i))

-- every bit of a byte but bit i
ones-but : (i : ℕ) → i < 8 → 255 - 2 ^ i ≡ (2 ^ (7 - i) - 1) * 2 * 2 ^ i + (2 ^ i - 1)
ones-but i h =
    let e : 2 ^ (7 - i) * (2 * 2 ^ i) ≡ 256 = sym (mul_assoc (2 ^ (7 - i)) 2 (2 ^ i)) ∙ pow-split i h in
    let p : 2 ^ (7 - i) * (2 * 2 ^ i) - 1 ≡ (2 ^ (7 - i) - 1) * (2 * 2 ^ i) + (2 * 2 ^ i - 1) = mul_pred (pow_pos (7 - i)) (omega (arith, pow_pos i)) in
    rw (mul_assoc (2 ^ (7 - i) - 1) 2 (2 ^ i)) (omega (arith, pow_pos i))

and-with_bit : (v i : ℕ) → v < 256 → i < 8 → bit_and v (255 - 2 ^ i) ≡ with_bit v i 0
and-with_bit v i hv hi =
    let x : ℕ = v / 2 ^ i in
    let m : ℕ = 2 ^ (7 - i) - 1 in
    let half : m * 2 / 2 ≡ m = omega arith in
    let even : m * 2 % 2 ≡ 0 = omega arith in
    let upper : bit_and (x / 2) m ≡ x / 2 = and_mask (x / 2) (7 - i) ∙ mod-eq_of_lt (div-pow-lt v i hv hi) in
    let high_part : bit_and x (m * 2) ≡ x / 2 * 2 + 0 = and_step x (m * 2) ∙ rw (half, even, upper) (omega arith) in
    let low_part : bit_and (v % 2 ^ i) (2 ^ i - 1) ≡ v % 2 ^ i = and_mask (v % 2 ^ i) i ∙ mod-eq_of_lt (mod_pow-lt v i) in
    ap₂ bit_and (sym (split v i)) (ones-but i hi)
    ∙ and_block i x (m * 2) (v % 2 ^ i) (2 ^ i - 1) (mod_pow-lt v i) (ones_lt i)
    ∙ ap₂ (λ (a b : ℕ). a * 2 ^ i + b) high_part low_part

pub and-ones : (x n m : ℕ) → m ≡ 2 ^ n - 1 → (bit_and x m ≡ x % 2 ^ n) × (bit_and x m < 2 ^ n)
and-ones x n m e = rw e (and_mask x n, mask_lt x n)

pub shr-out : (v n : ℕ) → v < 2 ^ 64 → 64 ≤ n → v / 2 ^ n ≡ 0
shr-out v n h k = div-eq_of_lt (lt_of_lt_of_le h (pow_mono {i = 64} {j = n} k))

pub or-shl : (k v l c : ℕ) → l < 2 ^ k → c < 2 ^ v → k + v ≤ 64 → bit_or l (c * 2 ^ k % 2 ^ 64) ≡ l + c * 2 ^ k
or-shl k v l c hl hc fits = rw (shl_exact v k 64 hc (omega arith), or_shifted_r c k l hl) (add_comm (c * 2 ^ k) l)

pub pow-256 : (n : ℕ) → 256 ^ n ≡ 2 ^ (8 * n)
pow-256 zero = refl
pow-256 (suc n) =
    let e : 8 * suc n ≡ 8 * n + 8 = omega arith in rw (e, pow-suc 256 n, pow-add 2 (8 * n) 8) (ap (λ (x : ℕ). x * 256) (pow-256 n))

pub masks-with_bit : (v i b : ℕ) → v < 256 → i < 8 → b < 2 → bit_or (bit_and v (255 - 1 * 2 ^ i % 256)) (b * 2 ^ i % 256) ≡ with_bit v i b
masks-with_bit v i b hv hi hb =
    let one : b ≤ 1 = omega arith in
    let fits : b * 2 ^ i < 256 = omega (arith, mul-le-mul_right (2 ^ i) one, pow-lt {i = i} {j = 8} hi) in
    rw (shifted_one 8 i hi, and-with_bit v i hv hi, mod-eq_of_lt fits) (or-with_bit v i b hb)

-- ---- bits of a list of bytes

pub length_put_bit : (l : List ℕ) (at i b : ℕ) → length (put_bit l at i b) ≡ length l
unfolding put_bit
length_put_bit l at i b = length-set l (at + i / 8) _

pub bytes_put_bit : (l : List ℕ) (at i b : ℕ) → Bytes l → b < 2 → Bytes (put_bit l at i b)
unfolding put_bit
bytes_put_bit l at i b h hb = bytes-set l (at + i / 8) _ h (with_bit-lt (get_or l (at + i / 8) 0) (i % 8) b (h _) (omega arith) hb)

pub get_or_put_bit_out : (l : List ℕ) (at i b j : ℕ) → j ≢ at + i / 8 → get_or (put_bit l at i b) j 0 ≡ get_or l j 0
unfolding put_bit
get_or_put_bit_out l at i b j ne = get_or-set_other l (at + i / 8) j _ 0 ne

pub bit_put_bit_same : (l : List ℕ) (at i b : ℕ) → 8 * at + i < 8 * length l → b < 2 → bit (put_bit l at i b) at i ≡ b
unfolding bit put_bit
bit_put_bit_same l at i b h hb = rw (get_or-set_same l (at + i / 8) _ 0 (omega arith)) (bit_of_with_bit-same (get_or l (at + i / 8) 0) (i % 8) b hb)

pub bit_put_bit_other : (l : List ℕ) (at i b j : ℕ) → b < 2 → j ≢ i → bit (put_bit l at i b) at j ≡ bit l at j
unfolding bit put_bit
bit_put_bit_other l at i b j hb ne =
    ⊎_elim
    (λ (e : j / 8 ≡ i / 8).
    let apart : j % 8 ≢ i % 8 = omega arith in
    ⊎_elim
    (λ (h : at + i / 8 < length l). rw (e, get_or-set_same l (at + i / 8) _ 0 h) (bit_of_with_bit-other (get_or l (at + i / 8) 0) (i % 8) b (j % 8) hb apart))
    (λ (h : length l ≤ at + i / 8). rw (set_out l (at + i / 8) _ h))
    (lt-or (at + i / 8) (length l)))
    (λ (e : j / 8 ≢ i / 8). rw (get_or-set_other l (at + i / 8) (at + j / 8) _ 0 (omega arith)))
    (same_or (j / 8) (i / 8))

-- ---- a range of bits

pub put_bits-more : (l : List ℕ) (at i n b : ℕ) → put_bits l at i (n + 1) b ≡ put_bit (put_bits l at i n b) at (i + n) b
unfolding put_bits
put_bits-more l at i n b = rw add-one

pub put_bits-none : (l : List ℕ) (at i b : ℕ) → put_bits l at i 0 b ≡ l
unfolding put_bits
put_bits-none l at i b = refl

pub length-put_bits : (l : List ℕ) (at i n b : ℕ) → length (put_bits l at i n b) ≡ length l
unfolding put_bits
length-put_bits l at i zero b = refl
length-put_bits l at i (suc n) b = length_put_bit (put_bits l at i n b) at (i + n) b ∙ length-put_bits l at i n b

pub bytes-put_bits : (l : List ℕ) (at i n b : ℕ) → Bytes l → b < 2 → Bytes (put_bits l at i n b)
unfolding put_bits
bytes-put_bits l at i zero b h hb = h
bytes-put_bits l at i (suc n) b h hb = bytes_put_bit (put_bits l at i n b) at (i + n) b (bytes-put_bits l at i n b h hb) hb

-- a byte that holds none of the range
pub get_or-put_bits-out : (l : List ℕ) (at i n b j : ℕ) → (8 * j + 7 < 8 * at + i) ⊎ (8 * at + i + n ≤ 8 * j)
    → get_or (put_bits l at i n b) j 0 ≡ get_or l j 0
unfolding put_bits
get_or-put_bits-out l at i zero b j o = refl
get_or-put_bits-out l at i (suc n) b j o =
    get_or_put_bit_out (put_bits l at i n b) at (i + n) b j
    (⊎_elim (λ (h : 8 * j + 7 < 8 * at + i). omega arith) (λ (h : 8 * at + i + suc n ≤ 8 * j). omega arith) o)
    ∙ get_or-put_bits-out l at i n b j (⊎_elim (λ h. inl h) (λ (h : 8 * at + i + suc n ≤ 8 * j). inr (omega arith)) o)

pub bit-put_bits-out : (l : List ℕ) (at i n b j : ℕ) → b < 2 → (j < i) ⊎ (i + n ≤ j) → bit (put_bits l at i n b) at j ≡ bit l at j
unfolding put_bits
bit-put_bits-out l at i zero b j hb o = refl
bit-put_bits-out l at i (suc n) b j hb o =
    bit_put_bit_other (put_bits l at i n b) at (i + n) b j hb (⊎_elim (λ (h : j < i). omega arith) (λ (h : i + suc n ≤ j). omega arith) o)
    ∙ bit-put_bits-out l at i n b j hb (⊎_elim (λ h. inl h) (λ (h : i + suc n ≤ j). inr (omega arith)) o)

pub bit-put_bits_in : (l : List ℕ) (at i n b j : ℕ) → 8 * at + i + n ≤ 8 * length l → b < 2 → i ≤ j → j < i + n
    → bit (put_bits l at i n b) at j ≡ b
unfolding put_bits
bit-put_bits_in l at i zero b j h hb lo hi = absurd (omega arith)
bit-put_bits_in l at i (suc n) b j h hb lo hi =
    ⊎_elim
    (λ (e : j ≡ i + n). rw e (bit_put_bit_same (put_bits l at i n b) at (i + n) b (rw length-put_bits (omega arith)) hb))
    (λ (e : j ≢ i + n).
    bit_put_bit_other (put_bits l at i n b) at (i + n) b j hb e
    ∙ bit-put_bits_in l at i n b j (omega arith) hb lo (omega arith))
    (same_or j (i + n))

-- ---- counting

pub ones-more : (l : List ℕ) (at i n : ℕ) → ones l at i (n + 1) ≡ ones l at i n + bit l at (i + n)
unfolding ones
ones-more l at i n = rw add-one

pub ones_none : (l : List ℕ) (at i : ℕ) → ones l at i 0 ≡ 0
unfolding ones
ones_none l at i = refl

pub ones-le : (l : List ℕ) (at i n : ℕ) → ones l at i n ≤ n
unfolding ones bit
ones-le l at i zero = omega arith
ones-le l at i (suc n) = omega (arith, ones-le l at i n)

-- ---- the loop that sets or clears: the bits before k are made b

pub record PuttingBits (l₀ : List ℕ) (at i n b : ℕ) (l : List ℕ) (k : ℕ) : Type 0 where
  pub low : k ≤ n
  pub long : length l ≡ length l₀
  pub is : l ≡ put_bits l₀ at i k b

pub put_bits-starts : (l : List ℕ) (at i n b : ℕ) → PuttingBits l at i n b l 0
put_bits-starts l at i n b = record { low = omega arith; long = refl; is = sym (put_bits-none l at i b) }

pub put_bits-turns : {l₀ : List ℕ} {at i n b : ℕ} {l : List ℕ} {k : ℕ} {l' : List ℕ} → PuttingBits l₀ at i n b l k → k < n
    → l' ≡ put_bit l at (i + k) b
    → PuttingBits l₀ at i n b l' (k + 1)
put_bits-turns {l₀} {at} {i} {n} {b} {l} {k} p h e =
    record { low = omega arith; long = ap length e ∙ length_put_bit l at (i + k) b ∙ p.long; is = cc (put_bits-more l₀ at i k b, p.is) }

pub put_bits-ends : {l₀ : List ℕ} {at i n b : ℕ} {l : List ℕ} {k : ℕ} → PuttingBits l₀ at i n b l k → n ≤ k → l ≡ put_bits l₀ at i n b
put_bits-ends {l₀} {at} {i} {n} {b} {l} {k} p h = let e : k ≡ n = omega (arith, p.low) in let f : l ≡ put_bits l₀ at i k b = p.is in rw e at f
