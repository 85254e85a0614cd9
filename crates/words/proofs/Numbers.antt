-- Laws of numbers in bytes, over every width, and what the loops that read and write one keep.
use Prim.Native.Nat.{ℕ, zero, suc, ◌+◌, ◌-◌, ◌*◌, ◌/◌, ◌%◌, ◌^◌, ◌≤◌, ◌<◌}
use mathlib.Core.List.{List, ◌++◌}
use mathlib.Core.Path.{◌≡◌, refl, ap, ◌∙◌}
use mathlib.Core.Logic.{◌⊎◌, inl, inr, ⊎_elim}
use native.Mathlib.Omega.{arith}
use native.Mathlib.Nat.{sub-zero, add-zero, zero-add, pow-suc, pow-le-pow_right}
use native.Mathlib.Numerals.{add-one, towards_numerals}
use lib.ListN.{length, get_or, set, drop, replicate, length-set, get_or-append}
use lib.Seq.{sets, length-sets, get_or-set_same, get_or-drop}
use Rattle.std.proofs.lemmas.List.{get_or-append_right}
use Rattle.std.specs.Int.{w64, from_le_bytes}
use Rattle.words.specs.Bytes.{Bytes, Apart, cut}
use Rattle.words.specs.Numbers.{le, le_bytes, put_le, be}
use Rattle.words.proofs.Bytes.{get_or-sets-out, bytes-sets, length_cut, get_or-cut}

-- ---- the bytes of a number

pub length_le_bytes : (n v : ℕ) → length (le_bytes n v) ≡ n
unfolding le_bytes
length_le_bytes zero v = refl
length_le_bytes (suc n) v = ap suc (length_le_bytes n (v / 256))

bytes_le_bytes : (n v : ℕ) → Bytes (le_bytes n v)
unfolding le_bytes
bytes_le_bytes zero v i = omega arith
bytes_le_bytes (suc n) v zero = omega arith
bytes_le_bytes (suc n) v (suc i) = bytes_le_bytes n (v / 256) i

-- ---- what a write keeps

pub length-put_le : (l : List ℕ) (at n v : ℕ) → length (put_le l at n v) ≡ length l
unfolding put_le
length-put_le l at n v = length-sets l at (le_bytes n v)

pub bytes-put_le : (l : List ℕ) (at n v : ℕ) → Bytes l → Bytes (put_le l at n v)
unfolding put_le
bytes-put_le l at n v b = bytes-sets l at (le_bytes n v) b (bytes_le_bytes n v)

pub get_or-put_le-out : (l : List ℕ) (at n v i : ℕ) → (i < at) ⊎ (at + n ≤ i) → get_or (put_le l at n v) i 0 ≡ get_or l i 0
unfolding put_le
get_or-put_le-out l at n v i o =
    get_or-sets-out l at (le_bytes n v) i (⊎_elim (λ h. inl h) (λ (h : at + n ≤ i). inr (omega (arith, length_le_bytes n v))) o)

-- ---- reading after writing

pub le-ext : (l l' : List ℕ) (at n : ℕ) → ((i : ℕ) → at ≤ i → i < at + n → get_or l i 0 ≡ get_or l' i 0) → le l at n ≡ le l' at n
unfolding le
le-ext l l' at zero h = refl
le-ext l l' at (suc n) h = rw (h at (omega arith) (omega arith), le-ext l l' (suc at) n (λ i a b. h i (omega arith) (omega arith)))

-- the same bytes at two places give the same number, and bytes are told by it
pub le_same : (l l' : List ℕ) (a b n : ℕ) → ((j : ℕ) → j < n → get_or l (a + j) 0 ≡ get_or l' (b + j) 0) → le l a n ≡ le l' b n
unfolding le
le_same l l' a b zero h = refl
le_same l l' a b (suc n) h =
    let first : get_or l a 0 ≡ get_or l' b 0 = rw (add-zero, add-zero) at (h 0 (omega arith)) in
    let others : le l (suc a) n ≡ le l' (suc b) n = le_same l l' (suc a) (suc b) n later in
    rw (first, others)
  where
    later : (j : ℕ) → j < n → get_or l (suc a + j) 0 ≡ get_or l' (suc b + j) 0
    later j k =
        let p : suc a + j ≡ a + suc j = omega arith in
        let q : suc b + j ≡ b + suc j = omega arith in
        rw (p, q) (h (suc j) (omega arith))

pub le-inj : (l l' : List ℕ) (a b n : ℕ) → Bytes l → Bytes l' → le l a n ≡ le l' b n
    → (j : ℕ) → j < n → get_or l (a + j) 0 ≡ get_or l' (b + j) 0
unfolding le
le-inj l l' a b zero bl bm e j h = absurd (omega arith)
le-inj l l' a b (suc n) bl bm e zero h = rw (add-zero, add-zero) (omega (arith, e, bl a, bm b))
le-inj l l' a b (suc n) bl bm e (suc j) h =
    let p : a + suc j ≡ suc a + j = omega arith in
    let q : b + suc j ≡ suc b + j = omega arith in
    rw (p, q) (le-inj l l' (suc a) (suc b) n bl bm (omega (arith, e, bl a, bm b)) j (omega arith))

pub le-put_le-out : (l : List ℕ) (at n v b m : ℕ) → Apart at n b m → le (put_le l at n v) b m ≡ le l b m
le-put_le-out l at n v b m o =
    le-ext _ _ b m
    (λ i p q. get_or-put_le-out l at n v i (⊎_elim (λ (h : at + n ≤ b). inr (omega arith)) (λ (h : b + m ≤ at). inl (omega arith)) o))

pub le-put_le-same : (l : List ℕ) (at n v : ℕ) → at + n ≤ length l → v < 256 ^ n → le (put_le l at n v) at n ≡ v
unfolding le put_le le_bytes
le-put_le-same l at zero v h f = omega arith
le-put_le-same l at (suc n) v h f =
    omega (
      arith,
      get_or-put_le-out (set l at (v % 256)) (suc at) n (v / 256) at (inl (omega arith)),
      get_or-set_same l at (v % 256) 0 (omega arith),
      le-put_le-same (set l at (v % 256)) (suc at) n (v / 256) (rw length-set (omega arith)) (omega (arith, pow-suc 256 n)),
    )

pub le-lt : (l : List ℕ) (at n : ℕ) → Bytes l → le l at n < 256 ^ n
unfolding le
le-lt l at zero b = omega arith
le-lt l at (suc n) b = omega (arith, b at, le-lt l (suc at) n b)

-- ---- fixed widths, as sums

pub le-one : (l : List ℕ) (at : ℕ) → le l at 1 ≡ get_or l at 0
unfolding le
le-one l at = omega arith

pub le_four : (l : List ℕ) (at : ℕ)
    → le l at 4 ≡ get_or l at 0 + get_or l (at + 1) 0 * 256 + get_or l (at + 2) 0 * 65536 + get_or l (at + 3) 0 * 16777216
unfolding le
le_four l at = simp towards_numerals (omega arith)

-- ---- the read, by eight bytes: those of the number, and zeros above

le-none : (l : List ℕ) (at n : ℕ) → ((i : ℕ) → at ≤ i → get_or l i 0 ≡ 0) → le l at n ≡ 0
unfolding le
le-none l at zero z = refl
le-none l at (suc n) z = omega (arith, z at (omega arith), le-none l (suc at) n (λ i h. z i (omega arith)))

-- zeros above the n lowest bytes add nothing
le-above : (l : List ℕ) (at n m : ℕ) → ((i : ℕ) → at + n ≤ i → get_or l i 0 ≡ 0) → le l at (n + m) ≡ le l at n
unfolding le
le-above l at zero m z = rw zero-add (le-none l at m (λ i h. z i (omega arith)))
le-above l at (suc n) m z =
    let e : suc n + m ≡ suc (n + m) = omega arith in rw (e, le-above l (suc at) n m (λ i h. z i (omega arith)))

le-eight_bytes : (bs : List ℕ) → from_le_bytes w64 bs ≡ le bs 0 8
unfolding le
le-eight_bytes bs = simp towards_numerals (omega arith)

zeros : (k i : ℕ) → ◌≡◌ {A = ℕ} (get_or (replicate k 0) i 0) 0
zeros zero i = refl
zeros (suc k) zero = refl
zeros (suc k) (suc i) = zeros k i

pub le-padded : (l bs : List ℕ) (at n : ℕ) {v : ℕ} → Bytes l → (at + n ≤ length l) × (n ≤ 8) → bs ≡ cut l at (at + n - at)
    → v ≡ from_le_bytes w64 (bs ++ drop n (replicate 8 0))
    → (v ≡ le l at n) × (v < 256 ^ n)
le-padded l bs at n b r copied e =
    let k : at + n - at ≡ n = omega arith in
    let is : bs ≡ cut l at n = rw k at copied in
    let long : length bs ≡ n = ap length is ∙ length_cut l at n r.0 in
    let padded : List ℕ = bs ++ drop n (replicate 8 0) in
    let all : n + (8 - n) ≡ 8 = omega (arith, r.1) in
    let above : (i : ℕ) → 0 + n ≤ i → get_or padded i 0 ≡ 0 =
    λ i h. get_or-append_right bs _ n i 0 long (omega arith) ∙ get_or-drop n (replicate 8 0) (i - n) 0 ∙ zeros 8 (n + (i - n))
    in
    let below : (j : ℕ) → j < n → get_or padded (0 + j) 0 ≡ get_or l (at + j) 0 =
    λ j h. rw zero-add (get_or-append bs _ 0 j (omega arith) ∙ ap (λ (x : List ℕ). get_or x j 0) is ∙ get_or-cut l at n j h)
    in
    let sum : le padded 0 (n + (8 - n)) ≡ le l at n = le-above padded 0 n (8 - n) above ∙ le_same padded l 0 at n below in
    let same : _ ≡ le l at n = e ∙ le-eight_bytes padded ∙ rw all at sum in
    (same, rw same (le-lt l at n b))

-- what stands after its bytes does not matter
pub be-append : (l rest : List ℕ) (at n : ℕ) → at + n ≤ length l → be (l ++ rest) at n ≡ be l at n
unfolding be
be-append l rest at zero h = refl
be-append l rest at (suc n) h = rw (be-append l rest at n (omega arith), get_or-append l rest 0 (at + n) (omega arith))

-- ---- the loop that reads big-endian: the number of the bytes before k

pub record ReadingBe (l : List ℕ) (at n sum k : ℕ) : Type 0 where
  pub low : k ≤ n
  pub is : sum ≡ be l at k
  pub fits : sum < 256 ^ k

pub be-starts : (l : List ℕ) (at n : ℕ) → ReadingBe l at n 0 0
unfolding be
be-starts l at n = record { low = omega arith; is = refl; fits = omega arith }

pub be-turns : {l : List ℕ} {at n sum k : ℕ} → ReadingBe l at n sum k → (b : ℕ) → k < n → b ≡ get_or l (at + k) 0 → b < 256
    → ReadingBe l at n (sum * 256 + b) (k + 1)
unfolding be
be-turns {l} {at} {n} {sum} {k} r b h e lt =
    record { low = omega arith; is = rw (add-one, be, ← r.is) (omega arith); fits = rw (add-one, pow-suc) (omega (arith, r.fits)) }

pub be-ends : {l : List ℕ} {at n sum k : ℕ} → ReadingBe l at n sum k → n ≤ k → (sum ≡ be l at n) × (sum < 256 ^ n)
be-ends {l} {at} {n} {sum} {k} r z =
    let e : k ≡ n = omega (arith, r.low) in
    let f : sum ≡ be l at k = r.is in
    let g : sum < 256 ^ k = r.fits in
    (rw e at f, rw e at g)

-- a sum of fewer than 8 bytes takes one more
pub seven-bytes-lt : {sum k : ℕ} → sum < 256 ^ k → k ≤ 7 → sum < 72057594037927936
seven-bytes-lt {sum} {k} h small = omega (arith, pow-le-pow_right {n = 256} (omega arith) {i = k} {j = 7} small)

-- ---- the loop that writes: the writes that are left, from k on, are those of the whole

pub record WritingLe (l₀ : List ℕ) (at n v : ℕ) (l : List ℕ) (rest k : ℕ) : Type 0 where
  pub low : k ≤ n
  pub long : length l ≡ length l₀
  pub is : put_le l (at + k) (n - k) rest ≡ put_le l₀ at n v

pub put_le-starts : (l : List ℕ) (at n v : ℕ) → WritingLe l at n v l v 0
put_le-starts l at n v = record { low = omega arith; long = refl; is = rw (add-zero, sub-zero) }

pub put_le-turns : {l₀ : List ℕ} {at n v : ℕ} {l : List ℕ} {rest k : ℕ} → WritingLe l₀ at n v l rest k → k < n
    → WritingLe l₀ at n v (set l (at + k) (rest % 256)) (rest / 256) (k + 1)
unfolding put_le le_bytes
put_le-turns {l₀} {at} {n} {v} {l} {rest} {k} w h =
    let a : n - k ≡ suc (n - (k + 1)) = omega arith in
    let b : at + (k + 1) ≡ suc (at + k) = omega arith in
    let is : sets l (at + k) (le_bytes (n - k) rest) ≡ put_le l₀ at n v = w.is in
    record { low = omega arith; long = length-set l (at + k) (rest % 256) ∙ w.long; is = rw b (rw a at is) }

pub put_le-ends : {l₀ : List ℕ} {at n v : ℕ} {l : List ℕ} {rest k : ℕ} → WritingLe l₀ at n v l rest k → n ≤ k → l ≡ put_le l₀ at n v
unfolding put_le le_bytes
put_le-ends {l₀} {at} {n} {v} {l} {rest} {k} w z =
    let e : n - k ≡ 0 = omega arith in
    let f : sets l (at + k) (le_bytes (n - k) rest) ≡ put_le l₀ at n v = w.is in
    rw e at f
