-- Laws of the shortest form, and what the loop that writes one keeps.
use Prim.Native.Nat.{ℕ, zero, suc, ◌+◌, ◌-◌, ◌/◌, ◌%◌, ◌^◌, ◌≤◌, ◌<◌}
use mathlib.Core.List.{List, [], ◌∷◌}
use mathlib.Core.Path.{◌≡◌, refl, ap, ◌∙◌}
use mathlib.Core.Logic.{⊎_elim}
use native.Mathlib.Omega.{arith}
use native.Mathlib.Nat.{pow-suc}
use native.Mathlib.Numerals.{add-one}
use borrow.Author.Tests.{lt-ltb, le-ltb}
use lib.ListN.{length, set, length-set}
use lib.Seq.{sets}
use Rattle.words.specs.Bytes.{Bytes}
use Rattle.lists.specs.Cases.{lt-or}
use Rattle.leb128.specs.Leb128.{encode_within, encode}

-- ---- one byte

pub encode_within-last : (k n : ℕ) → n < 128 → encode_within k n ≡ n ∷ []
unfolding encode_within
encode_within-last zero n h = refl
encode_within-last (suc k) n h = rw (lt-ltb n 128 h, encode_within)

pub encode_within-more : (k n : ℕ) → 128 ≤ n → encode_within (suc k) n ≡ (128 + n % 128) ∷ encode_within k (n / 128)
unfolding encode_within
encode_within-more k n h = rw (le-ltb n 128 h, encode_within)

-- ---- the numbers of one, two and three bytes

pub encode-1 : (n : ℕ) → n < 128 → encode n ≡ n ∷ []
unfolding encode
encode-1 n h = encode_within-last 9 n h

pub encode-2 : (n : ℕ) → 128 ≤ n → n < 16384 → encode n ≡ (128 + n % 128) ∷ (n / 128) ∷ []
unfolding encode
encode-2 n h k = encode_within-more 8 n h ∙ ap (λ (r : List ℕ). (128 + n % 128) ∷ r) (encode_within-last 8 (n / 128) (omega arith))

pub encode-3 : (n : ℕ) → 16384 ≤ n → n < 2097152 → encode n ≡ (128 + n % 128) ∷ (128 + n / 128 % 128) ∷ (n / 128 / 128) ∷ []
unfolding encode
encode-3 n h k =
    encode_within-more 8 n (omega arith)
    ∙ ap (λ (r : List ℕ). (128 + n % 128) ∷ r)
    (encode_within-more 7 (n / 128) (omega arith) ∙ ap (λ (r : List ℕ). (128 + n / 128 % 128) ∷ r) (encode_within-last 7 (n / 128 / 128) (omega arith)))

-- ---- every byte is one, and how many there are

bytes-cons : (b : ℕ) (bs : List ℕ) → b < 256 → Bytes bs → Bytes (b ∷ bs)
bytes-cons b bs h r zero = h
bytes-cons b bs h r (suc i) = r i

bytes-encode_within : (k n : ℕ) → n < 128 ^ suc k → Bytes (encode_within k n)
unfolding encode_within
bytes-encode_within zero n h i = bytes-cons n [] (omega arith) (λ j. omega arith) i
bytes-encode_within (suc k) n h i =
    ⊎_elim
    (λ (a : n < 128). rw (encode_within-last (suc k) n a) (bytes-cons n [] (omega arith) (λ j. omega arith) i))
    (λ (a : 128 ≤ n).
    let e : n / 128 < 128 ^ suc k = omega (arith, pow-suc 128 (suc k)) in
    rw (encode_within-more k n a) (bytes-cons (128 + n % 128) (encode_within k (n / 128)) (omega arith) (bytes-encode_within k (n / 128) e) i))
    (lt-or n 128)

pub bytes-encode : (n : ℕ) → n < 128 ^ 10 → Bytes (encode n)
unfolding encode
bytes-encode n h = bytes-encode_within 9 n h

pub length-encode : (n : ℕ) → n ≤ 65535 → (1 ≤ length (encode n)) × (length (encode n) ≤ 3)
length-encode n h =
    ⊎_elim
    (λ (a : n < 128). rw (encode-1 n a) (omega arith))
    (λ (a : 128 ≤ n).
    ⊎_elim
    (λ (b : n < 16384). rw (encode-2 n a b) (omega arith))
    (λ (b : 16384 ≤ n). rw (encode-3 n b (omega arith)) (omega arith))
    (lt-or n 16384))
    (lt-or n 128)

-- ---- the loop that writes: the code of `rest` is left, in `left` bytes from place `next`

code-some : (more n : ℕ) → 1 ≤ length (encode_within more n)
unfolding encode_within
code-some zero n = omega arith
code-some (suc more) n =
    ⊎_elim
    (λ (a : n < 128). rw (encode_within-last (suc more) n a) (omega arith))
    (λ (a : 128 ≤ n). rw (encode_within-more more n a) (omega arith))
    (lt-or n 128)

-- more than one byte: a number of at least 128
code-more : (more n : ℕ) → 1 < length (encode_within more n) → (m : ℕ) × (more ≡ suc m) × (128 ≤ n)
unfolding encode_within
code-more zero n h = absurd (omega arith)
code-more (suc more) n h =
    ⊎_elim
    (λ (a : n < 128). let one : length (encode_within (suc more) n) ≡ 1 = ap length (encode_within-last (suc more) n a) in absurd (omega arith))
    (λ (a : 128 ≤ n). (more, refl, a))
    (lt-or n 128)

-- one byte: a number below 128
code-last : (more n : ℕ) → n < 128 ^ suc more → length (encode_within more n) ≤ 1 → n < 128
code-last zero n f h = omega arith
code-last (suc more) n f h =
    ⊎_elim
    (λ (a : n < 128). a)
    (λ (a : 128 ≤ n).
    let two : length (encode_within (suc more) n) ≡ suc (length (encode_within more (n / 128))) = ap length (encode_within-more more n a) in
    absurd (omega (arith, code-some more (n / 128))))
    (lt-or n 128)

pub record WritingCode (l₀ : List ℕ) (at n : ℕ) (l : List ℕ) (left rest next : ℕ) : Type 0 where
  pub more : ℕ
  pub fits : rest < 128 ^ suc more
  pub bytes : length (encode_within more rest) ≡ left
  pub end : next + left ≡ at + length (encode n)
  pub long : length l ≡ length l₀
  pub is : sets l next (encode_within more rest) ≡ sets l₀ at (encode n)

pub write-starts : (l : List ℕ) (at n : ℕ) → n < 2 ^ 64 → WritingCode l at n l (length (encode n)) n at
unfolding encode
write-starts l at n h = record { more = 9; fits = omega arith; bytes = refl; end = refl; long = refl; is = refl }

pub write-some : {l₀ : List ℕ} {at n : ℕ} {l : List ℕ} {left rest next : ℕ} → WritingCode l₀ at n l left rest next → 1 ≤ left
write-some {rest = rest} w = omega (arith, w.bytes, code-some w.more rest)

pub write-turns : {l₀ : List ℕ} {at n : ℕ} {l : List ℕ} {left rest next : ℕ} → WritingCode l₀ at n l left rest next → 1 < left
    → WritingCode l₀ at n (set l next (128 + rest % 128)) (left - 1) (rest / 128) (next + 1)
write-turns {l₀} {at} {n} {l} {left} {rest} {next} w h =
    let split : (m : ℕ) × (w.more ≡ suc m) × (128 ≤ rest) = code-more w.more rest (omega (arith, w.bytes)) in
    let m : ℕ = split.0 in
    let code : encode_within w.more rest ≡ (128 + rest % 128) ∷ encode_within m (rest / 128) =
    ap (λ (k : ℕ). encode_within k rest) split.1 ∙ encode_within-more m rest split.2 in
    let fits : rest < 128 ^ suc w.more = w.fits in
    let bytes : length (encode_within w.more rest) ≡ left = w.bytes in
    let is : sets l next (encode_within w.more rest) ≡ sets l₀ at (encode n) = w.is in
    record {
      more = m;
      fits = omega (arith, rw (split.1, pow-suc) at fits);
      bytes = omega (arith, rw code at bytes);
      end = omega (arith, w.end);
      long = length-set l next _ ∙ w.long;
      is = rw (add-one next) (rw code at is);
    }

pub write-last : {l₀ : List ℕ} {at n : ℕ} {l : List ℕ} {left rest next : ℕ} → WritingCode l₀ at n l left rest next → left ≤ 1 → rest < 128
write-last {rest = rest} w h = code-last w.more rest w.fits (omega (arith, w.bytes))

pub write-ends : {l₀ : List ℕ} {at n : ℕ} {l : List ℕ} {left rest next : ℕ} → WritingCode l₀ at n l left rest next → left ≤ 1
    → (next + 1 ≡ at + length (encode n)) × (set l next rest ≡ sets l₀ at (encode n))
write-ends {l₀} {at} {n} {l} {left} {rest} {next} w h =
    let is : sets l next (encode_within w.more rest) ≡ sets l₀ at (encode n) = w.is in
    (omega (arith, w.end, write-some w), rw (encode_within-last w.more rest (write-last w h)) at is)
