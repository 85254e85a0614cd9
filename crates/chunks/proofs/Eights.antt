-- Counts and bits by eights: the whole bytes of a tier's free list.
use Prim.Native.Nat.{ℕ, zero, suc, ◌+◌, ◌*◌, ◌/◌, ◌%◌, ◌^◌, ◌<◌}
use mathlib.Core.List.{List}
use mathlib.Core.Path.{◌≡◌, refl, ap, sym, ◌∙◌}
use native.Mathlib.Omega.{arith}
use native.Mathlib.Nat.{add-zero}
use lib.ListN.{get_or}
use Rattle.std.specs.Int.Count.{ones}
use Rattle.std.proofs.lemmas.Nat.{ones_cat}
use Rattle.lists.specs.Quantify.{Below}
use Rattle.lists.proofs.Below.{below-join, eight-below}
use Rattle.words.specs.Bits.{bit_of, bit}
use Rattle.words.proofs.Bits.{bit_of_lt}
use Rattle.layout.specs.declared.Shape.{Shape}
use Rattle.layout.specs.Places.{mark, free_list_at}
use Rattle.chunks.specs.Counting.{ones_of, IsByte, marked_below}
use Rattle.chunks.proofs.Marks.{marked_more}

-- ---- the byte that has a chunk's bit

module _ (z : Shape) (img : List ℕ) (t i : ℕ) where
  pub byte-bits : i % 8 ≡ 0 → (at : ℕ) → at ≡ free_list_at z t → IsByte z img t i (get_or img (at + i / 8) 0)
  unfolding mark bit
  byte-bits e at q k h =
      let a : (i + k) / 8 ≡ i / 8 = omega arith in
      let b : (i + k) % 8 ≡ k = omega arith in
      rw (q, a, b)

  step : (n m : ℕ) → m ≡ n + 1 → {b : ℕ} → mark z img t n ≡ b → marked_below z img t m ≡ marked_below z img t n + b
  step n m e q = ap (marked_below z img t) e ∙ marked_more z img t n ∙ ap (λ (x : ℕ). marked_below z img t n + x) q

  pub marked-eight : (v : ℕ) → IsByte z img t i v → marked_below z img t (i + 8) ≡ marked_below z img t i + ones_of v
  unfolding ones_of
  marked-eight v f =
      let a : marked_below z img t (i + 1) ≡ marked_below z img t (i + 0) + bit_of v 0 = step (i + 0) (i + 1) (omega arith) (f 0 (omega arith)) in
      let b : marked_below z img t (i + 2) ≡ marked_below z img t (i + 1) + bit_of v 1 = step (i + 1) (i + 2) (omega arith) (f 1 (omega arith)) in
      let c : marked_below z img t (i + 3) ≡ marked_below z img t (i + 2) + bit_of v 2 = step (i + 2) (i + 3) (omega arith) (f 2 (omega arith)) in
      let d : marked_below z img t (i + 4) ≡ marked_below z img t (i + 3) + bit_of v 3 = step (i + 3) (i + 4) (omega arith) (f 3 (omega arith)) in
      let e : marked_below z img t (i + 5) ≡ marked_below z img t (i + 4) + bit_of v 4 = step (i + 4) (i + 5) (omega arith) (f 4 (omega arith)) in
      let g : marked_below z img t (i + 6) ≡ marked_below z img t (i + 5) + bit_of v 5 = step (i + 5) (i + 6) (omega arith) (f 5 (omega arith)) in
      let j : marked_below z img t (i + 7) ≡ marked_below z img t (i + 6) + bit_of v 6 = step (i + 6) (i + 7) (omega arith) (f 6 (omega arith)) in
      let k : marked_below z img t (i + 8) ≡ marked_below z img t (i + 7) + bit_of v 7 = step (i + 7) (i + 8) (omega arith) (f 7 (omega arith)) in
      let o : marked_below z img t (i + 0) ≡ marked_below z img t i = ap (marked_below z img t) (add-zero i) in
      omega arith

-- ---- `count_ones` of a byte: digit by digit

none : ones 0 ≡ 0
unfolding ones
none = refl

half : (n m r : ℕ) → n ≡ m * 2 ^ 1 + r → r < 2 → ones n ≡ ones m + r
unfolding ones
half n m zero e h = ap ones e ∙ ones_cat 1 m 0 (omega arith)
half n m (suc zero) e h = ap ones e ∙ ones_cat 1 m 1 (omega arith)
half n m (suc (suc r)) e h = absurd (omega arith)

pub ones-byte : (v : ℕ) → v < 256 → ones v ≡ ones_of v
unfolding ones_of
ones-byte v l =
    let a : ones v ≡ ones (v / 2) + bit_of v 0 = half v (v / 2) (bit_of v 0) (omega arith) (bit_of_lt v 0) in
    let b : ones (v / 2) ≡ ones (v / 4) + bit_of v 1 = half (v / 2) (v / 4) (bit_of v 1) (omega arith) (bit_of_lt v 1) in
    let c : ones (v / 4) ≡ ones (v / 8) + bit_of v 2 = half (v / 4) (v / 8) (bit_of v 2) (omega arith) (bit_of_lt v 2) in
    let d : ones (v / 8) ≡ ones (v / 16) + bit_of v 3 = half (v / 8) (v / 16) (bit_of v 3) (omega arith) (bit_of_lt v 3) in
    let e : ones (v / 16) ≡ ones (v / 32) + bit_of v 4 = half (v / 16) (v / 32) (bit_of v 4) (omega arith) (bit_of_lt v 4) in
    let f : ones (v / 32) ≡ ones (v / 64) + bit_of v 5 = half (v / 32) (v / 64) (bit_of v 5) (omega arith) (bit_of_lt v 5) in
    let g : ones (v / 64) ≡ ones (v / 128) + bit_of v 6 = half (v / 64) (v / 128) (bit_of v 6) (omega arith) (bit_of_lt v 6) in
    let h : ones (v / 128) ≡ ones 0 + bit_of v 7 = half (v / 128) 0 (bit_of v 7) (omega arith) (bit_of_lt v 7) in
    omega (arith, none)

-- ---- the loops over whole bytes: the chunks of the first k bytes have P

pub byte-more : (k : ℕ) (P : ℕ → Type 0) → Below (k * 8) P → Below 8 (λ i. P (k * 8 + i)) → Below ((k + 1) * 8) P
byte-more k P w f = let e : (k + 1) * 8 ≡ k * 8 + 8 = omega arith in rw e (below-join P (k * 8) 8 w f)

-- ---- a byte whose bits are all alike

same_bits : (b : ℕ) → b < 2 → Below 8 (λ k. bit_of (b * 255) k ≡ b)
same_bits zero h = eight-below (λ k. bit_of 0 k ≡ 0) refl refl refl refl refl refl refl refl
same_bits (suc zero) h = eight-below (λ k. bit_of 255 k ≡ 1) refl refl refl refl refl refl refl refl
same_bits (suc (suc b)) h = absurd (omega arith)

module _ (z : Shape) (img : List ℕ) (t i v : ℕ) (b : IsByte z img t i v) where
  pub byte-all : {m : ℕ} → m < 2 → v ≡ m * 255 → Below 8 (λ k. mark z img t (i + k) ≡ m)
  byte-all {m} l e k h = b k h ∙ ap (λ (x : ℕ). bit_of x k) e ∙ same_bits m l k h

  -- what the counts of the 8 chunks say of the byte, they say of the marks
  pub byte-same : (l : List ℕ) → Below 8 (λ k. get_or l (i + k) 0 ≡ bit_of v k) → Below 8 (λ k. get_or l (i + k) 0 ≡ mark z img t (i + k))
  byte-same l f k h = f k h ∙ sym (b k h)
