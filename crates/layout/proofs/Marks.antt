-- The bits of the free lists, one for each chunk, and what writes keep of them.
use Prim.Native.Nat.{ℕ, ◌+◌, ◌-◌, ◌*◌, ◌/◌, ◌%◌, ◌≤◌, ◌<◌}
use mathlib.Core.List.{List}
use mathlib.Core.Path.{◌≡◌, sym}
use mathlib.Core.Logic.{◌⊎◌, inl, inr, ⊎_elim, ◌≢◌}
use native.Mathlib.Omega.{arith}
use lib.ListN.{length, get_or}
use Rattle.lists.specs.Cases.{lt-or}
use Rattle.words.specs.Bytes.{Apart}
use Rattle.words.specs.Bits.{bit_of, bit}
use Rattle.words.proofs.Numbers.{le-ext, le-one}
use Rattle.words.proofs.Bits.{bit_of_lt, length-put_bits, bytes-put_bits, get_or-put_bits-out, bit-put_bits-out, bit-put_bits_in}
use Rattle.layout.specs.declared.Shape.{Shape}
use Rattle.layout.specs.Tiers.{store_end, IsTier}
use Rattle.layout.specs.Places.{free, Place, tier, part_at, part_wide, at, wide, In, get, put, free_list_at, mark, put_marks}
use Rattle.layout.specs.Frame.{Framed, Image}
use Rattle.layout.proofs.Tiers.{tier-end}
use Rattle.layout.proofs.Apart.{apart}
use Rattle.layout.proofs.Places.{get_other}

-- a place that is no byte of tier t's free list
abbrev pub NoFree : ℕ → Place → Type 0
NoFree t p = (b : ℕ) → p ≢ tier t (free b)

-- ---- a mark is a bit of a place

free-at : (z : Shape) (t b : ℕ) → at z (tier t (free b)) ≡ free_list_at z t + b
unfolding free_list_at at part_at
free-at z t b = omega arith

pub mark-get : (z : Shape) (img : List ℕ) (t i : ℕ) → mark z img t i ≡ bit_of (get z img (tier t (free (i / 8)))) (i % 8)
unfolding mark bit get wide part_wide
mark-get z img t i = rw (free-at z t (i / 8), le-one)

pub mark-lt : (z : Shape) (img : List ℕ) (t i : ℕ) → mark z img t i < 2
unfolding mark bit
mark-lt z img t i = bit_of_lt (get_or img (free_list_at z t + i / 8) 0) (i % 8)

-- ---- what is kept as it was

pub length-put_marks : (z : Shape) (img : List ℕ) (t c n b : ℕ) → length (put_marks z img t c n b) ≡ length img
unfolding put_marks
length-put_marks z img t c n b = length-put_bits img (free_list_at z t) c n b

pub image-put_marks : {z : Shape} {img : List ℕ} → Image z img → (t c n b : ℕ) → b < 2 → Image z (put_marks z img t c n b)
unfolding put_marks
image-put_marks {z} {img} i t c n b h =
    record { bytes = bytes-put_bits img (free_list_at z t) c n b i.bytes h; framed = rw length-put_bits i.framed }

-- a byte that holds none of the tier's marks
pub get_or-put_marks-out : (z : Shape) (img : List ℕ) (t c n b j : ℕ) → c + n ≤ z.settings.chunks
    → ((k : ℕ) → 8 * k < z.settings.chunks → Apart j 1 (at z (tier t (free k))) (wide z (tier t (free k))))
    → get_or (put_marks z img t c n b) j 0 ≡ get_or img j 0
unfolding put_marks wide part_wide
get_or-put_marks-out z img t c n b j fits off = get_or-put_bits-out img (free_list_at z t) c n b j (by_place (lt-or j (free_list_at z t)))
  where
    by_byte : free_list_at z t ≤ j → ((8 * (j - free_list_at z t) < z.settings.chunks) ⊎ (z.settings.chunks ≤ 8 * (j - free_list_at z t)))
        → (8 * j + 7 < 8 * free_list_at z t + c) ⊎ (8 * free_list_at z t + c + n ≤ 8 * j)
    by_byte l (inl k) =
        let here : at z (tier t (free (j - free_list_at z t))) ≡ j = omega (arith, free-at z t (j - free_list_at z t)) in
        absurd (⊎_elim (λ a. omega (arith, a, here)) (λ a. omega (arith, a, here)) (off (j - free_list_at z t) k))
    by_byte l (inr k) = inr (omega arith)

    by_place : ((j < free_list_at z t) ⊎ (free_list_at z t ≤ j)) → (8 * j + 7 < 8 * free_list_at z t + c) ⊎ (8 * free_list_at z t + c + n ≤ 8 * j)
    by_place (inl l) = inl (omega arith)
    by_place (inr l) = by_byte l (lt-or (8 * (j - free_list_at z t)) z.settings.chunks)

module _ {z : Shape} {len : ℕ} (fr : Framed z len) (img : List ℕ) where
  open z use {settings}
  open settings use {chunks}

  -- a mark, by a write of a place that is not in the tier's free list
  pub mark-put-other : (p : Place) (v t i : ℕ) → In z p → NoFree t p → IsTier z t → i < chunks → mark z (put z img p v) t i ≡ mark z img t i
  mark-put-other p v t i h ne it k =
      rw (mark-get z (put z img p v) t i, mark-get z img t i, get_other fr img p v (tier t (free (i / 8))) h (it, omega arith) (λ e. ne (i / 8) (sym e)))

  -- a place that is not in the tier's free list, by a change of its marks
  pub get-put_marks-other : (t c n b : ℕ) (p : Place) → IsTier z t → c + n ≤ chunks → In z p → NoFree t p
      → get z (put_marks z img t c n b) p ≡ get z img p
  unfolding get
  get-put_marks-other t c n b p it fits h ne =
      le-ext _ _ (at z p) (wide z p)
      (λ j lo hi.
      get_or-put_marks-out z img t c n b j fits
      (λ k l. ⊎_elim (λ a. inl (omega arith)) (λ a. inr (omega arith)) (apart fr p (tier t (free k)) h (it, l) (ne k))))

-- ---- the marks of the tier itself

pub mark-put_marks-out : (z : Shape) (img : List ℕ) (t c n b i : ℕ) → b < 2 → (i < c) ⊎ (c + n ≤ i)
    → mark z (put_marks z img t c n b) t i ≡ mark z img t i
unfolding mark put_marks
mark-put_marks-out z img t c n b i h o = bit-put_bits-out img (free_list_at z t) c n b i h o

-- the free list stands within the store, by bits
pub free-inside : {z : Shape} {len : ℕ} → Framed z len → (t : ℕ) → IsTier z t → 8 * free_list_at z t + z.settings.chunks ≤ 8 * store_end z
unfolding free_list_at at part_at
free-inside fr t it = omega (arith, tier-end fr t it, fr.valid.tierSize.0, fr.valid.freeListSize.0)

pub mark-put_marks_in : {z : Shape} {img : List ℕ} → Image z img → (t c n b i : ℕ) → IsTier z t → c + n ≤ z.settings.chunks → b < 2
    → c ≤ i → i < c + n → mark z (put_marks z img t c n b) t i ≡ b
unfolding mark put_marks
mark-put_marks_in {z} {img} m t c n b i it fits h lo hi =
    bit-put_bits_in img (free_list_at z t) c n b i (omega (arith, free-inside m.framed t it, m.framed.within)) h lo hi
