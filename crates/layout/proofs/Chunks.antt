-- The bytes of a tier's chunks, and what writes elsewhere keep of them.
use Prim.Native.Nat.{ℕ, ◌+◌, ◌-◌, ◌*◌, ◌/◌, ◌≤◌, ◌<◌}
use mathlib.Core.List.{List}
use mathlib.Core.Path.{◌≡◌, ap, sym, ◌∙◌}
use mathlib.Core.Logic.{◌⊎◌, inl, inr, ⊎_elim, ◌≢◌}
use native.Mathlib.Omega.{arith}
use native.Mathlib.Nat.{mul-le-mul_right, add-mul, zero-mul}
use lib.ListN.{length, get_or}
use lib.Seq.{sets, length-sets}
use Rattle.lists.specs.Cases.{lt-or}
use Rattle.words.specs.Bytes.{Bytes, cut, Apart}
use Rattle.words.proofs.Bytes.{cut-ext, get_or-sets-out, bytes-sets}
use Rattle.words.proofs.Numbers.{le-one, le-ext}
use Rattle.layout.specs.declared.Shape.{Shape}
use Rattle.layout.specs.Tiers.{store_end, IsTier}
use Rattle.layout.specs.Places.{free, byte, Place, tier, part_at, part_wide, at, wide, In, get, put, mark, put_marks, chunk_at}
use Rattle.layout.specs.Frame.{Framed, Image}
use Rattle.layout.proofs.Tiers.{tier-end}
use Rattle.layout.proofs.Apart.{apart}
use Rattle.layout.proofs.Places.{length-put, get_other, by_kind}
use Rattle.layout.proofs.Marks.{mark-get, length-put_marks, get-put_marks-other}

-- a place that is no byte of tier t's chunks
abbrev pub NoByte : ℕ → Place → Type 0
NoByte t p = (i : ℕ) → p ≢ tier t (byte i)

module _ (z : Shape) (t : ℕ) where
  open z use {settings}
  open settings use {chunks, chunkSize}

  -- ---- where a chunk starts

  pub chunk-add : (c n : ℕ) → chunk_at z t (c + n) ≡ chunk_at z t c + n * chunkSize
  unfolding chunk_at at part_at
  chunk-add c n = rw add-mul (omega arith)

  pub chunk-at : (c : ℕ) → chunk_at z t c ≡ chunk_at z t 0 + c * chunkSize
  unfolding chunk_at at part_at
  chunk-at c = omega (arith, zero-mul chunkSize)

  pub chunk-mono : (a b : ℕ) → a ≤ b → chunk_at z t a ≤ chunk_at z t b
  chunk-mono a b h = omega (arith, chunk-at a, chunk-at b, mul-le-mul_right chunkSize h)

  pub chunk_inside : (c : ℕ) → c ≤ chunks → chunk_at z t c ≤ chunk_at z t chunks
  chunk_inside c h = chunk-mono c chunks h

  -- from chunk c to the chunks' end
  pub chunk-rest : (c : ℕ) → c ≤ chunks → chunk_at z t c + (chunks - c) * chunkSize ≡ chunk_at z t chunks
  chunk-rest c h = let e : c + (chunks - c) ≡ chunks = omega arith in sym (chunk-add c (chunks - c)) ∙ ap (chunk_at z t) e

  -- ---- a byte of the chunks is a place

  byte_at : (i : ℕ) → at z (tier t (byte i)) ≡ chunk_at z t 0 + i
  unfolding chunk_at at part_at
  byte_at i = omega (arith, zero-mul chunkSize)

  pub byte-get : (img : List ℕ) (i : ℕ) → get z img (tier t (byte i)) ≡ get_or img (chunk_at z t 0 + i) 0
  unfolding get wide part_wide
  byte-get img i = rw (byte_at i, le-one)

  -- two images that agree there have the same bytes from each chunk on
  pub cut-chunks : (img img' : List ℕ) (c : ℕ) → length img ≡ length img'
      → ((i : ℕ) → i < chunks * chunkSize → get z img (tier t (byte i)) ≡ get z img' (tier t (byte i)))
      → c ≤ chunks → cut img (chunk_at z t c) ((chunks - c) * chunkSize) ≡ cut img' (chunk_at z t c) ((chunks - c) * chunkSize)
  cut-chunks img img' c e same h =
      cut-ext img img' (chunk_at z t c) ((chunks - c) * chunkSize) e
      (λ i k.
      let there : chunk_at z t c + i ≡ chunk_at z t 0 + (c * chunkSize + i) = omega (arith, chunk-at c) in
      rw there
      (sym (byte-get img (c * chunkSize + i))
      ∙ same (c * chunkSize + i) (omega (arith, chunk-at c, chunk-at chunks, chunk-rest c h))
      ∙ byte-get img' (c * chunkSize + i)))

module _ {z : Shape} {len : ℕ} (fr : Framed z len) where
  open z use {settings}
  open settings use {chunks, chunkSize}

  pub chunks-inside : (t : ℕ) → IsTier z t → chunk_at z t chunks ≤ store_end z
  unfolding chunk_at at part_at
  chunks-inside t it = omega (arith, tier-end fr t it, fr.valid.tierSize.0)

  -- ---- what is kept as it was

  pub cut-put-chunks : (img : List ℕ) (p : Place) (v t c : ℕ) → In z p → NoByte t p → IsTier z t → c ≤ chunks
      → cut (put z img p v) (chunk_at z t c) ((chunks - c) * chunkSize) ≡ cut img (chunk_at z t c) ((chunks - c) * chunkSize)
  cut-put-chunks img p v t c h ne it k =
      cut-chunks z t (put z img p v) img c (length-put z img p v) (λ i l. get_other fr img p v (tier t (byte i)) h (it, l) (λ e. ne i (sym e))) k

  pub cut-put_marks-chunks : (img : List ℕ) (u d n b t c : ℕ) → IsTier z u → d + n ≤ chunks → IsTier z t → c ≤ chunks
      → cut (put_marks z img u d n b) (chunk_at z t c) ((chunks - c) * chunkSize) ≡ cut img (chunk_at z t c) ((chunks - c) * chunkSize)
  cut-put_marks-chunks img u d n b t c iu fits it k =
      cut-chunks z t (put_marks z img u d n b) img c (length-put_marks z img u d n b)
      (λ i l. get-put_marks-other fr img u d n b (tier t (byte i)) iu fits (it, l) (λ j. by_kind (omega arith))) k

-- ---- bytes written into the chunks, from chunk c on

pub image-sets : {z : Shape} {img : List ℕ} → Image z img → (a : ℕ) (bs : List ℕ) → Bytes bs → Image z (sets img a bs)
image-sets {z} {img} i a bs h = record { bytes = bytes-sets img a bs i.bytes h; framed = rw length-sets i.framed }

module _ {z : Shape} {len : ℕ} (fr : Framed z len) (img : List ℕ) (t c : ℕ) (bs : List ℕ) where
  open z use {settings}
  open settings use {chunks, chunkSize}

  byte-apart : (i : ℕ) (p : Place) → IsTier z t → i < chunks * chunkSize → In z p → NoByte t p → Apart (at z p) (wide z p) (chunk_at z t 0 + i) 1
  unfolding wide part_wide
  byte-apart i p it k h ne = rw (← byte_at z t i) (apart fr p (tier t (byte i)) h (it, k) (ne i))

  -- a byte of a place elsewhere is none of these
  not_written : (p : Place) (j : ℕ) → IsTier z t → c ≤ chunks → length bs ≤ (chunks - c) * chunkSize → In z p → NoByte t p
      → at z p ≤ j → j < at z p + wide z p → (j < chunk_at z t c) ⊎ (chunk_at z t c + length bs ≤ j)
  not_written p j it k fits h ne lo hi =
      ⊎_elim
      (λ l. inl l)
      (λ (l : chunk_at z t c ≤ j).
      ⊎_elim
      (λ (m : j < chunk_at z t c + length bs).
      let i : ℕ = j - chunk_at z t 0 in
      let same : chunk_at z t 0 + i ≡ j = omega (arith, chunk-at z t c) in
      let below : i < chunks * chunkSize = omega (arith, chunk-rest z t c k, chunk-at z t chunks) in
      absurd (⊎_elim (λ a. omega arith) (λ a. omega arith) (byte-apart i p it below h ne)))
      (λ m. inr m)
      (lt-or j (chunk_at z t c + length bs)))
      (lt-or j (chunk_at z t c))

  pub get-sets-other : (p : Place) → IsTier z t → c ≤ chunks → length bs ≤ (chunks - c) * chunkSize → In z p → NoByte t p
      → get z (sets img (chunk_at z t c) bs) p ≡ get z img p
  unfolding get
  get-sets-other p it k fits h ne =
      le-ext _ _ (at z p) (wide z p) (λ j lo hi. get_or-sets-out img (chunk_at z t c) bs j (not_written p j it k fits h ne lo hi))

  pub mark-sets : (u i : ℕ) → IsTier z t → c ≤ chunks → length bs ≤ (chunks - c) * chunkSize → IsTier z u → i < chunks
      → mark z (sets img (chunk_at z t c) bs) u i ≡ mark z img u i
  mark-sets u i it k fits iu l =
      rw (
        mark-get z (sets img (chunk_at z t c) bs) u i,
        mark-get z img u i,
        get-sets-other (tier u (free (i / 8))) it k fits (iu, omega arith) (λ d. by_kind (omega arith)),
      )
