-- Two different places have no byte in common, and every place lies within the store.
use Prim.Native.Nat.{ℕ, zero, suc, ◌+◌, ◌*◌, ◌≤◌, ◌<◌}
use mathlib.Core.List.{List, [], ◌∷◌}
use mathlib.Core.Path.{◌≡◌, refl, ap, ap₂, sym, ◌∙◌}
use mathlib.Core.Logic.{inl, inr, ⊎_elim, ◌≢◌}
use native.Mathlib.Omega.{arith}
use lib.Dec.{lit≤}
use lib.ListN.{get_or}
use Rattle.words.specs.Bytes.{Apart}
use Rattle.lists.specs.Cases.{lt-or, same_or}
use Rattle.layout.specs.declared.Shape.{Shape}
use Rattle.layout.specs.Tiers.{mains, store_end, tier_at}
use Rattle.layout.specs.declared.Global.{Global}
use Rattle.layout.specs.declared.Global.TheVariants.{BulkCount as bulkCount, FirstFree as firstFree, UsedTiers as usedTiers, HeadersOffset as headersOffset, StoreSize as storeSize}
use Rattle.layout.specs.declared.Header.{Header}
use Rattle.layout.specs.declared.Header.TheVariants.{EntryCount as entry_count, LowestFree as lowestFree, NextTier as nextTier}
use Rattle.layout.specs.declared.Counter.{Counter}
use Rattle.layout.specs.declared.Counter.TheVariants.{Next as next, Previous as previous, Low as low, Segment as segment, Order as order, Count as count}
use Rattle.layout.specs.Places.{Part, slot, counter, free, byte, Place, global, header, tier, field_at, global_no, global_widths, header_no, header_widths, counter_no, counter_widths, part_at, part_wide, PartIn, at, wide, In}
use Rattle.layout.specs.Frame.{Framed, global_size}
use Rattle.lists.proofs.Numbers.{mul-add-le}
use Rattle.layout.proofs.Tiers.{rows_apart, mains-after, mains-end, tier-start, tier-before, tier-end}

-- ---- fields that follow one another without gaps

field-before : (ws : List ℕ) (i j : ℕ) → i < j → field_at ws i + get_or ws i 0 ≤ field_at ws j
field-before ws zero zero h = absurd (omega arith)
field-before [] zero (suc j) h = omega arith
field-before (w ∷ ws) zero (suc j) h = omega arith
field-before ws (suc i) zero h = absurd (omega arith)
field-before [] (suc i) (suc j) h = omega arith
field-before (w ∷ ws) (suc i) (suc j) h = omega (arith, field-before ws i j (omega arith))

fields-apart : (ws : List ℕ) (i j : ℕ) → i ≢ j → Apart (field_at ws i) (get_or ws i 0) (field_at ws j) (get_or ws j 0)
fields-apart ws i j ne = ⊎_elim (λ h. inl (field-before ws i j h)) (λ (h : j ≤ i). inr (field-before ws j i (omega arith))) (lt-or i j)

-- ---- a field is known by its number

by_number : {A : Type 0} (k : A → ℕ) (of : ℕ → A) → ((f : A) → of (k f) ≡ f) → {f g : A} → k f ≡ k g → f ≡ g
by_number k of back {f} {g} e = sym (back f) ∙ ap of e ∙ back g

abbrev global_of : ℕ → Global
global_of k = get_or (bulkCount ∷ firstFree ∷ usedTiers ∷ headersOffset ∷ storeSize ∷ []) k bulkCount

global-back : (f : Global) → global_of (global_no f) ≡ f
global-back bulkCount = refl
global-back firstFree = refl
global-back usedTiers = refl
global-back headersOffset = refl
global-back storeSize = refl

abbrev header_of : ℕ → Header
header_of k = get_or (entry_count ∷ lowestFree ∷ nextTier ∷ []) k entry_count

header-back : (f : Header) → header_of (header_no f) ≡ f
header-back entry_count = refl
header-back lowestFree = refl
header-back nextTier = refl

abbrev counter_of : ℕ → Counter
counter_of k = get_or (next ∷ previous ∷ low ∷ segment ∷ order ∷ count ∷ []) k next

counter-back : (f : Counter) → counter_of (counter_no f) ≡ f
counter-back next = refl
counter-back previous = refl
counter-back low = refl
counter-back segment = refl
counter-back order = refl
counter-back count = refl

-- ---- each field is some bytes wide, and stands within its area

global-within : (f : Global) → 8 + field_at global_widths (global_no f) + get_or global_widths (global_no f) 0 ≤ global_size
global-within bulkCount = lit≤ tt
global-within firstFree = lit≤ tt
global-within usedTiers = lit≤ tt
global-within headersOffset = lit≤ tt
global-within storeSize = lit≤ tt

pub header-within : (f : Header) → 8 + field_at header_widths (header_no f) + get_or header_widths (header_no f) 0 ≤ 32
header-within entry_count = lit≤ tt
header-within lowestFree = lit≤ tt
header-within nextTier = lit≤ tt

counter-within : (f : Counter) → field_at counter_widths (counter_no f) + get_or counter_widths (counter_no f) 0 ≤ 64
counter-within next = lit≤ tt
counter-within previous = lit≤ tt
counter-within low = lit≤ tt
counter-within segment = lit≤ tt
counter-within order = lit≤ tt
counter-within count = lit≤ tt

module _ {z : Shape} {len : ℕ} (fr : Framed z len) where
  open z use {settings, headers}
  open settings use {segments, headerSize, slotSize, slots, lookupSize, freeListSize, innerOffset, chunks, chunkSize, tierSize}

  -- ---- within a tier

  slot-within : (j : ℕ) → j < slots → j * slotSize + slotSize ≤ lookupSize
  slot-within j h = omega (arith, mul-add-le slotSize j slots h, fr.valid.lookupSize.0)

  pub part-within : (p : Part) → PartIn z p → part_at z p + part_wide z p ≤ tierSize
  unfolding part_at part_wide
  part-within (slot j) h = omega (arith, slot-within j h, fr.valid.tierSize.0)
  part-within (counter f) h = omega (arith, counter-within f, fr.valid.tierSize.0)
  part-within (free b) h = omega (arith, fr.valid.freeListSize.0, fr.valid.tierSize.0)
  part-within (byte i) h = omega (arith, fr.valid.tierSize.0)

  pub part_apart : (p q : Part) → PartIn z p → PartIn z q → p ≢ q → Apart (part_at z p) (part_wide z p) (part_at z q) (part_wide z q)
  unfolding part_at part_wide
  part_apart (slot i) (slot j) h k ne = rows_apart slotSize i j (λ e. ne (ap slot e))
  part_apart (slot i) (counter g) h k ne = inl (omega (arith, slot-within i h))
  part_apart (slot i) (free b) h k ne = inl (omega (arith, slot-within i h))
  part_apart (slot i) (byte j) h k ne = inl (omega (arith, slot-within i h))
  part_apart (counter f) (slot j) h k ne = inr (omega (arith, slot-within j k))
  part_apart (counter f) (counter g) h k ne =
      ⊎_elim (λ a. inl (omega arith)) (λ a. inr (omega arith))
      (fields-apart counter_widths (counter_no f) (counter_no g) (λ e. ne (ap counter (by_number counter_no counter_of counter-back e))))
  part_apart (counter f) (free b) h k ne = inl (omega (arith, counter-within f))
  part_apart (counter f) (byte j) h k ne = inl (omega (arith, counter-within f))
  part_apart (free b) (slot j) h k ne = inr (omega (arith, slot-within j k))
  part_apart (free b) (counter g) h k ne = inr (omega (arith, counter-within g))
  part_apart (free b) (free c) h k ne =
      let n : b ≢ c = λ e. ne (ap free e) in ⊎_elim (λ (l : b < c). inl (omega arith)) (λ (l : c ≤ b). inr (omega arith)) (lt-or b c)
  part_apart (free b) (byte j) h k ne = inl (omega (arith, fr.valid.freeListSize.0))
  part_apart (byte i) (slot j) h k ne = inr (omega (arith, slot-within j k))
  part_apart (byte i) (counter g) h k ne = inr (omega (arith, counter-within g))
  part_apart (byte i) (free c) h k ne = inr (omega (arith, fr.valid.freeListSize.0))
  part_apart (byte i) (byte j) h k ne =
      let n : i ≢ j = λ e. ne (ap byte e) in ⊎_elim (λ (l : i < j). inl (omega arith)) (λ (l : j ≤ i). inr (omega arith)) (lt-or i j)

  -- ---- within the image

  headers-end : (s : ℕ) (f : Header) → s < segments → at z (header s f) + wide z (header s f) ≤ mains z
  unfolding at wide mains
  headers-end s f h = omega (arith, header-within f, mul-add-le headerSize s segments h, fr.valid.headerSize.0)

  headers-apart : (s u : ℕ) (f g : Header) → header s f ≢ header u g
      → Apart (at z (header s f)) (wide z (header s f)) (at z (header u g)) (wide z (header u g))
  unfolding at wide
  headers-apart s u f g ne =
      ⊎_elim
      (λ (e : s ≡ u).
      ⊎_elim
      (λ a. inl (omega (arith, ap (λ (x : ℕ). x * headerSize) e)))
      (λ a. inr (omega (arith, ap (λ (x : ℕ). x * headerSize) e)))
      (fields-apart header_widths (header_no f) (header_no g) (λ n. ne (ap₂ header e (by_number header_no header_of header-back n)))))
      (λ n.
      ⊎_elim
      (λ a. inl (omega (arith, header-within f, fr.valid.headerSize.0)))
      (λ a. inr (omega (arith, header-within g, fr.valid.headerSize.0)))
      (rows_apart headerSize s u n))
      (same_or s u)

  tiers-apart : (t u : ℕ) (p q : Part) → In z (tier t p) → In z (tier u q) → tier t p ≢ tier u q
      → Apart (at z (tier t p)) (wide z (tier t p)) (at z (tier u q)) (wide z (tier u q))
  unfolding at wide
  tiers-apart t u p q h k ne =
      ⊎_elim
      (λ (e : t ≡ u).
      ⊎_elim
      (λ a. inl (omega (arith, ap (tier_at z) e)))
      (λ a. inr (omega (arith, ap (tier_at z) e)))
      (part_apart p q h.1 k.1 (λ n. ne (ap₂ tier e n))))
      (λ n.
      ⊎_elim
      (λ l. inl (omega (arith, part-within p h.1, tier-before fr t u h.0.0 l)))
      (λ (l : u ≤ t). inr (omega (arith, part-within q k.1, tier-before fr u t k.0.0 (omega arith))))
      (lt-or t u))
      (same_or t u)

  -- two different places do not overlap
  pub apart : (p q : Place) → In z p → In z q → p ≢ q → Apart (at z p) (wide z p) (at z q) (wide z q)
  unfolding at wide
  apart (global f) (global g) h k ne =
      ⊎_elim (λ a. inl (omega arith)) (λ a. inr (omega arith))
      (fields-apart global_widths (global_no f) (global_no g) (λ e. ne (ap global (by_number global_no global_of global-back e))))
  apart (global f) (header u g) h k ne = inl (omega (arith, global-within f, fr.headers_after))
  apart (global f) (tier u q) h k ne = inl (omega (arith, global-within f, fr.headers_after, mains-after z, tier-start z u))
  apart (header s f) (global g) h k ne = inr (omega (arith, global-within g, fr.headers_after))
  apart (header s f) (header u g) h k ne = headers-apart s u f g ne
  apart (header s f) (tier u q) h k ne = inl (omega (arith, headers-end s f h, tier-start z u))
  apart (tier t p) (global g) h k ne = inr (omega (arith, global-within g, fr.headers_after, mains-after z, tier-start z t))
  apart (tier t p) (header u g) h k ne = inr (omega (arith, headers-end u g k, tier-start z t))
  apart (tier t p) (tier u q) h k ne = tiers-apart t u p q h k ne

  pub inside : (p : Place) → In z p → at z p + wide z p ≤ store_end z
  unfolding at wide
  inside (global f) h = omega (arith, global-within f, fr.headers_after, mains-after z, mains-end z)
  inside (header s f) h = omega (arith, headers-end s f h, mains-end z)
  inside (tier t p) h = omega (arith, part-within p h.1, tier-end fr t h.0)
