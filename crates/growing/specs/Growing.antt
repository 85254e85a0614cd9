-- One bulk more after the last: its tiers hold nothing and stand before the old head of the free chain; number 13.
use Rattle.std.specs.Prelude.{ℕ, zero, suc, ◌+◌, ◌*◌, ◌≤◌, ◌<◌, List, [], ◌∷◌, Bool, true, false, ◌||◌, eqb, ltb}
use Rattle.layout.specs.declared.Shape.{Shape}
use Rattle.layout.specs.Tiers.{tiers, store_end}
use Rattle.layout.specs.declared.Global.TheVariants.{BulkCount as bulkCount, FirstFree as firstFree, UsedTiers as usedTiers, HeadersOffset as headersOffset, StoreSize as storeSize}
use Rattle.layout.specs.declared.Counter.TheVariants.{Next as next, Previous as previous, Low as low, Segment as segment, Order as order, Count as count}
use Rattle.layout.specs.Places.{Place, put, ◌≔◌, puts, put_marks, global, header, tier, slot, counter, free, byte}
use Rattle.layout.specs.Frame.{most_tiers}
use Rattle.chains.specs.Chains.{free_head}

-- the shape with one bulk more
abbrev pub grown : Shape → Shape
grown z = record { settings = z.settings; headers = z.headers; bulks = z.bulks + 1 }

-- 13: the tiers would pass 1,024, or an image of this length is too short for the bulk
unfoldable pub no_bulk : Shape → ℕ → Bool
no_bulk z len = ltb most_tiers (tiers (grown z)) || ltb len (store_end (grown z))

-- ---- a tier that holds nothing

module _ (z : Shape) where
  open z use {settings}
  open settings use {slots, chunks}

  -- the first n slots of tier t become 0
  unfoldable pub empty_slots : List ℕ → ℕ → ℕ → List ℕ
  empty_slots img t zero = img
  empty_slots img t (suc n) = put z (empty_slots img t n) (tier t (slot n)) 0

  -- all its slots, its counters 8..35 and the bits of its chunks become 0, and its next u; no other byte of the tier is written
  unfoldable pub empty_tier : List ℕ → ℕ → ℕ → List ℕ
  empty_tier img t u =
      put_marks z
      (puts z (empty_slots img t slots) (
      tier t (counter next) ≔ u
      ∷ tier t (counter previous) ≔ 0
      ∷ tier t (counter low) ≔ 0
      ∷ tier t (counter segment) ≔ 0
      ∷ tier t (counter order) ≔ 0
      ∷ tier t (counter count) ≔ 0
      ∷ []
      ))
      t 0 chunks 0

-- ---- the new bulk

-- the tier after new tier t: the one with the next index, or after the last one the old head of the free chain
unfoldable pub after_new : ℕ → ℕ → ℕ → ℕ
after_new t last head = elim (eqb t last) [ true ↦ head | false ↦ suc t ]

-- tier k of the new bulk, counted from 0
abbrev pub new_tier : Shape → ℕ → ℕ
new_tier z k = suc (tiers z) + k

module _ (z : Shape) (img : List ℕ) where
  open z use {settings, bulks}
  open settings use {bulkTiers}

  -- the image with the first n tiers of the new bulk emptied and linked
  unfoldable pub new_tiers : ℕ → List ℕ
  new_tiers zero = img
  new_tiers (suc n) = empty_tier (grown z) (new_tiers n) (new_tier z n) (after_new (new_tier z n) (tiers (grown z)) (free_head z img))

  -- the image after it: all of them, and bulk count, first free tier and store size follow
  unfoldable pub grow_image : List ℕ
  grow_image =
      puts (grown z) (new_tiers bulkTiers) (
      global bulkCount ≔ (bulks + 1)
      ∷ global firstFree ≔ suc (tiers z)
      ∷ global storeSize ≔ store_end (grown z)
      ∷ []
      )

-- ---- the places that are written: three of the global state; in the new tiers the slots, the counters and the bytes that hold marks

abbrev pub IsNew : Shape → ℕ → Type 0
IsNew z t = (tiers z < t) × (t ≤ tiers (grown z))

abbrev pub GrowWrites : Shape → Place → Type 0
GrowWrites z (global bulkCount) = Unit {0}
GrowWrites z (global firstFree) = Unit {0}
GrowWrites z (global usedTiers) = ⊥
GrowWrites z (global headersOffset) = ⊥
GrowWrites z (global storeSize) = Unit {0}
GrowWrites z (header s f) = ⊥
GrowWrites z (tier t (slot j)) = IsNew z t × (j < z.settings.slots)
GrowWrites z (tier t (counter f)) = IsNew z t
GrowWrites z (tier t (free b)) = IsNew z t × (8 * b < z.settings.chunks)
GrowWrites z (tier t (byte i)) = ⊥
