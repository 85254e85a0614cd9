-- The named places of an image, and the image as a map from places to numbers.
use Rattle.std.specs.Prelude.{ℕ, zero, suc, ◌+◌, ◌-◌, ◌*◌, ◌<◌, List, [], ◌∷◌, true, false, leb, get_or}
use Rattle.words.specs.Numbers.{le, put_le}
use Rattle.words.specs.Bits.{bit, put_bits}
use Rattle.layout.specs.declared.Shape.{Shape}
use Rattle.layout.specs.declared.Counters.{Counters}
use Rattle.layout.specs.declared.Global.{Global}
use Rattle.layout.specs.declared.Global.TheVariants.{BulkCount as bulkCount, FirstFree as firstFree, UsedTiers as usedTiers, HeadersOffset as headersOffset, StoreSize as storeSize}
use Rattle.layout.specs.declared.Header.{Header}
use Rattle.layout.specs.declared.Header.TheVariants.{EntryCount as entry_count, LowestFree as lowestFree, NextTier as nextTier}
use Rattle.layout.specs.declared.Counter.{Counter}
use Rattle.layout.specs.declared.Counter.TheVariants.{Next as next, Previous as previous, Low as low, Segment as segment, Order as order, Count as count}
use Rattle.layout.specs.Tiers.{tier_at, IsTier}

infix 70 ◌≔◌
-- ---- the names

-- a part of a tier: slot j, a counter, byte b of the free list, byte i of the chunks
pub data Part : Type 0 where
  slot : ℕ → Part
  counter : Counter → Part
  free : ℕ → Part
  byte : ℕ → Part

pub data Place : Type 0 where
  global : Global → Place
  header : ℕ → Header → Place
  tier : ℕ → Part → Place

-- ---- fields that follow one another without gaps, by their widths

abbrev pub field_at : List ℕ → ℕ → ℕ
field_at ws zero = 0
field_at [] (suc k) = 0
field_at (w ∷ ws) (suc k) = w + field_at ws k

abbrev pub global_no : Global → ℕ
global_no bulkCount = 0
global_no firstFree = 1
global_no usedTiers = 2
global_no headersOffset = 3
global_no storeSize = 4

-- after the lock's 8 bytes: 8..10, 11..15, 16..20, 21..24, 25..32
abbrev pub global_widths : List ℕ
global_widths = 3 ∷ 5 ∷ 5 ∷ 4 ∷ 8 ∷ []

abbrev pub header_no : Header → ℕ
header_no entry_count = 0
header_no lowestFree = 1
header_no nextTier = 2

-- after the lock's 8 bytes: 8..11, 12..15, 16..23
abbrev pub header_widths : List ℕ
header_widths = 4 ∷ 4 ∷ 8 ∷ []

abbrev pub counter_no : Counter → ℕ
counter_no next = 0
counter_no previous = 1
counter_no low = 2
counter_no segment = 3
counter_no order = 4
counter_no count = 5

-- 0..7, 8..15, 16..23, 24..27, 28..31, 32..35
abbrev pub counter_widths : List ℕ
counter_widths = 8 ∷ 8 ∷ 8 ∷ 4 ∷ 4 ∷ 4 ∷ []

-- the counter in which a tier without a segment header has such a number
abbrev pub own_counter : Header → Counter
own_counter entry_count = count
own_counter lowestFree = low
own_counter nextTier = next

-- ---- where a place stands, how many bytes it has, and whether there is such a place

module _ (z : Shape) where
  open z use {settings, headers}
  open settings use {globalAt, segments, headerSize, slotSize, slots, lookupSize, freeListSize, innerOffset, chunks, chunkSize}

  unfoldable pub part_at : Part → ℕ
  part_at (slot j) = j * slotSize
  part_at (counter f) = lookupSize + field_at counter_widths (counter_no f)
  part_at (free b) = lookupSize + 64 + b
  part_at (byte i) = lookupSize + 64 + freeListSize + innerOffset + i

  unfoldable pub part_wide : Part → ℕ
  part_wide (slot j) = slotSize
  part_wide (counter f) = get_or counter_widths (counter_no f) 0
  part_wide (free b) = 1
  part_wide (byte i) = 1

  abbrev pub PartIn : Part → Type 0
  PartIn (slot j) = j < slots
  PartIn (counter f) = Unit {0}
  PartIn (free b) = 8 * b < chunks
  PartIn (byte i) = i < chunks * chunkSize

  unfoldable pub at : Place → ℕ
  at (global f) = globalAt + 8 + field_at global_widths (global_no f)
  at (header s f) = headers + s * headerSize + 8 + field_at header_widths (header_no f)
  at (tier t p) = tier_at z t + part_at p

  unfoldable pub wide : Place → ℕ
  wide (global f) = get_or global_widths (global_no f) 0
  wide (header s f) = get_or header_widths (header_no f) 0
  wide (tier t p) = part_wide p

  abbrev pub In : Place → Type 0
  In (global f) = Unit {0}
  In (header s f) = s < segments
  In (tier t p) = IsTier z t × PartIn p

  -- ---- reading and writing

  unfoldable pub get : List ℕ → Place → ℕ
  get img p = le img (at p) (wide p)

  unfoldable pub put : List ℕ → Place → ℕ → List ℕ
  put img p v = put_le img (at p) (wide p) v

  -- ---- the counters of tier t

  unfoldable pub counters_at : ℕ → ℕ
  counters_at t = tier_at z t + lookupSize

  -- those that every tier has there, a main tier too
  unfoldable pub counters_of : List ℕ → ℕ → Counters
  counters_of img t =
      record {
        previous = get img (tier t (counter previous));
        segment = get img (tier t (counter segment));
        order = get img (tier t (counter order));
      }

  -- a main tier has its next, lowest free chunk and entry count in its segment header, any other tier in its own counters
  unfoldable pub shared_place : Header → Counter → ℕ → Place
  shared_place f g t = elim (leb t segments) [ true ↦ header (t - 1) f | false ↦ tier t (counter g) ]

  abbrev pub next_place : ℕ → Place
  next_place t = shared_place nextTier next t

  abbrev pub low_place : ℕ → Place
  low_place t = shared_place lowestFree low t

  abbrev pub count_place : ℕ → Place
  count_place t = shared_place entry_count count t

  -- ---- the free list and the chunks of tier t

  unfoldable pub free_list_at : ℕ → ℕ
  free_list_at t = at (tier t (free 0))

  -- chunk i's bit
  unfoldable pub mark : List ℕ → ℕ → ℕ → ℕ
  mark img t i = bit img (free_list_at t) i

  -- the bits of n chunks from c on made b
  unfoldable pub put_marks : List ℕ → ℕ → ℕ → ℕ → ℕ → List ℕ
  put_marks img t c n b = put_bits img (free_list_at t) c n b

  -- where chunk c starts; chunk N would start where the chunks end
  unfoldable pub chunk_at : ℕ → ℕ → ℕ
  chunk_at t c = at (tier t (byte (c * chunkSize)))

-- a number written to a place; several, one after the other
pub data Write : Type 0 where
  ◌≔◌ : Place → ℕ → Write

unfoldable pub puts : Shape → List ℕ → List Write → List ℕ
puts z img [] = img
puts z img ((p ≔ v) ∷ ws) = puts z (put z img p v) ws
