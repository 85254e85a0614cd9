-- The 17 numbers of a settings block: the rule of each, in the table's order. That no field is larger than `largest` stands
-- in the rows that have no smaller limit.
use Rattle.std.specs.Prelude.{ℕ, ◌+◌, ◌*◌, ◌/◌, ◌%◌, ◌^◌, ◌≤◌, ◌<◌, ◌≡◌, ◌⊎◌}
use Rattle.settings.specs.declared.Settings.{Settings}

abbrev pub Between : ℕ → ℕ → ℕ → Type 0
Between low high x = (low ≤ x) × (x ≤ high)

-- no field, and no image, is larger
abbrev pub largest : ℕ
largest = 16777216

-- the limits of other fields that code above needs: slots and chunks of a tier, bytes of a chunk, and bytes before the first chunk
abbrev pub most_tier_slots : ℕ
most_tier_slots = 4096

abbrev pub most_tier_chunks : ℕ
most_tier_chunks = 4096

abbrev pub largest_chunk : ℕ
largest_chunk = 4096

abbrev pub largest_inner : ℕ
largest_inner = 4096

-- of the powers that a field can hold
abbrev pub PowerOfTwo : ℕ → Type 0
PowerOfTwo n = (k : ℕ) × ((k < 25) × (n ≡ 2 ^ k))

-- 1: global state offset
abbrev pub GlobalAt : Settings → Type 0
GlobalAt st = (st.globalAt % 64 ≡ 0) × (st.globalAt ≤ 65536)

-- 2: segments
abbrev pub Segments : Settings → Type 0
Segments st = PowerOfTwo st.segments × Between 1 256 st.segments

-- 3: segment header size
abbrev pub HeaderSize : Settings → Type 0
HeaderSize st = Between 32 256 st.headerSize

-- 4: slot size
abbrev pub SlotSize : Settings → Type 0
SlotSize st = (st.slotSize ≡ 4) ⊎ (st.slotSize ≡ 8)

-- 5: slots per tier
abbrev pub Slots : Settings → Type 0
Slots st = PowerOfTwo st.slots × Between 4 most_tier_slots st.slots

-- 6: key bits
abbrev pub KeyBits : Settings → Type 0
KeyBits st = Between 1 56 st.keyBits

-- 7: chunk index bits
abbrev pub ChunkBits : Settings → Type 0
ChunkBits st = Between 1 32 st.chunkBits × ((st.keyBits + st.chunkBits ≤ 8 * st.slotSize) × (st.chunks ≤ 2 ^ st.chunkBits))

-- 8: hash lookup outer size
abbrev pub LookupSize : Settings → Type 0
LookupSize st = Between (st.slots * st.slotSize) largest st.lookupSize

-- 9: free list outer size
abbrev pub FreeListSize : Settings → Type 0
FreeListSize st = Between ((st.chunks + 7) / 8) largest st.freeListSize

-- 10: entry space inner offset
abbrev pub InnerOffset : Settings → Type 0
InnerOffset st = st.innerOffset ≤ largest_inner

-- 11: chunks per tier
abbrev pub Chunks : Settings → Type 0
Chunks st = Between 1 most_tier_chunks st.chunks

-- 12: chunk size
abbrev pub ChunkSize : Settings → Type 0
ChunkSize st = Between 1 largest_chunk st.chunkSize

-- 13: tier size
abbrev pub TierSize : Settings → Type 0
TierSize st = Between (st.lookupSize + 64 + st.freeListSize + st.innerOffset + st.chunks * st.chunkSize) largest st.tierSize

-- 14: bulk inner offset
abbrev pub BulkInner : Settings → Type 0
BulkInner st = st.bulkInner ≤ 65536

-- 15: tiers in a bulk
abbrev pub BulkTiers : Settings → Type 0
BulkTiers st = Between 1 64 st.bulkTiers

-- 16: bulk size
abbrev pub BulkSize : Settings → Type 0
BulkSize st = Between (st.bulkInner + st.bulkTiers * st.tierSize) largest st.bulkSize

-- 17: most chunks per entry
abbrev pub MostChunks : Settings → Type 0
MostChunks st = Between 1 64 st.mostChunks × (st.mostChunks ≤ st.chunks)

-- the rules of the numbers that the sizes are made of
pub record PartsFit (st : Settings) : Type 0 where
  pub slotSize : SlotSize st
  pub slots : Slots st
  pub chunks : Chunks st
  pub chunkSize : ChunkSize st
  pub innerOffset : InnerOffset st
  pub bulkInner : BulkInner st
  pub bulkTiers : BulkTiers st

-- all 17
pub record Valid (st : Settings) : Type 0 where
  pub globalAt : GlobalAt st
  pub segments : Segments st
  pub headerSize : HeaderSize st
  pub slotSize : SlotSize st
  pub slots : Slots st
  pub keyBits : KeyBits st
  pub chunkBits : ChunkBits st
  pub lookupSize : LookupSize st
  pub freeListSize : FreeListSize st
  pub innerOffset : InnerOffset st
  pub chunks : Chunks st
  pub chunkSize : ChunkSize st
  pub tierSize : TierSize st
  pub bulkInner : BulkInner st
  pub bulkTiers : BulkTiers st
  pub bulkSize : BulkSize st
  pub mostChunks : MostChunks st
