-- What is claimed of the calls: demands 1 and 2 for one call, demand 3 for a whole list of them.
use Rattle.std.specs.Prelude.{ℕ, suc, ◌*◌, ◌/◌, ◌≤◌, ◌<◌, ◌≡◌, ◌≢◌, ◌⊎◌, Bool, true, false, ◌&&◌, eqb, length, get_or, take, drop, replicate, Result, Ok}
use mathlib.Core.List.{List, [], ◌∷◌, ◌++◌, Memᴰ}
use Rattle.std.proofs.Math.Option.{Option, none, some}
use Rattle.lists.specs.Lists.{span, how_many, total}
use Rattle.lists.specs.Quantify.{Below}
use Rattle.words.specs.Bytes.{Bytes, cut, Apart}
use Rattle.leb128.specs.Leb128.{encode}
use Rattle.settings.specs.declared.Settings.{Settings}
use Rattle.settings.specs.Block.{BlockFits, settings_of}
use Rattle.layout.specs.declared.Shape.{Shape}
use Rattle.layout.specs.Tiers.{tiers, IsExtra}
use Rattle.layout.specs.Places.{Place, at, wide, mark, chunk_at}
use Rattle.layout.specs.Frame.{shape_of}
use Rattle.chains.specs.Chains.{chain, last_tier, chained, chained_extra, free_chain}
use Rattle.probe.specs.Ring.{dist}
use Rattle.entries.specs.declared.Live.{Live}
use Rattle.entries.specs.Keys.{KeyFits, segment_of, lookup_key, start}
use Rattle.entries.specs.Stored.{key_of, chunks_for, longest_value, entry_bytes}
use Rattle.entries.specs.Live.{slot_at, full_slots, live}
use Rattle.chunks.specs.Chunks.{covers}
use Rattle.entries.specs.Pairs.{Pair, pair_of}
use Rattle.sound.specs.Sound.{ImageFits}
use Rattle.counters.specs.LowMarks.{LowMarks}
use Rattle.growing.specs.Growing.{grown, no_bulk, IsNew, GrowWrites}
use Rattle.edit.specs.declared.Policy.{Policy}
use Rattle.edit.specs.declared.Policy.TheVariants.{OnTheSpot, Tight}
use Rattle.unlinking.specs.GoingHome.{ChainsStay, GoneHome}
use Rattle.edit.specs.Edits.{remove_tiers, store_tiers, spot_of, taking_tier}
use Rattle.image.specs.declared.Counts.{Counts}
use Rattle.image.specs.declared.Outcome.{Outcome}
use Rattle.image.specs.declared.Outcome.TheVariants as outcome
use Rattle.image.specs.declared.Stage.{Stage}
use Rattle.image.specs.Check.{stage_number, check, outcome_numbers, verdict_numbers}
use Rattle.image.specs.List.{entry, listed_numbers}
use Rattle.chronicle_map.specs.declared.SearchEnd.{SearchEnd}
use Rattle.chronicle_map.specs.declared.Located.{Located}
use Rattle.chronicle_map.specs.declared.Located.TheVariants as looked
use Rattle.chronicle_map.specs.Calls.{number_of, place_of, search_end, lookup, lookup_numbers, record_at, record_length, answer_number, remove, store, grow}
use Rattle.chronicle_map.specs.History.{Call, looks_up, stores, removes, grows, Map, has_key, map_of, map_get, told_of, run, answers, told, map_answers, map_after}

-- ---- demand 1, for every block, image, key and record

-- the number is one of those that the call may answer, and where it is not 0 every other number is 0
pub record Answers (may ns : List ℕ) : Type 0 where
  pub allowed : Memᴰ (number_of ns) may
  pub zeros : number_of ns ≢ 0 → drop 1 ns ≡ replicate (length (drop 1 ns)) 0

-- two different answers never share a number other than 0
abbrev pub Tells : {A : Type 0} → (A → ℕ) → Type 0
Tells {A} number = (a b : A) → number a ≢ 0 → number a ≡ number b → a ≡ b

abbrev pub shape : List ℕ → List ℕ → Shape
shape block img = shape_of (settings_of block) img

-- the search for an absent key ended at slot j of tier t: the last tier of its segment's chain, the first empty slot from its start slot on
module _ (z : Shape) (img key : List ℕ) where
  open z use {settings}
  open settings use {slots}

  abbrev pub from_start : ℕ → ℕ
  from_start k = dist slots (start settings (lookup_key settings key)) k

  pub record Ended (t j : ℕ) : Type 0 where
    pub in_chain : Memᴰ t (chain z img (segment_of settings key))
    pub last : t ≡ last_tier z img (segment_of settings key)
    pub slot_in : j < slots
    pub empty : slot_at z img t j ≡ 0
    pub full_before : Below slots (λ k. from_start k < from_start j → slot_at z img t k ≢ 0)

-- a lookup's answer for an absent key
abbrev pub IsAbsent : Result Located Stage → Type 0
IsAbsent l = (e : SearchEnd) × (l ≡ Ok (looked.Absent e))

-- the same of a lookup's number, offset, length, tier and slot, with one exception: with 1, tier and slot say where the search ended
pub record LookupAnswers (block img key may ns : List ℕ) : Type 0 where
  pub allowed : Memᴰ (number_of ns) may
  pub no_record : number_of ns ≢ 0 → take 2 (drop 1 ns) ≡ 0 ∷ 0 ∷ []
  pub no_end : number_of ns ≢ 0 → number_of ns ≢ 1 → drop 3 ns ≡ 0 ∷ 0 ∷ []
  pub ended : number_of ns ≡ 1 → Ended (shape block img) img key (get_or ns 3 0) (get_or ns 4 0)

pub record Demand1 (block img : List ℕ) : Type 0 where
  pub check_answers : Answers (0 ∷ 2 ∷ 3 ∷ 4 ∷ 5 ∷ 6 ∷ 7 ∷ []) (verdict_numbers (check block img))
  pub list_answers : (n : ℕ) → Answers (0 ∷ 1 ∷ 2 ∷ 3 ∷ 4 ∷ 5 ∷ 6 ∷ 7 ∷ []) (listed_numbers (entry block img n))
  pub lookup_answers : (key : List ℕ)
      → LookupAnswers block img key (0 ∷ 1 ∷ 2 ∷ 3 ∷ 4 ∷ 5 ∷ 6 ∷ 7 ∷ 8 ∷ []) (lookup_numbers (lookup block img key))
  pub removal_answers : (key : List ℕ)
      → Answers (0 ∷ 1 ∷ 2 ∷ 3 ∷ 4 ∷ 5 ∷ 6 ∷ 7 ∷ 8 ∷ []) (answer_number (remove block img key).answer ∷ [])
  pub store_answers : (policy : Policy) (key value : List ℕ)
      → Answers (0 ∷ 2 ∷ 3 ∷ 4 ∷ 5 ∷ 6 ∷ 7 ∷ 8 ∷ 9 ∷ 10 ∷ []) (answer_number (store policy block img key value).answer ∷ [])
  pub grow_answers : Answers (0 ∷ 2 ∷ 3 ∷ 4 ∷ 5 ∷ 6 ∷ 7 ∷ 13 ∷ []) (answer_number (grow block img).answer ∷ [])
  -- without a record, the part that `record` answers is the empty one at offset 0
  pub no_record : (key : List ℕ) → number_of (lookup_numbers (lookup block img key)) ≢ 0
      → (record_at (lookup block img key) ≡ 0) × (record_length (lookup block img key) ≡ 0)
  -- an edit answered otherwise than 0 leaves every byte as it was
  pub removal_refused : (key : List ℕ) → answer_number (remove block img key).answer ≢ 0 → (remove block img key).image ≡ img
  pub store_refused : (policy : Policy) (key value : List ℕ) → answer_number (store policy block img key value).answer ≢ 0
      → (store policy block img key value).image ≡ img
  pub grow_refused : answer_number (grow block img).answer ≢ 0 → (grow block img).image ≡ img
  -- each refusal has a number of its own; two absent keys share theirs, wherever the searches ended
  pub stages_told : Tells stage_number
  pub checks_told : Tells (λ (v : Outcome). number_of (outcome_numbers v))
  pub lists_told : Tells (λ l. number_of (listed_numbers l))
  pub lookups_told : (a b : Result Located Stage) → number_of (lookup_numbers a) ≢ 0 → number_of (lookup_numbers a) ≡ number_of (lookup_numbers b)
      → (a ≡ b) ⊎ (IsAbsent a × IsAbsent b)
  pub edits_told : Tells answer_number

-- ---- which images are accepted

-- none of 2 to 7 applies
abbrev pub Accepted : List ℕ → List ℕ → Type 0
Accepted block img = (c : Counts) × (check block img ≡ record { outcome = outcome.Accepted c })

-- keys and records that are given are bytes
abbrev pub ByteCall : Call → Type 0
ByteCall (looks_up key) = Bytes key
ByteCall (stores policy key value) = Bytes key × Bytes value
ByteCall (removes key) = Bytes key
ByteCall grows = Unit {0}

abbrev pub ByteCalls : List Call → Type 0
ByteCalls [] = Unit {0}
ByteCalls (c ∷ cs) = ByteCall c × ByteCalls cs

-- the block fits, and the image fits the layout with the rules of the scope, stage by stage
pub record Fits (block img : List ℕ) : Type 0 where
  pub block_fits : BlockFits block
  pub image_fits : ImageFits (shape block img) img

-- ---- demand 2, for an accepted image

-- a lookup gives the record stored under the whole key, or says there is none
pub record LooksUp (block img key : List ℕ) : Type 0 where
  pub stored : (e : Live) → Memᴰ e (live (shape block img) img) → key_of img e.entry ≡ key
      → lookup block img key ≡ Ok (looked.Found (place_of e))
  pub none : KeyFits (settings_of block) key → map_get (map_of block img) key ≡ none
      → lookup block img key ≡ Ok (looked.Absent (search_end (shape block img) img key))

-- two images read as the same map: the same keys with the same records, in any order
abbrev pub SameMap : List ℕ → List ℕ → List ℕ → Type 0
SameMap block one other = (key : List ℕ) → map_get (map_of block one) key ≡ map_get (map_of block other) key

-- an image that reads as the same map with only this key altered
pub record Alters (block img img' key : List ℕ) (p : Option Pair) : Type 0 where
  pub accepted : Accepted block img'
  pub altered : map_get (map_of block img') key ≡ p
  pub others : (other : List ℕ) → other ≢ key → map_get (map_of block img') other ≡ map_get (map_of block img) other

pub record Demand2 (block img : List ℕ) : Type 0 where
  pub lookups : (key : List ℕ) → LooksUp block img key
  -- a store or a removal answered 0 alters this key alone; one answered otherwise alters nothing (Demand1)
  pub stored : (policy : Policy) (key value : List ℕ) → Bytes key → Bytes value → answer_number (store policy block img key value).answer ≡ 0
      → Alters block img (store policy block img key value).image key (some (record { key = key; value = value }))
  pub removed : (key : List ℕ) → Bytes key → answer_number (remove block img key).answer ≡ 0 → Alters block img (remove block img key).image key none

-- ---- request A1, for an accepted image: the lowest free chunk fields after a store or a removal answered 0

pub record LowMarksFollow (block img : List ℕ) : Type 0 where
  pub stored : (policy : Policy) (key value : List ℕ) → Bytes key → Bytes value → answer_number (store policy block img key value).answer ≡ 0
      → LowMarks (shape block img) img (store policy block img key value).image (store_tiers policy (shape block img) img key value)
  pub removed : (key : List ℕ) → answer_number (remove block img key).answer ≡ 0
      → LowMarks (shape block img) img (remove block img key).image (remove_tiers (shape block img) img key)

-- the chunks that the keys and records of a map require: demand 3's sum
abbrev pub chunks_of_map : Settings → Map → ℕ
chunks_of_map st map = total map (λ p. chunks_for st (length p.key) (length p.value))

-- ---- request A5, for an accepted image: a record stored under the key of a live entry e

-- by both kinds of store, where the new entry takes as many chunks as e
module _ (block img key value : List ℕ) (e : Live) where
  abbrev st : Settings
  st = settings_of block

  abbrev after : Policy → List ℕ
  after policy = (store policy block img key value).image

  abbrev live_after : List Live
  live_after = live (shape block (after OnTheSpot)) (after OnTheSpot)

  -- where the entry's own bytes start
  abbrev entry_start : ℕ
  entry_start = chunk_at (shape block img) e.tier e.chunk

  pub record SameSize : Type 0 where
    pub done : (policy : Policy) → answer_number (store policy block img key value).answer ≡ 0
    -- both leave the same map, with the same sum of chunks, which the check counts
    pub same_map : SameMap block (after OnTheSpot) (after Tight)
    pub same_sum : chunks_of_map st (map_of block (after OnTheSpot)) ≡ chunks_of_map st (map_of block (after Tight))
    pub same_marked : (c d : Counts) → check block (after OnTheSpot) ≡ record { outcome = outcome.Accepted c }
        → check block (after Tight) ≡ record { outcome = outcome.Accepted d } → c.chunks ≡ d.chunks
    -- on the spot no byte outside the new entry's own is written
    pub outside : (at n : ℕ) → Apart at n entry_start (length (entry_bytes st key value)) → cut (after OnTheSpot) at n ≡ cut img at n
    -- every other key keeps its entry, with its tier, slot, chunks and offsets, and what a lookup of it answered is still right
    pub others : (o : Live) → Memᴰ o (live (shape block img) img) → key_of img o.entry ≢ key
        → Memᴰ o live_after × (pair_of (after OnTheSpot) o ≡ pair_of img o)
    pub lookups : (other : List ℕ) → other ≢ key → lookup block (after OnTheSpot) other ≡ lookup block img other
    -- this key keeps its tier, slot and chunks, and its offset where the length of the length is as before
    pub own : Live
    pub own_live : Memᴰ own live_after
    pub own_pair : pair_of (after OnTheSpot) own ≡ record { key = key; value = value }
    pub own_place : (own.tier ≡ e.tier) × (own.slot ≡ e.slot) × (own.chunk ≡ e.chunk) × (own.chunks ≡ e.chunks)
    pub own_offset : length (encode (length value)) ≡ length (encode e.entry.valueLength) → own.entry.valueAt ≡ e.entry.valueAt

pub record Replacements (block img : List ℕ) : Type 0 where
  -- the row of 10 never holds where the new entry takes as many chunks as the old one, or fewer; so neither kind answers 10
  pub never_row10 : (policy : Policy) (e : Live) → Memᴰ e (live (shape block img) img) → (key value : List ℕ) → key_of img e.entry ≡ key
      → chunks_for (settings_of block) (length key) (length value) ≤ e.chunks → told_of block img (stores policy key value) ≡ false
  pub never_full : (policy : Policy) (e : Live) → Memᴰ e (live (shape block img) img) → (key value : List ℕ) → key_of img e.entry ≡ key
      → chunks_for (settings_of block) (length key) (length value) ≤ e.chunks → answer_number (store policy block img key value).answer ≢ 10
  pub same_size : (e : Live) → Memᴰ e (live (shape block img) img) → (key value : List ℕ) → key_of img e.entry ≡ key
      → Bytes key → Bytes value → length value ≤ longest_value → chunks_for (settings_of block) (length key) (length value) ≡ e.chunks
      → SameSize block img key value e

-- ---- request A4, for an accepted image: one bulk more

-- what a grow answered 0 leaves
pub record Grown (block img after : List ℕ) : Type 0 where
  -- it reads as the same map; every lookup and the list answer as before, tier and slot included
  pub accepted : Accepted block after
  pub same_map : map_of block after ≡ map_of block img
  pub lookups : (key : List ℕ) → lookup block after key ≡ lookup block img key
  pub lists : (n : ℕ) → entry block after n ≡ entry block img n
  -- there is one bulk more; the segments' chains stay, and the free tiers are the new ones in ascending order, then the old ones
  pub one_more : shape block after ≡ grown (shape block img)
  pub same_chains : Below (settings_of block).segments (λ s. chain (shape block after) after s ≡ chain (shape block img) img s)
  pub free_tiers : free_chain (shape block after) after
      ≡ span (suc (tiers (shape block img))) (settings_of block).bulkTiers ++ free_chain (shape block img) img
  -- every byte stays but those of the places that are written, and of their bytes with marks the bits from N on
  pub bytes_kept : (i : ℕ) → ((p : Place) → GrowWrites (shape block img) p → Apart i 1 (at (shape block after) p) (wide (shape block after) p))
      → get_or after i 0 ≡ get_or img i 0
  pub bits_kept : (t i : ℕ) → IsNew (shape block img) t → (settings_of block).chunks ≤ i → 8 * (i / 8) < (settings_of block).chunks
      → mark (shape block after) after t i ≡ mark (shape block after) img t i
  -- the next store is not answered 10
  pub not_full : (policy : Policy) (key value : List ℕ) → answer_number (store policy block after key value).answer ≢ 10

pub record Growth (block img : List ℕ) : Type 0 where
  -- 13 is answered exactly where there is no room for the bulk, and else 0
  pub refused : no_bulk (shape block img) (length img) ≡ true → answer_number (grow block img).answer ≡ 13
  pub done : no_bulk (shape block img) (length img) ≡ false → answer_number (grow block img).answer ≡ 0
  pub grown : answer_number (grow block img).answer ≡ 0 → Grown block img (grow block img).image

-- ---- request A13, for an accepted image: an extra tier that an edit empties goes home

-- e is the only entry of its tier, which is an extra one
pub record AloneInExtra (block img : List ℕ) (e : Live) : Type 0 where
  pub extra : IsExtra (shape block img) e.tier
  pub alone : length (full_slots (shape block img) img e.tier) ≡ 1

-- what becomes of e's tier, where `after` is the image after an edit of e's key
module _ (block img after : List ℕ) (e : Live) where
  -- it goes home
  abbrev pub TierGoes : Type 0
  TierGoes = (xs : List ℕ) × (ys : List ℕ) × GoneHome (shape block img) img after e.segment e.tier xs ys

  -- tier u takes the record that is stored in e's place: u stands before it, and it goes home; or it is u, and every chain stays
  abbrev pub TierReplaced : ℕ → Type 0
  TierReplaced u =
      ((xs : List ℕ) × (ys : List ℕ) × (Memᴰ u xs × GoneHome (shape block img) img after e.segment e.tier xs ys))
      ⊎ ((u ≡ e.tier) × ChainsStay (shape block img) img after)

-- an extra tier that had an entry and has none in the image `after` an edit is in no segment's chain
abbrev pub NoneLeft : (block img after : List ℕ) → Type 0
NoneLeft block img after = (t : ℕ) → IsExtra (shape block img) t → length (full_slots (shape block img) img t) ≢ 0
    → length (full_slots (shape block img) after t) ≡ 0 → Memᴰ t (chained (shape block img) after) → ⊥

pub record EmptyTiers (block img : List ℕ) : Type 0 where
  -- a removal sends the tier home exactly where it empties it, and else leaves every chain as it was
  pub removed : (e : Live) → Memᴰ e (live (shape block img) img) → (key : List ℕ) → key_of img e.entry ≡ key
      → AloneInExtra block img e → TierGoes block img (remove block img key).image e
  pub kept : (e : Live) → Memᴰ e (live (shape block img) img) → (key : List ℕ) → key_of img e.entry ≡ key
      → (AloneInExtra block img e → ⊥) → ChainsStay (shape block img) img (remove block img key).image
  -- no tier that an edit emptied is left in a segment's chain
  pub none_left : (key : List ℕ) → NoneLeft block img (remove block img key).image
  pub none_left_by_store : (policy : Policy) (key value : List ℕ) → Bytes key → Bytes value → NoneLeft block img (store policy block img key value).image
  -- a record stored in the place of such an entry is not answered 10, and where it does not stay on the spot an earlier tier takes it, or its own
  pub never_full : (policy : Policy) (e : Live) → Memᴰ e (live (shape block img) img) → (key value : List ℕ) → key_of img e.entry ≡ key
      → AloneInExtra block img e → answer_number (store policy block img key value).answer ≢ 10
  pub replaced : (policy : Policy) (e : Live) → Memᴰ e (live (shape block img) img) → (key value : List ℕ) → key_of img e.entry ≡ key
      → Bytes key → Bytes value → answer_number (store policy block img key value).answer ≡ 0
      → spot_of policy (shape block img) img key value ≡ none → AloneInExtra block img e
      → TierReplaced block img (store policy block img key value).image e (taking_tier (shape block img) img key value)

-- ---- demand 3, for an accepted image and any list of calls

-- the entry covers chunk i of tier t
abbrev pub covers_in : ℕ → ℕ → Live → Bool
covers_in t i e = eqb e.tier t && covers i e

pub record Kept (block img : List ℕ) (calls : List Call) (after : List ℕ) (map : Map) : Type 0 where
  -- each call answered what the map answers: the number and, when found, the record's bytes
  pub same_answers : answers block img calls ≡ map_answers (settings_of block) (map_of block img) calls (told block img calls)
  pub accepted : Accepted block after
  -- the live entries are exactly the keys and records of the map, each key once
  pub in_map : (p : Pair) → Memᴰ p (map_of block after) → Memᴰ p map
  pub in_image : (p : Pair) → Memᴰ p map → Memᴰ p (map_of block after)
  pub as_many : length (live (shape block after) after) ≡ length map
  pub keys_once : (key : List ℕ) → how_many (map_of block after) (has_key key) ≤ 1
  -- a chunk of a chained tier is marked and covered by exactly one live entry, or clear and covered by none
  pub chunks_covered : (t i : ℕ) → Memᴰ t (chained (shape block after) after) → i < (settings_of block).chunks
      → ((mark (shape block after) after t i ≡ 1) × (how_many (live (shape block after) after) (covers_in t i) ≡ 1))
      ⊎ ((mark (shape block after) after t i ≡ 0) × (how_many (live (shape block after) after) (covers_in t i) ≡ 0))
  -- every extra tier stands once, in one segment's chain or in the free chain
  pub tiers_once : (t : ℕ) → IsExtra (shape block after) t
      → how_many (chained_extra (shape block after) after ++ free_chain (shape block after) after) (eqb t) ≡ 1
  -- the marked chunks that the check counts are the chunks that the map's keys and records require
  pub marked_chunks : (c : Counts) → check block after ≡ record { outcome = outcome.Accepted c } → c.chunks ≡ chunks_of_map (settings_of block) map

abbrev pub Keeps : List ℕ → List ℕ → List Call → Type 0
Keeps block img calls = Kept block img calls (run block img calls) (map_after (settings_of block) (map_of block img) calls (told block img calls))
