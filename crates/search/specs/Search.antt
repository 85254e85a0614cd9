-- The search for a key: through its segment's chain, in each tier upward from the start slot until an empty slot.
use Rattle.std.specs.Prelude.{ℕ, List, [], ◌∷◌, Bool, true, false, ◌&&◌, eqb}
use Rattle.lists.specs.Quantify.{Below, Every}
use Rattle.words.specs.Bytes.{same}
use Rattle.layout.specs.declared.Shape.{Shape}
use Rattle.layout.specs.Tiers.{IsTier}
use Rattle.layout.specs.Places.{get, put, tier, slot}
use Rattle.chains.specs.Chains.{chain}
use Rattle.probe.specs.Table.{Table}
use Rattle.probe.specs.Search.{seek, room}
use Rattle.search.specs.declared.Sought.{Sought}
use Rattle.search.specs.declared.Sought.TheVariants.{Holds, Empty}
use Rattle.search.specs.declared.Found.{Found}
use Rattle.search.specs.declared.Found.TheVariants.{At, Absent}
use Rattle.entries.specs.Keys.{segment_of, lookup_key, start, slot_key, slot_chunk}
use Rattle.entries.specs.Stored.{stored, entry_of, key_of}
use Rattle.entries.specs.Live.{slot_at}

-- a tier's slots as a table, in which the image itself is read and written
abbrev pub slots_of : Shape → ℕ → Table (List ℕ)
slots_of z t =
    record {
      size = z.settings.slots;
      start = λ v. start z.settings (slot_key z.settings v);
      get = λ img j. get z img (tier t (slot j));
      put = λ img j v. put z img (tier t (slot j)) v;
    }

module _ (z : Shape) (img key : List ℕ) where
  open z use {settings}

  -- a full slot of tier t that holds v stands for the key: the lookup keys agree, and the whole stored key is the key
  unfoldable pub hits : ℕ → ℕ → Bool
  hits t v = eqb (slot_key settings v) (lookup_key settings key) && same (key_of img (entry_of (stored z img t (slot_chunk settings v)))) key

  -- where the search in tier t ends: at a slot that stands for the key, or at an empty one
  unfoldable pub seek_in : ℕ → ℕ
  seek_in t = seek (slots_of z t) (hits t) img (start settings (lookup_key settings key))

  -- what it finds there. A tier has an empty slot (refusal 6); in one without, and without the key, every slot is met and the search ends
  -- at its start slot, which holds another key.
  unfoldable pub sought_in : ℕ → Sought
  sought_in t = elim (eqb (slot_at z img t (seek_in t)) 0) [ true ↦ Empty (seek_in t) | false ↦ Holds (seek_in t) ]

  -- the first empty slot of tier t from the key's start slot on
  abbrev pub first_empty : ℕ → ℕ
  first_empty t = room (slots_of z t) img (start settings (lookup_key settings key))

  -- the tiers that are left, after a search that ended empty at slot j of tier u
  unfoldable pub search_from : ℕ → ℕ → List ℕ → Found
  search_from u j [] = Absent u j
  search_from u j (t ∷ ts) = elim (sought_in t) [ Empty i ↦ search_from t i ts | Holds i ↦ At t i ]

  unfoldable pub search : Found
  search = search_from 0 0 (chain z img (segment_of settings key))

-- every tier of every segment's chain is one
abbrev pub ChainTiers : Shape → List ℕ → Type 0
ChainTiers z img = Below z.settings.segments (λ s. Every (chain z img s) (IsTier z))
