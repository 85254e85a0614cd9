-- Live entries: a full slot in a chained tier has one.
use Rattle.std.specs.Prelude.{ℕ, not, eqb}
use mathlib.Core.List.{List, map, flat_map}
use Rattle.lists.specs.Lists.{below, those}
use Rattle.layout.specs.declared.Shape.{Shape}
use Rattle.layout.specs.Places.{get, tier, slot}
use Rattle.chains.specs.Chains.{chain}
use Rattle.entries.specs.declared.Entry.{Entry}
use Rattle.entries.specs.declared.Live.{Live}
use Rattle.entries.specs.Keys.{slot_chunk}
use Rattle.entries.specs.Stored.{stored, entry_of, chunks_for}

module _ (z : Shape) (img : List ℕ) where
  open z use {settings}
  open settings use {segments, slots}

  abbrev pub slot_at : ℕ → ℕ → ℕ
  slot_at t j = get z img (tier t (slot j))

  unfoldable pub full_slots : ℕ → List ℕ
  full_slots t = those (below slots) (λ j. not (eqb (slot_at t j) 0))

  -- the first chunk that slot j of tier t names, and the entry there
  abbrev pub chunk_of : ℕ → ℕ → ℕ
  chunk_of t j = slot_chunk settings (slot_at t j)

  unfoldable pub entry_at : ℕ → ℕ → Entry
  entry_at t j = entry_of (stored z img t (chunk_of t j))

  unfoldable pub live_at : ℕ → ℕ → ℕ → Live
  live_at s t j =
      record {
        segment = s;
        tier = t;
        slot = j;
        chunk = chunk_of t j;
        chunks = chunks_for settings (entry_at t j).keyLength (entry_at t j).valueLength;
        entry = entry_at t j;
      }

  unfoldable pub live_in : ℕ → ℕ → List Live
  live_in s t = map (live_at s t) (full_slots t)

  unfoldable pub live_of : ℕ → List Live
  live_of s = flat_map (live_in s) (chain z img s)

  -- by segment, chain order, slot
  unfoldable pub live : List Live
  live = flat_map live_of (below segments)
