-- Placement: the run is marked, the entry's own bytes are written in it, the first empty slot from the start slot gets the lookup key and
-- the first chunk. The counters follow at the end of an edit.
use Rattle.std.specs.Prelude.{ℕ, List, length}
use Rattle.std.proofs.lemmas.List.Edits.{sets}
use Rattle.layout.specs.declared.Shape.{Shape}
use Rattle.layout.specs.Places.{put, tier, slot, put_marks, chunk_at}
use Rattle.entries.specs.Keys.{lookup_key, slot_with}
use Rattle.entries.specs.Stored.{entry_bytes, chunks_for}
use Rattle.search.specs.Search.{first_empty}

module _ (z : Shape) where
  open z use {settings}

  -- the entry's own bytes written from chunk c on
  abbrev pub write_entry : List ℕ → ℕ → ℕ → List ℕ → List ℕ → List ℕ
  write_entry img t c key value = sets img (chunk_at z t c) (entry_bytes settings key value)

  -- the run marked and the entry written
  unfoldable pub written : List ℕ → ℕ → ℕ → List ℕ → List ℕ → List ℕ
  written img t c key value = write_entry (put_marks z img t c (chunks_for settings (length key) (length value)) 1) t c key value

  -- the slot filled
  unfoldable pub slotted : List ℕ → ℕ → ℕ → List ℕ → List ℕ
  slotted img t c key = put z img (tier t (slot (first_empty z img key t))) (slot_with settings (lookup_key settings key) c)

  -- the entry goes to tier t, in the chunks from c on
  unfoldable pub place_at : List ℕ → ℕ → ℕ → List ℕ → List ℕ → List ℕ
  place_at img t c key value = slotted (written img t c key value) t c key
