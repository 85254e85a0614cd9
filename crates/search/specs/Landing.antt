-- The search for a stored key, and what is asked of one full slot. Where the slots fit and are reached, the search for each stored key ends
-- in its own slot exactly if no key has two. The definitions serve contracts alone.
use Rattle.std.specs.Prelude.{ℕ, List, ◌≡◌, ◌≢◌, Option, Some, None}
use Rattle.lists.specs.Quantify.{Below, Every}
use Rattle.layout.specs.declared.Shape.{Shape}
use Rattle.chains.specs.Chains.{chain}
use Rattle.entries.specs.Live.{slot_at, chunk_of}
use Rattle.search.specs.declared.Found.TheVariants.{At}
use Rattle.search.specs.Search.{seek_in, search}
use Rattle.search.specs.Rules.{keyAt, chunks_at, EntryFits, Reached}

module _ (z : Shape) (img : List ℕ) where
  open z use {settings}
  open settings use {slots}

  -- the search for a key ends in tier t, where the search in that tier does
  abbrev pub FoundIn : List ℕ → ℕ → Type 0
  FoundIn key t = search z img key ≡ At t (seek_in z img key t)

  -- the key of slot j of tier t is found in that slot
  abbrev pub LandsAt : ℕ → ℕ → Type 0
  LandsAt t j = search z img (keyAt z img t j) ≡ At t j

  -- so is each full slot's: in one tier, and in segment s's chain
  abbrev pub LandsIn : ℕ → Type 0
  LandsIn t = Below slots (λ j. slot_at z img t j ≢ 0 → LandsAt t j)

  abbrev pub Lands : ℕ → Type 0
  Lands s = Every (chain z img s) LandsIn

  -- what is asked of one full slot of a tier in segment s's chain, apart from the others' keys
  abbrev pub SlotHolds : ℕ → ℕ → ℕ → Type 0
  SlotHolds s t j = EntryFits z img s t j × Reached z img t j

  -- a full slot of which P is asked: P holds, with the chunks of its entry, or does not
  abbrev pub SlotSays : Type 0 → ℕ → ℕ → Option (ℕ × ℕ) → Type 0
  SlotSays P t j (Some (c, n)) = P × ((c ≡ chunk_of z img t j) × (n ≡ chunks_at z img t j))
  SlotSays P t j None = P → ⊥
