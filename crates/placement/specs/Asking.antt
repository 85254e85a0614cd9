-- What the functions that place an entry ask for. The definitions serve contracts alone.
use Rattle.std.specs.Prelude.{ℕ, ◌+◌, ◌-◌, ◌≤◌, ◌<◌, List, [], ◌≡◌, false, Option, Some, None, IfSome, length}
use Rattle.layout.specs.declared.Shape.{Shape}
use Rattle.layout.specs.FramedTier.{FramedTier}
use Rattle.entries.specs.Stored.{chunks_for, longest_value}
use Rattle.search.specs.Search.{first_empty, search}
use Rattle.search.specs.Rules.{SomeEmpty}
use Rattle.search.specs.Asking.{Seeks, Lacks}
use Rattle.lists.specs.Quantify.{Below, Every}
use Rattle.layout.specs.Tiers.{tiers, IsTier}
use Rattle.layout.specs.Frame.{Framed}
use Rattle.chains.specs.Chains.{follow, chain}
use Rattle.chunks.specs.Chunks.{LowMarkFits}
use Rattle.placement.specs.declared.Old.{Old}
use Rattle.placement.specs.OldEntry.{old_found}
use Rattle.placement.specs.Runs.{clear_but}
use Rattle.entries.specs.Keys.{longest_key, segment_of}

module _ (z : Shape) (img : List ℕ) where
  open z use {settings}
  open settings use {chunks}

  -- an entry that ends within tier t's chunks, from chunk c on
  pub record CanWrite (t c : ℕ) (key value : List ℕ) : Type 0 where
    pub tier : FramedTier z img t
    pub key_long : length key ≤ longest_key
    pub value_long : length value ≤ longest_value
    pub range_ends : c + chunks_for settings (length key) (length value) ≤ chunks

  -- a key that is in no slot of tier t, which has an empty one
  pub record TakesKey (t : ℕ) (key : List ℕ) : Type 0 where
    pub some_empty : SomeEmpty z img t
    pub lacks : Lacks z img key t

  -- the slot for such a key is the first empty one from its start slot on, where it is known
  abbrev pub KnownFor : ℕ → List ℕ → Option ℕ → Type 0
  KnownFor t key slot = (j : ℕ) → slot ≡ Some j → j ≡ first_empty z img key t

  -- such a key with its lookup key
  pub record NewKey (key : List ℕ) (lookup t : ℕ) (slot : Option ℕ) : Type 0 where
    pub seeks : Seeks z img key lookup t
    pub takes : TakesKey t key
    pub slot_is : KnownFor t key slot

  -- an entry with such a key
  pub record CanPlace (t c : ℕ) (slot : Option ℕ) (key value : List ℕ) : Type 0 where
    pub write : CanWrite t c key value
    pub takes : TakesKey t key
    pub slot_is : KnownFor t key slot

  -- ---- the scan for a run of n chunks, where the old entry counts as removed

  -- the old entry ends within a tier's chunks
  abbrev pub OldEnds : Option Old → Type 0
  OldEnds old = IfSome old (λ o. o.chunk + o.chunks ≤ chunks)

  -- chunk i of tier t
  pub record CanTest (old : Option Old) (t i : ℕ) : Type 0 where
    pub tier : FramedTier z img t
    pub chunk_in : i < chunks
    pub old_ends : OldEnds old

  -- a place in tier t's chunks below which none is clear
  abbrev pub NoneClearBelow : Option Old → ℕ → ℕ → Type 0
  NoneClearBelow old t c = (c ≤ chunks) × Below c (λ i. clear_but z img old t i ≡ false)

  -- in tier t
  pub record CanScan (old : Option Old) (t n : ℕ) : Type 0 where
    pub tier : FramedTier z img t
    pub low_mark : LowMarkFits z img t
    pub some : 0 < n
    pub old_ends : OldEnds old

  -- the tiers from t on, where `passed` tiers were met before
  abbrev pub tiers_from : ℕ → ℕ → List ℕ
  tiers_from t passed = follow z img (tiers z - passed) t

  -- those from the old entry's on: none, where there is no such entry
  abbrev pub rest_from : Option Old → ℕ → List ℕ
  rest_from None passed = []
  rest_from (Some o) passed = tiers_from o.tier passed

  -- in the tiers from the old entry's on
  pub record CanScanRest (old : Option Old) (passed n : ℕ) : Type 0 where
    pub framed : Framed z (length img)
    pub tiers_of : Every (rest_from old passed) (IsTier z)
    pub low_marks : Every (rest_from old passed) (LowMarkFits z img)
    pub some : 0 < n
    pub old_ends : OldEnds old

  -- in the chain of a key
  pub record CanWalk (key : List ℕ) (n : ℕ) : Type 0 where
    pub framed : Framed z (length img)
    pub tiers_of : Every (chain z img (segment_of settings key)) (IsTier z)
    pub low_marks : Every (chain z img (segment_of settings key)) (LowMarkFits z img)
    pub some : 0 < n
    pub old_ends : OldEnds (old_found z img (search z img key))
