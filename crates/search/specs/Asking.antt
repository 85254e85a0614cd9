-- What the functions of the search and of its rules ask for. The definitions serve contracts alone.
use Rattle.std.specs.Prelude.{ℕ, ◌+◌, ◌≤◌, ◌<◌, List, ◌≡◌, ◌≢◌, length}
use Rattle.lists.specs.Quantify.{Below}
use Rattle.layout.specs.declared.Shape.{Shape}
use Rattle.layout.specs.Tiers.{IsTier}
use Rattle.layout.specs.Frame.{Framed}
use Rattle.layout.specs.FramedTier.{FramedTier, FramedSlot}
use Rattle.entries.specs.declared.Entry.{Entry}
use Rattle.entries.specs.Keys.{segment_of, lookup_key}
use Rattle.entries.specs.Live.{slot_at}
use Rattle.search.specs.declared.Sought.TheVariants.{Holds}
use Rattle.search.specs.Search.{seek_in, sought_in, ChainTiers}
use Rattle.search.specs.Rules.{keyAt, EntryFits}
use Rattle.search.specs.Reach.{RunAt}

module _ (z : Shape) (img : List ℕ) where
  open z use {settings}
  open settings use {segments, slots}

  -- a tier, and a key with its lookup key
  pub record Seeks (key : List ℕ) (lookup t : ℕ) : Type 0 where
    pub tier : FramedTier z img t
    pub lookup_is : lookup ≡ lookup_key settings key

  -- an image in whose chains are tiers alone
  pub record FramedChains : Type 0 where
    pub framed : Framed z (length img)
    pub chain_tiers : ChainTiers z img

  -- a tier for segment s
  pub record ChainedTier (s t : ℕ) : Type 0 where
    pub chains : FramedChains
    pub segment_in : s < segments
    pub tier_in : IsTier z t

  -- a key of segment s, with its lookup key, that the search in tier t finds
  pub record SoughtAt (key : List ℕ) (lookup s t : ℕ) : Type 0 where
    pub tier : ChainedTier s t
    pub segment_is : s ≡ segment_of settings key
    pub lookup_is : lookup ≡ lookup_key settings key
    pub holds : sought_in z img key t ≡ Holds (seek_in z img key t)

  -- no full slot of tier t stands for the key
  abbrev pub Lacks : List ℕ → ℕ → Type 0
  Lacks key t = Below slots (λ j. slot_at z img t j ≢ 0 → keyAt z img t j ≢ key)

  -- an entry whose key stands within the image
  pub record HasKey (e : Entry) : Type 0 where
    pub framed : Framed z (length img)
    pub key_inside : e.keyAt + e.keyLength ≤ length img

  -- a slot whose entry fits, with the lookup key of its key
  pub record KeyOfSlot (s t j lookup : ℕ) : Type 0 where
    pub slot : FramedSlot z img t j
    pub fits : EntryFits z img s t j
    pub lookup_is : lookup ≡ lookup_key settings (keyAt z img t j)

  -- a full slot of such a tier; one whose entry fits
  pub record FullSlot (s t j : ℕ) : Type 0 where
    pub tier : ChainedTier s t
    pub slot_in : j < slots
    pub full : slot_at z img t j ≢ 0

  pub record FittingSlot (s t j : ℕ) : Type 0 where
    pub slot : FullSlot s t j
    pub fits : EntryFits z img s t j

  -- a full slot at the end of a run of n
  pub record RunSlot (s t j n : ℕ) : Type 0 where
    pub slot : FullSlot s t j
    pub run : RunAt z img t j n

  -- a slot whose entry fits, with the lookup key of its key, and a tier in which it is compared
  pub record ComparedIn (s t j lookup u : ℕ) : Type 0 where
    pub key : KeyOfSlot s t j lookup
    pub tier_in : IsTier z u
