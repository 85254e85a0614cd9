-- What the functions of the passes ask for. The definitions serve contracts alone.
use Rattle.std.specs.Prelude.{ℕ, ◌+◌, ◌/◌, ◌%◌, ◌≤◌, ◌<◌, ◌≡◌, ◌≢◌, length, get_or}
use mathlib.Core.List.{List, Memᴰ}
use Rattle.lists.specs.Quantify.{Below, Every}
use Rattle.settings.specs.Rules.{PowerOfTwo}
use Rattle.layout.specs.declared.Shape.{Shape}
use Rattle.chains.specs.Chains.{chain, ChainFits}
use Rattle.entries.specs.Live.{slot_at, full_slots}
use Rattle.search.specs.Rules.{TierSlotsFit}
use Rattle.search.specs.Reach.{Alone}
use Rattle.search.specs.Asking.{FramedChains, FittingSlot}
use Rattle.once.specs.declared.Sharing.{Sharing}
use Rattle.once.specs.Walk.{Keeps, MetUpTo, before}
use Rattle.gather.specs.Rows.{InRows}
use Rattle.once.specs.Refs.{InPass}

-- a table that can be searched: so many places that a power of two is
pub record HasPlaces (m : List ℕ) : Type 0 where
  pub two : 1 < length m
  pub power : PowerOfTwo (length m)
  pub few : length m ≤ 65536

module _ (z : Shape) (img : List ℕ) where
  open z use {settings}
  open settings use {segments, slots}

  -- a segment whose chain fits; one in whose tiers every full slot fits and is reached
  pub record FittingChain (s : ℕ) : Type 0 where
    pub chains : FramedChains z img
    pub segment_in : s < segments
    pub fits : ChainFits z img s

  pub record ReadChain (s : ℕ) : Type 0 where
    pub fitting : FittingChain s
    pub slots_fit : Every (chain z img s) (TierSlotsFit z img s)

  -- such a segment, in whose first tier each key is alone
  pub record FirstAlone (s : ℕ) : Type 0 where
    pub reads : ReadChain s
    pub alone : Every (full_slots z img (s + 1)) (Alone z img (s + 1))

  -- a full slot that fits, and what it holds
  pub record HoldsKey (s t j v : ℕ) : Type 0 where
    pub slot : FittingSlot z img s t j
    pub holds : v ≡ slot_at z img t j

  -- two full slots that can be compared: slot j of tier t, and the one that w refers to
  pub record CanCompare (s t j w : ℕ) : Type 0 where
    pub slot : FittingSlot z img s t j
    pub other : FittingSlot z img s (w / slots) (w % slots)

  module _ (by : Sharing) where
    -- passes over such a chain; a tier of it, and a slot of that
    pub record ReadPass (s : ℕ) : Type 0 where
      pub reads : ReadChain s
      pub few : by.passBits < 64

    pub record ReadTier (s t : ℕ) : Type 0 where
      pub pass : ReadPass s
      pub tier_in : Memᴰ t (chain z img s)

    pub record ReadSlot (s t j : ℕ) : Type 0 where
      pub tier : ReadTier s t
      pub slot_in : j < slots

    -- the slots of such a tier from one on
    pub record ReadFrom (s t from : ℕ) : Type 0 where
      pub tier : ReadTier s t
      pub within : from ≤ slots

    -- a full slot whose key can be looked up in a table of references to such
    pub record CanSeek (s t j : ℕ) (m : List ℕ) : Type 0 where
      pub slot : FittingSlot z img s t j
      pub few : by.passBits < 64
      pub places : HasPlaces m
      pub refers : Below (length m) (λ i. get_or m i 0 ≢ 0 → FittingSlot z img s (get_or m i 0 / slots) (get_or m i 0 % slots))

    -- slot j of tier t can be met in pass p; tier t can be walked; an empty table for the pass
    pub record CanMeet (p s t j : ℕ) (m : List ℕ) (left : ℕ) : Type 0 where
      pub slot : ReadSlot s t j
      pub mine : InPass z img by p t j
      pub places : HasPlaces m
      pub keeps : Keeps z img by m left (MetUpTo z img by p s t j)

    pub record CanWalk (p s t : ℕ) (m : List ℕ) (left : ℕ) : Type 0 where
      pub tier : ReadTier s t
      pub places : HasPlaces m
      pub keeps : Keeps z img by m left (InRows slots (InPass z img by p) (before t (chain z img s)))

    pub record CanPass (s : ℕ) (m : List ℕ) : Type 0 where
      pub pass : ReadPass s
      pub places : HasPlaces m
      pub zeros : Below (length m) (λ i. get_or m i 0 ≡ 0)
