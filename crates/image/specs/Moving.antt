-- How a cursor comes to the next entry: what the functions behind a step answer. They serve their contracts alone.
use Rattle.std.specs.Prelude.{ℕ, ◌+◌, ◌<◌, ◌≡◌, List, [], ◌++◌, ◌≢◌, length}
use Rattle.layout.specs.declared.Shape.{Shape}
use Rattle.layout.specs.Tiers.{IsTier}
use Rattle.layout.specs.Frame.{Framed}
use Rattle.entries.specs.declared.Live.{Live}
use Rattle.entries.specs.Live.{slot_at}
use Rattle.search.specs.Asking.{FramedChains}
use Rattle.image.specs.declared.cursor.LiveCursor.{LiveCursor}
use Rattle.image.specs.Cursor.{ahead, InChain}

module _ (z : Shape) (img : List ℕ) where
  open z use {settings}
  open settings use {slots}

  -- the cursor stands on the full slot of the next entry
  pub record OnFull (c : LiveCursor) : Type 0 where
    pub some : c.left ≢ 0
    pub tier_in : IsTier z c.tier
    pub slot_in : c.slot < slots
    pub full : slot_at z img c.tier c.slot ≢ 0
    pub skip_is : c.skip ≡ 0

  -- the cursor moves on from c to d, over entries that it is to pass over and no others
  pub record Moves (c d : LiveCursor) : Type 0 where
    pub in_chain : InChain z img d
    pub passed : List Live
    pub split : ahead z img c ≡ passed ++ ahead z img d
    pub count : c.skip ≡ length passed + d.skip

  -- the same in one tier
  pub record InTier (c d : LiveCursor) : Type 0 where
    pub moves : Moves c d
    pub segment_is : d.segment ≡ c.segment
    pub tier_is : d.tier ≡ c.tier
    pub left_is : d.left ≡ c.left

  -- it is on such a slot, or no entry is ahead
  pub record Settled (c : LiveCursor) : Type 0 where
    pub on_full : c.left ≢ 0 → OnFull c
    pub none : c.left ≡ 0 → ahead z img c ≡ []

  -- ---- what the functions ask for

  -- a cursor in a tier of a chain, at which it looks
  pub record CanLook (c : LiveCursor) : Type 0 where
    pub framed : Framed z (length img)
    pub in_chain : InChain z img c
    pub some : c.left ≢ 0
    pub tier_is : c.tier ≢ 0

  -- a cursor that may come to any chain
  pub record CanMove (c : LiveCursor) : Type 0 where
    pub chains : FramedChains z img
    pub in_chain : InChain z img c
