-- What the functions over chunks ask for. The definitions serve contracts alone.
use Rattle.std.specs.Prelude.{ℕ, ◌+◌, ◌%◌, ◌≤◌, List, ◌≡◌, length}
use Rattle.layout.specs.declared.Shape.{Shape}
use Rattle.layout.specs.Places.{free_list_at}
use Rattle.layout.specs.Frame.{Framed}
use Rattle.layout.specs.FramedTier.{FramedTier}
use Rattle.chains.specs.Chains.{FreeChainFits}
use Rattle.chains.specs.Walk.{MetAtMost}
use Rattle.settings.specs.Rules.{most_tier_chunks}

-- counts that can go up by 1, at n chunks from c on
pub record CanCount (covered : List ℕ) (c n : ℕ) : Type 0 where
  pub ends : c + n ≤ length covered
  pub few : MetAtMost covered most_tier_chunks

module _ (z : Shape) (img : List ℕ) where
  open z use {settings}
  open settings use {chunks}

  -- the free list of tier t at an offset, and 8 chunks from i on that have a byte of it
  pub record WholeByte (t at i : ℕ) : Type 0 where
    pub tier : FramedTier z img t
    pub at_is : at ≡ free_list_at z t
    pub ends : i + 8 ≤ chunks
    pub even : i % 8 ≡ 0

  -- a tier, and a count for each of its chunks
  pub record CanCompare (t : ℕ) (covered : List ℕ) : Type 0 where
    pub tier : FramedTier z img t
    pub long : chunks ≤ length covered

  -- an image whose free chain fits
  pub record FramedFree : Type 0 where
    pub framed : Framed z (length img)
    pub free_fits : FreeChainFits z img
