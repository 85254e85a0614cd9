-- What the functions ask for and answer. The definitions serve contracts alone.
use Rattle.std.specs.Prelude.{ℕ, ◌<◌, List, ◌≡◌, length}
use Rattle.lists.specs.Quantify.{Every}
use Rattle.layout.specs.declared.Shape.{Shape}
use Rattle.layout.specs.Tiers.{IsTier}
use Rattle.layout.specs.Frame.{Framed, most_tiers}
use Rattle.layout.specs.declared.Global.TheVariants.{UsedTiers as usedTiers}
use Rattle.layout.specs.Places.{get, global}
use Rattle.chains.specs.Chains.{chain, free_head, last_tier}

-- segment s's chain ends with tier last and has n tiers
pub record EndsAt (z : Shape) (img : List ℕ) (s last n : ℕ) : Type 0 where
  pub last_is : last ≡ last_tier z img s
  pub length_is : n ≡ length (chain z img s)

-- ---- what the functions ask

-- segment s's chain can be followed
pub record CanFollow (z : Shape) (img : List ℕ) (s : ℕ) : Type 0 where
  pub framed : Framed z (length img)
  pub segment_in : s < z.settings.segments
  pub tiers_of : Every (chain z img s) (IsTier z)

-- and a free tier can join it
pub record CanJoin (z : Shape) (img : List ℕ) (s : ℕ) : Type 0 where
  pub follows : CanFollow z img s
  pub free_in : IsTier z (free_head z img)
  pub few_used : get z img (global usedTiers) < most_tiers
