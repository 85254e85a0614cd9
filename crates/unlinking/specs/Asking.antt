-- What the functions ask for. The definitions serve contracts alone.
use Rattle.std.specs.Prelude.{ℕ, ◌≤◌, ◌<◌, ◌≡◌, ◌≢◌, length}
use mathlib.Core.List.{List, Memᴰ}
use Rattle.lists.specs.Quantify.{Every}
use Rattle.layout.specs.declared.Shape.{Shape}
use Rattle.layout.specs.Tiers.{tiers, IsTier}
use Rattle.layout.specs.declared.Counter.TheVariants.{Order as order}
use Rattle.layout.specs.Places.{get, tier, counter}
use Rattle.layout.specs.Frame.{Framed}
use Rattle.chains.specs.Chains.{follow, end_of, chain, ChainsFit}
use Rattle.chains.specs.Walk.{extras_of}
use Rattle.sound.specs.Sound.{SoundImage}

-- the tiers from t on can be followed, and none of them is the first of its chain
pub record CanLower (z : Shape) (img : List ℕ) (t : ℕ) : Type 0 where
  pub framed : Framed z (length img)
  pub ends : end_of z img (tiers z) t ≡ 0
  pub tiers_of : Every (follow z img (tiers z) t) (IsTier z)
  pub not_first : Every (follow z img (tiers z) t) (λ u. 1 ≤ get z img (tier u (counter order)))

-- t is an extra tier of segment s's chain
pub record ExtraOf (z : Shape) (img : List ℕ) (s t : ℕ) : Type 0 where
  pub segment_in : s < z.settings.segments
  pub tier_in : Memᴰ t (extras_of z img s)

-- it can leave its chain
pub record CanUnlink (z : Shape) (img : List ℕ) (t : ℕ) : Type 0 where
  pub framed : Framed z (length img)
  pub fits : ChainsFit z img
  pub segment : ℕ
  pub extra_of : ExtraOf z img segment t

-- a sound image, and a tier of some segment's chain, if it is one (0 is none)
pub record CanUnlinkEmpty (z : Shape) (img : List ℕ) (t : ℕ) : Type 0 where
  pub sound : SoundImage z img
  pub chained : t ≢ 0 → (s : ℕ) × ((s < z.settings.segments) × Memᴰ t (chain z img s))
