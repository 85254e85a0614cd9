-- What one walk along a chain finds, and how often each tier was met.
use Rattle.std.specs.Prelude.{ℕ, ◌+◌, ◌^◌, ◌≤◌, ◌<◌, suc, ◌≡◌, length, get_or, set, drop, Option, Some, None}
use mathlib.Core.List.{List, [], ◌∷◌, flat_map}
use Rattle.lists.specs.Lists.{below}
use Rattle.lists.specs.Quantify.{Below, Every}
use Rattle.layout.specs.declared.Shape.{Shape}
use Rattle.layout.specs.Tiers.{IsTier, IsExtra}
use Rattle.layout.specs.Frame.{Framed, most_tiers}
use Rattle.chains.specs.Chains.{follow, end_of, chain, ChainFits}

-- each tier of a list counted once more
unfoldable pub tally : List ℕ → List ℕ → List ℕ
tally times [] = times
tally times (t ∷ ts) = tally (set times t (get_or times t 0 + 1)) ts

-- ---- what a walk tells

-- P holds, and the k tiers of l were counted
pub record Met (P : Type 0) (l times times' : List ℕ) (k : ℕ) : Type 0 where
  pub holds : P
  pub count : k ≡ length l
  pub tallied : times' ≡ tally times l

-- a walk that ended has met the tiers of l, and one that is lost refutes P
abbrev pub Tells : Type 0 → List ℕ → List ℕ → List ℕ → Option ℕ → Type 0
Tells P l times times' (Some k) = Met P l times times' k
Tells P l times times' None = P → ⊥

-- as a record, so that its arguments are found where it is given
pub record Told (P : Type 0) (l times times' : List ℕ) (r : Option ℕ) : Type 0 where
  pub so : Tells P l times times' r

-- ---- the walk from t on: at most n extra tiers follow, up to 0

pub record Extras (z : Shape) (img : List ℕ) (n t : ℕ) : Type 0 where
  pub extras : Every (follow z img n t) (IsExtra z)
  pub ends : end_of z img n t ≡ 0

abbrev pub Walks : (z : Shape) (img : List ℕ) (n t : ℕ) → List ℕ → List ℕ → Option ℕ → Type 0
Walks z img n t = Told (Extras z img n t) (follow z img n t)

-- ---- the walk along segment s's chain, and along the chains of the first s segments

-- their extra tiers
abbrev pub extras_of : Shape → List ℕ → ℕ → List ℕ
extras_of z img s = drop 1 (chain z img s)

unfoldable pub extras_before : Shape → List ℕ → ℕ → List ℕ
extras_before z img s = flat_map (extras_of z img) (below s)

abbrev pub ChainWalks : (z : Shape) (img : List ℕ) (s : ℕ) → List ℕ → List ℕ → Option ℕ → Type 0
ChainWalks z img s = Told (ChainFits z img s) (extras_of z img s)

abbrev pub AllWalk : (z : Shape) (img : List ℕ) (s : ℕ) → List ℕ → List ℕ → Option ℕ → Type 0
AllWalk z img s = Told (Below s (ChainFits z img)) (extras_before z img s)

-- ---- what the functions ask

-- no tier was met more often
abbrev pub MetAtMost : List ℕ → ℕ → Type 0
MetAtMost times n = (u : ℕ) → get_or times u 0 ≤ n

-- a count for 0 and for each of 1,024 tiers
abbrev pub counts : ℕ
counts = suc most_tiers

-- an image whose frame fits, and the counts so far
pub record Counting (z : Shape) (img times : List ℕ) (n : ℕ) : Type 0 where
  pub framed : Framed z (length img)
  pub long : length times ≡ counts
  pub met : MetAtMost times n

-- a walk over at most n tiers
pub record CanWalk (z : Shape) (img : List ℕ) (n : ℕ) (times : List ℕ) : Type 0 where
  pub counting : Counting z img times (2 ^ 32)
  pub few : n ≤ most_tiers

-- the walk along segment s's chain
pub record CanWalkChain (z : Shape) (img : List ℕ) (s : ℕ) (times : List ℕ) : Type 0 where
  pub counting : Counting z img times (2 ^ 32)
  pub segment_in : s < z.settings.segments

-- what tier t says
pub record CanStand (z : Shape) (img : List ℕ) (t : ℕ) : Type 0 where
  pub framed : Framed z (length img)
  pub is_tier : IsTier z t

-- what the n tiers of segment s's chain say
pub record CanAllStand (z : Shape) (img : List ℕ) (s n : ℕ) : Type 0 where
  pub framed : Framed z (length img)
  pub segment_in : s < z.settings.segments
  pub number : n ≡ length (chain z img s)
  pub extras : Every (extras_of z img s) (IsExtra z)
