-- What the functions over the tiers' contents ask for. The definitions serve contracts alone.
use Rattle.std.specs.Prelude.{ℕ, ◌+◌, ◌≤◌, ◌<◌, List, ◌≡◌, Bool, true, length, replicate, Result}
use Rattle.lists.specs.Quantify.{Every}
use Rattle.layout.specs.declared.Shape.{Shape}
use Rattle.layout.specs.FramedTier.{FramedTier}
use Rattle.chains.specs.Chains.{ChainsFit}
use Rattle.chains.specs.Walk.{tally, MetAtMost}
use Rattle.entries.specs.Live.{full_slots, live_in}
use Rattle.search.specs.declared.reach.Run.{Run}
use Rattle.search.specs.Reach.{RunTo, Alone}
use Rattle.search.specs.Asking.{FramedChains, ChainedTier}
use Rattle.contents.specs.declared.ContentsError.{ContentsError}
use Rattle.once.specs.Asking.{FittingChain, ReadChain}
use Rattle.chunks.specs.Counting.{chunks_of_all}
use Rattle.contents.specs.Counting.{AtMost, Lists, TiersSay}

-- two answers whose counts can be added
pub record CanJoin (a b : Result (ℕ × ℕ) ContentsError) : Type 0 where
  pub left : AtMost 4294967296 a
  pub right : AtMost 4294967296 b

module _ (z : Shape) (img : List ℕ) where
  open z use {settings}
  open settings use {segments, slots, chunks}

  -- the run before slot 0
  pub record BeforeFirst (t : ℕ) (first : Run) : Type 0 where
    pub next_is : first.next ≡ 0
    pub short : first.length < slots
    pub run : RunTo z img t 0 first.length

  -- a tier, and a list that is long enough for its full slots
  pub record CanList (t : ℕ) (list : List ℕ) : Type 0 where
    pub tier : FramedTier z img t
    pub long : slots ≤ length list

  -- a chained tier with its full slots listed, the run before its first slot, and counts of its chunks that are all 0
  pub record CanCover (s t : ℕ) (list : List ℕ) (full : ℕ) (first : Run) (covered : List ℕ) : Type 0 where
    pub tier : ChainedTier z img s t
    pub lists : Lists z img t list full
    pub begins : BeforeFirst t first
    pub long : chunks ≤ length covered
    pub zeros : MetAtMost covered 0

  -- a chained tier with so many full slots, whose entries were counted at their chunks
  pub record CanCompare (s t full : ℕ) (covered : List ℕ) : Type 0 where
    pub tier : ChainedTier z img s t
    pub full_is : full ≡ length (full_slots z img t)
    pub counted : covered ≡ tally (replicate 4096 0) (chunks_of_all (live_in z img s t))

  -- where it is known, each key of segment s's first tier is alone
  abbrev pub FirstKnown : ℕ → Bool → Type 0
  FirstKnown s apart = apart ≡ true → Every (full_slots z img (s + 1)) (Alone z img (s + 1))

  -- a chain whose slots fit; a chain that fits, and what was found of its tiers
  pub record KnownFirst (s : ℕ) (apart : Bool) : Type 0 where
    pub reads : ReadChain z img s
    pub alone : FirstKnown s apart

  pub record WithTiers (s : ℕ) (sum : Result (ℕ × ℕ) ContentsError) (apart : Bool) : Type 0 where
    pub fitting : FittingChain z img s
    pub says : TiersSay z img s sum
    pub alone : FirstKnown s apart

  -- an image whose chains fit
  pub record FittingChains : Type 0 where
    pub chains : FramedChains z img
    pub fits : ChainsFit z img
