-- What the answers for a tier, a chain and several chains say, and two answers taken together. The definitions serve contracts alone.
use Rattle.std.specs.Prelude.{ℕ, ◌+◌, ◌≤◌, ◌≡◌, Bool, true, Option, Some, None, length, take, Result, Ok, Err}
use mathlib.Core.List.{List, flat_map}
use Rattle.lists.specs.Lists.{below, total}
use Rattle.lists.specs.Quantify.{Below, Every}
use Rattle.layout.specs.declared.Shape.{Shape}
use Rattle.chains.specs.Chains.{chain, free_chain}
use Rattle.chains.specs.Walk.{tally}
use Rattle.entries.specs.Live.{full_slots, live_in, live_of}
use Rattle.search.specs.Rules.{TierSlotsFit, KeysOnce}
use Rattle.search.specs.Reach.{Alone}
use Rattle.search.specs.Landing.{SlotHolds}
use Rattle.chunks.specs.Chunks.{TierChunksFit, FreeTierFits, marked_in}
use Rattle.chunks.specs.Counting.{chunks_of_all}
use Rattle.contents.specs.declared.ContentsError.{ContentsError}
use Rattle.contents.specs.declared.ContentsError.TheVariants.{Chunks, Entries}
use Rattle.contents.specs.declared.Tier.{Tier}

-- of E, asked before C: that E is broken, that C is, or that both hold, with two counts
abbrev pub SaysSo : Type 0 → Type 0 → ℕ → ℕ → Result (ℕ × ℕ) ContentsError → Type 0
SaysSo E C n m (Err Entries) = E → ⊥
SaysSo E C n m (Err Chunks) = E × (C → ⊥)
SaysSo E C n m (Ok (a, b)) = (E × C) × ((a ≡ n) × (b ≡ m))

pub record Says (E C : Type 0) (n m : ℕ) (r : Result (ℕ × ℕ) ContentsError) : Type 0 where
  pub so : SaysSo E C n m r

-- two answers as one
abbrev pub joined : Result (ℕ × ℕ) ContentsError → Result (ℕ × ℕ) ContentsError → Result (ℕ × ℕ) ContentsError
joined (Err Entries) x = Err Entries
joined (Err Chunks) (Err Entries) = Err Entries
joined (Err Chunks) (Err Chunks) = Err Chunks
joined (Err Chunks) (Ok (n, m)) = Err Chunks
joined (Ok (a, b)) (Err Entries) = Err Entries
joined (Ok (a, b)) (Err Chunks) = Err Chunks
joined (Ok (a, b)) (Ok (n, m)) = Ok (a + n, b + m)

-- counts that can be added
abbrev pub AtMost : ℕ → Result (ℕ × ℕ) ContentsError → Type 0
AtMost k (Err Entries) = Unit {0}
AtMost k (Err Chunks) = Unit {0}
AtMost k (Ok (a, b)) = (a ≤ k) × (b ≤ k)

module _ (z : Shape) (img : List ℕ) where
  -- the first n numbers of a list are the full slots of tier t
  pub record Lists (t : ℕ) (list : List ℕ) (n : ℕ) : Type 0 where
    pub are : take n list ≡ full_slots z img t
    pub within : n ≤ length list

  -- each full slot of tier t meets what is asked of it alone, its entries were counted at their chunks, and, where that is known, none
  -- has a slot with its key on its way
  pub record AllCovered (s t : ℕ) (before after : List ℕ) (apart : Bool) : Type 0 where
    pub held : Every (full_slots z img t) (SlotHolds z img s t)
    pub counted : after ≡ tally before (chunks_of_all (live_in z img s t))
    pub alone : apart ≡ true → Every (full_slots z img t) (Alone z img t)

  abbrev pub Covers : ℕ → ℕ → List ℕ → List ℕ → Option Bool → Type 0
  Covers s t before after (Some apart) = AllCovered s t before after apart
  Covers s t before after None = Every (full_slots z img t) (SlotHolds z img s t) → ⊥

  -- the rules of chunks and counters, of tier t in segment s's chain; with those of its slots and entries before
  abbrev pub ChunksSay : ℕ → ℕ → Result (ℕ × ℕ) ContentsError → Type 0
  ChunksSay s t = Says (Unit {0}) (TierChunksFit z img s t) (length (full_slots z img t)) (marked_in z img t)

  abbrev pub TierSays : ℕ → ℕ → Result (ℕ × ℕ) ContentsError → Type 0
  TierSays s t = Says (TierSlotsFit z img s t) (TierChunksFit z img s t) (length (full_slots z img t)) (marked_in z img t)

  pub record TierTold (s t : ℕ) (r : Tier) : Type 0 where
    pub says : TierSays s t r.contents
    pub alone : r.apart ≡ true → Every (full_slots z img t) (Alone z img t)

  -- of the tiers of segment s's chain one by one; of the chain
  abbrev pub TiersSay : ℕ → Result (ℕ × ℕ) ContentsError → Type 0
  TiersSay s =
      Says (Every (chain z img s) (TierSlotsFit z img s)) (Every (chain z img s) (TierChunksFit z img s)) (length (live_of z img s))
      (total (chain z img s) (marked_in z img))

  pub record ChainHolds (s : ℕ) : Type 0 where
    pub tiers_fit : Every (chain z img s) (TierSlotsFit z img s)
    pub keys_once : KeysOnce z img s

  abbrev pub ChainSays : ℕ → Result (ℕ × ℕ) ContentsError → Type 0
  ChainSays s =
      Says (ChainHolds s) (Every (chain z img s) (TierChunksFit z img s)) (length (live_of z img s)) (total (chain z img s) (marked_in z img))

  -- of the first n segments' chains
  abbrev pub AllSay : ℕ → Result (ℕ × ℕ) ContentsError → Type 0
  AllSay n =
      Says (Below n ChainHolds) (Below n (λ s. Every (chain z img s) (TierChunksFit z img s)))
      (length (flat_map (live_of z img) (below n))) (total (flat_map (chain z img) (below n)) (marked_in z img))

  -- of the free tiers, of which no rule of slots and entries is asked
  abbrev pub FreeSays : Result (ℕ × ℕ) ContentsError → Type 0
  FreeSays = Says (Unit {0}) (Every (free_chain z img) (FreeTierFits z img)) 0 0
