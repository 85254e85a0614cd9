-- Chunks and counters: refusal 7.
use Rattle.std.specs.Prelude.{ℕ, ◌+◌, ◌≤◌, List, ◌≡◌, Bool, ◌&&◌, leb, ltb, eqb, length}
use Rattle.std.proofs.Math.Decide.{dec_le, ℕ_discrete}
use Rattle.lists.specs.Lists.{below, first, how_many, total, or_else}
use Rattle.lists.specs.Decide.{rule, implied}
use Rattle.lists.specs.Quantify.{Below, Every, below?, every?}
use Rattle.layout.specs.declared.Shape.{Shape}
use Rattle.layout.specs.Places.{get, mark, low_place, count_place}
use Rattle.chains.specs.Chains.{chain, chained, free_chain}
use Rattle.entries.specs.declared.Live.{Live}
use Rattle.entries.specs.Live.{slot_at, full_slots, live_in}

-- the entry covers chunk i
abbrev pub covers : ℕ → Live → Bool
covers i e = leb e.chunk i && ltb i (e.chunk + e.chunks)

module _ (z : Shape) (img : List ℕ) where
  open z use {settings}
  open settings use {segments, slots, chunks}

  abbrev pub clear : ℕ → ℕ → Bool
  clear t i = eqb (mark z img t i) 0

  -- the lowest clear chunk, or N if none
  unfoldable pub lowest_clear : ℕ → ℕ
  lowest_clear t = or_else (first (below chunks) (clear t)) chunks

  -- the lowest free chunk field
  abbrev pub low_field : ℕ → ℕ
  low_field t = get z img (low_place z t)

  -- ---- the rules

  -- no clear chunk is below the lowest free chunk field, and a tier without a clear chunk has N there; other crates know this rule by its
  -- laws alone (proofs/LowMark.antt)
  pub record LowMarkFits (t : ℕ) : Type 0 where
    pub none_below : low_field t ≤ lowest_clear t
    pub when_full : lowest_clear t ≡ chunks → low_field t ≡ chunks

  -- the two counters that an edit of the tier changes
  pub record CountersFit (t : ℕ) : Type 0 where
    pub entry_count : get z img (count_place z t) ≡ length (full_slots z img t)
    pub low_mark : LowMarkFits t

  -- a marked chunk is covered by one entry, a clear one by none
  abbrev pub MarksFit : ℕ → ℕ → Type 0
  MarksFit s t = Below chunks (λ i. how_many (live_in z img s t) (covers i) ≡ mark z img t i)

  pub record TierChunksFit (s t : ℕ) : Type 0 where
    pub marks : MarksFit s t
    pub counters : CountersFit t

  pub record FreeTierFits (t : ℕ) : Type 0 where
    pub slots_empty : Below slots (λ j. slot_at z img t j ≡ 0)
    pub chunks_clear : Below chunks (λ i. mark z img t i ≡ 0)

  pub record ChunksFit : Type 0 where
    pub tiers_fit : Below segments (λ s. Every (chain z img s) (TierChunksFit s))
    pub free_fit : Every (free_chain z img) FreeTierFits

  -- ---- decided

  unfoldable pub low_mark_fits? : (t : ℕ) → Dec (LowMarkFits t)
  low_mark_fits? t =
      rule (λ v. v.none_below) (dec_le (low_field t) (lowest_clear t)) λ a.
      rule (λ v. v.when_full) (implied (ℕ_discrete (lowest_clear t) chunks) λ _. ℕ_discrete (low_field t) chunks) λ b.
      yes (record { none_below = a; when_full = b })

  unfoldable pub counters_fit? : (t : ℕ) → Dec (CountersFit t)
  counters_fit? t =
      rule (λ v. v.entry_count) (ℕ_discrete (get z img (count_place z t)) (length (full_slots z img t))) λ a.
      rule (λ v. v.low_mark) (low_mark_fits? t) λ b.
      yes (record { entry_count = a; low_mark = b })

  unfoldable pub tier_chunks_fit? : (s t : ℕ) → Dec (TierChunksFit s t)
  tier_chunks_fit? s t =
      rule (λ v. v.marks) (below? (λ i. how_many (live_in z img s t) (covers i) ≡ mark z img t i)
      (λ i. ℕ_discrete (how_many (live_in z img s t) (covers i)) (mark z img t i)) chunks) λ a.
      rule (λ v. v.counters) (counters_fit? t) λ b.
      yes (record { marks = a; counters = b })

  unfoldable pub free_tier_fits? : (t : ℕ) → Dec (FreeTierFits t)
  free_tier_fits? t =
      rule (λ v. v.slots_empty) (below? (λ j. slot_at z img t j ≡ 0) (λ j. ℕ_discrete (slot_at z img t j) 0) slots) λ a.
      rule (λ v. v.chunks_clear) (below? (λ i. mark z img t i ≡ 0) (λ i. ℕ_discrete (mark z img t i) 0) chunks) λ b.
      yes (record { slots_empty = a; chunks_clear = b })

  unfoldable pub chunks_fit? : Dec ChunksFit
  chunks_fit? =
      rule (λ v. v.tiers_fit)
      (below? (λ s. Every (chain z img s) (TierChunksFit s)) (λ s. every? (TierChunksFit s) (tier_chunks_fit? s) (chain z img s)) segments) λ a.
      rule (λ v. v.free_fit) (every? FreeTierFits free_tier_fits? (free_chain z img)) λ b.
      yes (record { tiers_fit = a; free_fit = b })

  -- ---- how many chunks are marked: in a tier, and in the chained tiers

  unfoldable pub marked_in : ℕ → ℕ
  marked_in t = how_many (below chunks) (λ i. eqb (mark z img t i) 1)

  unfoldable pub marked_chunks : ℕ
  marked_chunks = total (chained z img) marked_in
