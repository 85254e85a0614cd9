-- A tier of the store after a bulk was added: it holds what it held, under the shape with one bulk more.
use Prim.Native.Nat.{ℕ, ◌+◌, ◌<◌}
use mathlib.Core.List.{List}
use mathlib.Core.Path.{◌≡◌, refl, ap, sym, ◌∙◌}
use mathlib.Core.Logic.{⊎_elim, ◌≢◌}
use native.Mathlib.Omega.{arith}
use Rattle.settings.specs.Rules.{Valid}
use Rattle.layout.specs.declared.Shape.{Shape}
use Rattle.layout.specs.Tiers.{mains, bulks_at, extra_at, tier_at, IsTier}
use Rattle.layout.specs.declared.Header.{Header}
use Rattle.layout.specs.declared.Header.TheVariants.{EntryCount as entry_count, LowestFree as lowestFree}
use Rattle.layout.specs.declared.Counter.{Counter}
use Rattle.layout.specs.declared.Counter.TheVariants.{Low as low, Count as count}
use Rattle.layout.specs.Places.{header_no, counter_no, slot, free, byte, tier, shared_place, part_at, part_wide, at, wide, get, put, free_list_at, mark, chunk_at}
use Rattle.layout.proofs.Places.{kind, shared_in, shared-kind}
use Rattle.entries.specs.declared.Entry.{Entry}
use Rattle.entries.specs.Stored.{stored, key_of, value_of}
use Rattle.entries.specs.Live.{slot_at, entry_at, full_slots, live_at, live_in}
use Rattle.entries.specs.Pairs.{pair_of}
use Rattle.entries.proofs.Hashes.{start-lt}
use Rattle.probe.proofs.Search.{room-same}
use Rattle.search.specs.Search.{slots_of, first_empty}
use Rattle.search.specs.Rules.{keyAt, EntryFits, TierSlotsFit}
use Rattle.chunks.specs.Chunks.{lowest_clear, MarksFit, CountersFit, FreeTierFits}
use Rattle.chunks.proofs.LowMark.{low-mark-same}
use Rattle.sound.proofs.AgreeEntry.{Moved, entry-moves}
use Rattle.sound.proofs.AgreeTier.{SameTier, SameCounters, same-tier-fits, same-marks, same-counters, same-free, same_live_in}
use Rattle.sound.proofs.Elsewhere.{tier-by-places}
use Rattle.growing.specs.Growing.{grown}
use Rattle.growing.proofs.Reshaped.{get-grown}
use Rattle.growing.proofs.NewTiers.{Grows}

-- ---- nothing that is asked of a tier depends on the number of bulks

module _ (z : Shape) (img : List ℕ) (s t : ℕ) where
  entry-grown : (j : ℕ) → EntryFits z img s t j → EntryFits (grown z) img s t j
  unfolding get at wide part_at part_wide tier_at extra_at bulks_at mains chunk_at stored entry_at keyAt
  entry-grown j f =
      record {
        higher_bits = f.higher_bits;
        chunk_in = f.chunk_in;
        whole = f.whole;
        key_fits = f.key_fits;
        value_fits = f.value_fits;
        range_ends = f.range_ends;
        hashed = f.hashed;
      }

  slots-grown : TierSlotsFit z img s t → TierSlotsFit (grown z) img s t
  unfolding get at wide part_at part_wide tier_at extra_at bulks_at mains
  slots-grown f =
      record {
        slots_fit = record { some_empty = f.slots_fit.some_empty; full = λ j h ne. entry-grown j (f.slots_fit.full j h ne) };
        reached = f.reached;
      }

  live-grown : live_in (grown z) img s t ≡ live_in z img s t
  unfolding get at wide part_at part_wide tier_at extra_at bulks_at mains chunk_at stored entry_at full_slots live_at live_in
  live-grown = refl

  marks-grown : MarksFit z img s t → MarksFit (grown z) img s t
  unfolding get at wide part_at part_wide tier_at extra_at bulks_at mains chunk_at stored entry_at full_slots live_at live_in free_list_at mark
  marks-grown f = f

module _ (z : Shape) (img : List ℕ) (t : ℕ) where
  empty-grown : (key : List ℕ) → first_empty (grown z) img key t ≡ first_empty z img key t
  unfolding get put at wide part_at part_wide tier_at extra_at bulks_at mains
  empty-grown key = refl

  counters-grown : CountersFit z img t → CountersFit (grown z) img t
  unfolding get at wide part_at part_wide tier_at extra_at bulks_at mains full_slots free_list_at mark lowest_clear shared_place
  counters-grown f = record { entry_count = f.entry_count; low_mark = low-mark-same refl refl refl f.low_mark }

  nothing-grown : FreeTierFits z img t → FreeTierFits (grown z) img t
  unfolding get at wide part_at part_wide tier_at extra_at bulks_at mains free_list_at mark
  nothing-grown f = record { slots_empty = f.slots_empty; chunks_clear = f.chunks_clear }

-- ---- and the places of a tier keep their numbers

module _ (z : Shape) (img img' : List ℕ) (g : Grows z img img') (t : ℕ) (is : IsTier z t) where
  pub grown-tier : SameTier (grown z) img img' t
  grown-tier =
      tier-by-places (grown z) img img' t g.long
      (λ j h. g.kept (tier t (slot j)) (is, h) (omega arith) ∙ sym (get-grown z img (tier t (slot j))))
      (λ b h. g.kept (tier t (free b)) (is, h) (omega arith) ∙ sym (get-grown z img (tier t (free b))))
      (λ i h. g.kept (tier t (byte i)) (is, h) (omega arith) ∙ sym (get-grown z img (tier t (byte i))))

  shared_kept : (f : Header) (c : Counter) → get (grown z) img' (shared_place (grown z) f c t) ≡ get (grown z) img (shared_place (grown z) f c t)
  unfolding shared_place
  shared_kept f c =
      g.kept (shared_place z f c t) (shared_in z f c t is)
      (⊎_elim
      (λ (e : kind (shared_place z f c t) ≡ 5 + header_no f). omega arith)
      (λ (e : kind (shared_place z f c t) ≡ 9 + counter_no c). omega arith)
      (shared-kind z f c t))
      ∙ sym (get-grown z img (shared_place z f c t))

  grown-counts : SameCounters (grown z) img img' t
  grown-counts = record { count = shared_kept entry_count count; low = shared_kept lowestFree low }

  pub grown-slots : (s : ℕ) → TierSlotsFit z img s t → TierSlotsFit (grown z) img' s t
  grown-slots s f = same-tier-fits (grown z) img img' t grown-tier s (slots-grown z img s t f)

  pub grown-marks : (s : ℕ) → MarksFit z img s t → MarksFit (grown z) img' s t
  grown-marks s f = same-marks (grown z) img img' t grown-tier s (marks-grown z img s t f)

  pub grown-counters : CountersFit z img t → CountersFit (grown z) img' t
  grown-counters f = same-counters (grown z) img img' t grown-tier.slots grown-tier.marks grown-counts (counters-grown z img t f)

  pub grown-nothing : FreeTierFits z img t → FreeTierFits (grown z) img' t
  grown-nothing f = same-free (grown z) img img' t grown-tier.slots grown-tier.marks (nothing-grown z img t f)

  pub grown_live_in : (s : ℕ) → live_in (grown z) img' s t ≡ live_in z img s t
  grown_live_in s = same_live_in (grown z) img img' t grown-tier s ∙ live-grown z img s t

  -- the search for a key ends at the empty slot at which it ended
  pub grown-empty : Valid z.settings → (key : List ℕ) → first_empty (grown z) img' key t ≡ first_empty z img key t
  grown-empty v key =
      room-same (slots_of (grown z) t) _ (start-lt v _) img' img (λ j h. grown-tier.slots j h) ∙ empty-grown z img t key

  -- ---- the entry of a full slot

  module _ (s : ℕ) (fits : TierSlotsFit z img s t) (j : ℕ) (h : j < z.settings.slots) where
    pub grown-full : slot_at (grown z) img' t j ≢ 0 → slot_at z img t j ≢ 0
    grown-full ne e = ne (grown-tier.slots j h ∙ get-grown z img (tier t (slot j)) ∙ e)

    module _ (full : slot_at z img t j ≢ 0) where
      moved : Moved (grown z) img img' s t j j
      moved = entry-moves (grown z) img img' t grown-tier.bytes s j j (grown-tier.slots j h) (entry-grown z img s t j (fits.slots_fit.full j h full))

      pub grown-key : keyAt (grown z) img' t j ≡ keyAt z img t j
      unfolding get at wide part_at part_wide tier_at extra_at bulks_at mains chunk_at stored entry_at keyAt
      grown-key = moved.key

      -- it has the key and the record that it had
      pub grown-pair : pair_of img' (live_at z img s t j) ≡ pair_of img (live_at z img s t j)
      unfolding get at wide part_at part_wide tier_at extra_at bulks_at mains chunk_at stored entry_at live_at
      grown-pair = ap (λ (e : Entry). record { key = key_of img' e; value = value_of img' e }) (sym moved.entry) ∙ moved.pair
