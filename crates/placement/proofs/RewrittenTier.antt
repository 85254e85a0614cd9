-- The tier after an entry was written over the old one of its key: every slot stands for the key that it stood for, and every rule holds again.
use Prim.Native.Nat.{ℕ, ◌+◌, ◌≤◌, ◌<◌}
use mathlib.Core.List.{List}
use mathlib.Core.Path.{◌≡◌, refl, ap, sym, ◌∙◌, subst}
use mathlib.Core.Logic.{◌≢◌, ⊎_elim}
use native.Mathlib.Omega.{arith}
use lib.ListN.{length}
use Rattle.lists.specs.Cases.{same_or}
use Rattle.lists.specs.Quantify.{Below}
use Rattle.words.proofs.Bytes.{cut-sets-out, cut-sets-same}
use Rattle.layout.specs.declared.Shape.{Shape}
use Rattle.layout.specs.Places.{chunk_at}
use Rattle.layout.proofs.Marks.{mark-lt}
use Rattle.probe.proofs.Table.{slot_total-two}
use Rattle.entries.specs.declared.Entry.{Entry}
use Rattle.entries.specs.Stored.{entry_bytes, chunks_for}
use Rattle.entries.specs.Live.{slot_at, chunk_of, entry_at}
use Rattle.search.specs.Search.{slots_of}
use Rattle.search.specs.Rules.{Hashed, keyAt, chunks_at, EntryFits, TierSlotsFit}
use Rattle.chunks.specs.Chunks.{MarksFit, CountersFit}
use Rattle.sound.proofs.Values.{entry_for, if_full, full_is}
use Rattle.sound.proofs.Sums.{table_same}
use Rattle.sound.proofs.Sound.{sound-but}
use Rattle.sound.proofs.AgreeEntry.{SameChunks, Moved, entry-stays}
use Rattle.sound.proofs.AgreeTier.{SameSlots, same-counters, slots-still}
use Rattle.sound.proofs.Replaced.{TierAgain, keys-stay}
use Rattle.placement.proofs.Written.{some-chunks, entry-fits, entry_in_chunks, written-inside}
use Rattle.placement.proofs.Ranges.{within, within_in, covers_of, covered-total, entry-apart}
use Rattle.placement.proofs.Standing.{Stands, stands-entry, stands-key, stands-fits}
use Rattle.placement.proofs.Rewriting.{Rewrites, rewritten, is-tier, was-entry, key_fits, rewrite-asks, rewrite-slots, rewrite-marks, rewrite-counters}

module _ {z : Shape} {img : List ℕ} {s t j : ℕ} {key value : List ℕ} (w : Rewrites z img s t j key value) where
  open z use {settings}
  open settings use {slots}

  abbrev m : List ℕ
  m = rewritten z img t j key value

  abbrev c : ℕ
  c = chunk_of z img t j

  abbrev n : ℕ
  n = chunks_for settings (length key) (length value)

  -- the slot's number, as it was
  abbrev v : ℕ
  v = slot_at z img t j

  was-fitting : TierSlotsFit z img s t
  was-fitting = w.sound.fits.entries.tiers_fit s w.segment_in t w.tier_in

  was-marked : MarksFit z img s t
  was-marked = (w.sound.fits.chunks.tiers_fit s w.segment_in t w.tier_in).marks

  pub same-slots : SameSlots z img (rewritten z img t j key value) t
  same-slots k hk = rewrite-slots w t k (is-tier w) hk

  -- ---- the slot whose entry is written

  pub stands : Stands z (rewritten z img t j key value) s t j (slot_at z img t j) (chunk_of z img t j) key value
  stands =
      record {
        holds = same-slots j w.slot_in;
        first = refl;
        rest = (was-entry w).higher_bits;
        hashed = subst (Hashed settings s v) w.key_is (was-entry w).hashed;
        key_fits = key_fits w;
        value_fits = w.value_fits;
        range_ends = (rewrite-asks w).range_ends;
        bytes = cut-sets-same img (chunk_at z t c) (entry_bytes settings key value) (written-inside (rewrite-asks w));
        in_chunks = entry_in_chunks (rewrite-asks w);
      }

  -- ---- any other slot of the tier: no chunk is covered by two entries

  module _ (k : ℕ) (hk : k < slots) (fk : slot_at z img t k ≢ 0) (ne : k ≢ j) where
    not-both : (i : ℕ) → c ≤ i → i < c + n → chunk_of z img t k ≤ i → i < chunk_of z img t k + chunks_at z img t k → ⊥
    unfolding entry_at
    not-both i lo hi lo' hi' =
        omega (
          arith,
          was-marked i (omega (arith, (rewrite-asks w).range_ends)),
          mark-lt z img t i,
          covered-total z img s t i,
          slot_total-two (slots_of z t) (if_full (covers_of z img t i)) img slots k j hk w.slot_in ne,
          full_is (covers_of z img t i) (slot_at z img t k) fk,
          full_is (covers_of z img t i) v w.full,
          within_in (chunk_of z img t k) (chunks_at z img t k) i lo' hi',
          within_in c (chunks_at z img t j) i lo (omega (arith, w.same_chunks)),
        )

    same-chunks : SameChunks z img m t (chunk_of z img t k) (chunks_at z img t k)
    same-chunks =
        cut-sets-out img _ _ (chunk_at z t c) (entry_bytes settings key value)
        (entry-apart z img t k w.sound.fits.valid c n _ (some-chunks (rewrite-asks w)) (entry-fits (rewrite-asks w)) not-both)

    -- in whatever segment
    pub moved : (q : ℕ) → EntryFits z img q t k → Moved z img (rewritten z img t j key value) q t k k
    moved q f = entry-stays z img m t q k k same-chunks (same-slots k hk) f

    pub moved_here : Moved z img (rewritten z img t j key value) s t k k
    moved_here = moved s (was-fitting.slots_fit.full k hk fk)

  -- ---- the tier

  fits-now : Below slots (λ k. slot_at z img t k ≢ 0 → EntryFits z m s t k)
  fits-now k hk fk = ⊎_elim (λ (e : k ≡ j). rw e (stands-fits stands)) (λ (ne : k ≢ j). (moved_here k hk fk ne).fits) (same_or k j)

  keys-now : Below slots (λ k. slot_at z img t k ≢ 0 → keyAt z m t k ≡ keyAt z img t k)
  keys-now k hk fk =
      ⊎_elim (λ (e : k ≡ j). rw e (stands-key stands ∙ sym w.key_is)) (λ (ne : k ≢ j). (moved_here k hk fk ne).key) (same_or k j)

  -- each entry covers the chunks that it covered
  covers-now : (i : ℕ) → Below slots (λ k. slot_at z img t k ≢ 0 → covers_of z m t i (slot_at z img t k) ≡ covers_of z img t i (slot_at z img t k))
  unfolding entry_at
  covers-now i k hk fk =
      ⊎_elim
      (λ (e : k ≡ j).
      rw e
      (ap (λ (x : Entry). within c (chunks_for settings x.keyLength x.valueLength) i) (stands-entry stands)
      ∙ ap (λ (x : ℕ). within c x i) (sym w.same_chunks)))
      (λ (ne : k ≢ j).
      let same : entry_for z m t (slot_at z img t k) ≡ entry_for z img t (slot_at z img t k) =
      ap (entry_for z m t) (sym (same-slots k hk)) ∙ (moved_here k hk fk ne).entry in
      ap (λ (x : Entry). within (chunk_of z img t k) (chunks_for settings x.keyLength x.valueLength) i) same)
      (same_or k j)

  marks-now : MarksFit z m s t
  marks-now i hi =
      covered-total z m s t i ∙ table_same z t img m (covers_of z img t i) (covers_of z m t i) same-slots (covers-now i)
      ∙ sym (covered-total z img s t i) ∙ was-marked i hi ∙ sym (rewrite-marks w t (is-tier w) i hi)

  pub tier-again : TierAgain z img (rewritten z img t j key value) s t
  tier-again =
      keys-stay z img s t w.segment_in (sound-but z img w.sound) w.tier_in m same-slots keys-now
      (slots-still z img m t same-slots s was-fitting fits-now) marks-now

  pub counters-now : CountersFit z (rewritten z img t j key value) t
  counters-now =
      same-counters z img m t same-slots (rewrite-marks w t (is-tier w)) (rewrite-counters w t (is-tier w))
      (w.sound.fits.chunks.tiers_fit s w.segment_in t w.tier_in).counters
