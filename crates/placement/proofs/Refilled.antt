-- The tier after an entry was written and its slot filled: every full slot has a fitting entry, and every rule holds again.
use Prim.Native.Nat.{ℕ, ◌+◌, ◌≤◌, ◌<◌}
use mathlib.Core.List.{List, Memᴰ}
use mathlib.Core.Path.{◌≡◌, ap, sym, ◌∙◌}
use mathlib.Core.Logic.{◌⊎◌, inl, inr, ⊎_elim, ◌≢◌}
use native.Mathlib.Omega.{arith}
use lib.ListN.{length}
use Rattle.lists.specs.Cases.{same_or, lt-or}
use Rattle.lists.specs.Lists.{how_many}
use Rattle.lists.specs.Quantify.{Below}
use Rattle.layout.specs.declared.Shape.{Shape}
use Rattle.layout.specs.Places.{mark}
use Rattle.chains.specs.Chains.{chain}
use Rattle.entries.specs.declared.Entry.{Entry}
use Rattle.entries.specs.Keys.{slot_chunk}
use Rattle.entries.specs.Stored.{entry_bytes, chunks_for}
use Rattle.entries.specs.Live.{slot_at, chunk_of, live_in}
use Rattle.search.specs.Rules.{keyAt, TierSlotsFit}
use Rattle.chunks.specs.Chunks.{covers}
use Rattle.sound.proofs.Values.{pair_for}
use Rattle.sound.proofs.Replaced.{TierAgain}
use Rattle.placement.proofs.Written.{entry_in_chunks}
use Rattle.placement.proofs.Before.{number_for, Places, can_write, number_fits, number-key, number-chunk, number-rest}
use Rattle.placement.proofs.Filling.{slot-new, slot-old, mark_in, mark-out, bytes-new}
use Rattle.placement.proofs.Inserting.{place, after, writes, place_in, after-good, after-empty, after-total}
use Rattle.placement.proofs.Ranges.{within, within_in, within-out, covers_of, covered-total}
use Rattle.placement.proofs.Kept.{moved, entry_kept}
use Rattle.placement.proofs.Standing.{Stands, stands-entry, stands-pair, stands-key, stands-fits}

module _ {z : Shape} {img but : List ℕ} {s t c : ℕ} {key value : List ℕ} (p : Places z img but s t c key value) where
  open z use {settings}
  open settings use {slots, chunks}

  abbrev n : ℕ
  n = chunks_for settings (length key) (length value)

  abbrev m' : List ℕ
  m' = after z img t c key value

  abbrev r : ℕ
  r = place z img t c key value

  abbrev v : ℕ
  v = number_for z key c

  -- ---- the new slot

  stands : Stands z m' s t r v c key value
  stands =
      record {
        holds = slot-new z img t c n _ (writes p) r v (place_in p) (number_fits p);
        first = number-chunk p;
        rest = number-rest p;
        hashed = record { segment_agrees = p.segment_is; lookup_agrees = sym (number-key p) };
        key_fits = p.key_fits;
        value_fits = p.value_fits;
        range_ends = p.range_ends;
        bytes = bytes-new z img t c n (entry_bytes settings key value) (writes p) r v (place_in p);
        in_chunks = entry_in_chunks (can_write p);
      }

  pub pair-here : pair_for z (after z img t c key value) t (number_for z key c) ≡ record { key = key; value = value }
  pair-here = stands-pair stands

  -- ---- any other full slot is one from before

  was-full : (k : ℕ) → k < slots → k ≢ r → slot_at z m' t k ≢ 0 → slot_at z img t k ≢ 0
  was-full k hk ne f q = f (slot-old z img t c n _ (writes p) r v (place_in p) k hk ne ∙ q)

  -- ---- the rules of slots and entries

  fits_after : TierSlotsFit z m' s t
  fits_after =
      record {
        slots_fit =
            record {
              some_empty = after-empty p;
              full =
                  λ k hk f.
                  ⊎_elim (λ (q : k ≡ r). rw q (stands-fits stands)) (λ (q : k ≢ r). (moved p k hk (was-full k hk q f)).fits) (same_or k r);
            };
        reached = λ j hj fj k hk on. after-good p j k hj hk fj on;
      }

  -- ---- the marks

  marks-after : (i : ℕ) → i < chunks → how_many (live_in z m' s t) (covers i) ≡ mark z m' t i
  marks-after i hi =
      let same : Below slots (λ j. slot_at z img t j ≢ 0 → covers_of z m' t i (slot_at z img t j) ≡ covers_of z img t i (slot_at z img t j)) =
      λ j hj f.
      ap (λ (e : Entry). within (chunk_of z img t j) (chunks_for settings e.keyLength e.valueLength) i)
      (entry_kept p j hj f) in
      let here : covers_of z m' t i v ≡ within c n i =
      ap (λ (e : Entry). within (slot_chunk settings v) (chunks_for settings e.keyLength e.valueLength) i) (stands-entry stands)
      ∙ ap (λ (x : ℕ). within x n i) (number-chunk p) in
      let sum : how_many (live_in z m' s t) (covers i) ≡ mark z img t i + within c n i =
      omega (
        arith,
        covered-total z m' s t i,
        after-total p (covers_of z img t i) (covers_of z m' t i) same,
        covered-total z img s t i,
        p.sound.fits.chunks.marks s p.segment_in t p.tier_in i hi,
      ) in
      let out : (i < c) ⊎ (c + n ≤ i) → mark z m' t i ≡ mark z img t i + within c n i =
      λ o. omega (arith, mark-out z img t c n _ (writes p) r v (place_in p) i hi o, within-out c n i o) in
      sum ∙ sym
      (⊎_elim
      (λ (l : i < c). out (inl l))
      (λ (l : c ≤ i).
      ⊎_elim
      (λ (h : i < c + n).
      omega (
        arith,
        mark_in z img t c n _ (writes p) r v (place_in p) i l h,
        p.clear_run i l h,
        within_in c n i l h,
      ))
      (λ (h : c + n ≤ i). out (inr h))
      (lt-or i (c + n)))
      (lt-or i c))

  -- ---- no key twice

  own-after : (j k : ℕ) → j < slots → k < slots → slot_at z m' t j ≢ 0 → slot_at z m' t k ≢ 0
      → keyAt z m' t j ≡ keyAt z m' t k → j ≡ k
  own-after j k hj hk fj fk e =
      ⊎_elim
      (λ (a : j ≡ r).
      ⊎_elim
      (λ (b : k ≡ r). a ∙ sym b)
      (λ (b : k ≢ r).
      let g : slot_at z img t k ≢ 0 = was-full k hk b fk in
      absurd (p.absent t p.tier_in k hk g (sym (moved p k hk g).key ∙ sym e ∙ ap (keyAt z m' t) a ∙ stands-key stands)))
      (same_or k r))
      (λ (a : j ≢ r).
      let f : slot_at z img t j ≢ 0 = was-full j hj a fj in
      ⊎_elim
      (λ (b : k ≡ r). absurd (p.absent t p.tier_in j hj f (sym (moved p j hj f).key ∙ e ∙ ap (keyAt z m' t) b ∙ stands-key stands)))
      (λ (b : k ≢ r).
      let g : slot_at z img t k ≢ 0 = was-full k hk b fk in
      (p.sound.fits.entries.keys_once s p.segment_in t p.tier_in j hj f t p.tier_in k hk g (sym (moved p j hj f).key ∙ e ∙ (moved p k hk g).key)).1)
      (same_or k r))
      (same_or j r)

  apart-after : (u : ℕ) → Memᴰ u (chain z img s) → u ≢ t → (j k : ℕ) → j < slots → k < slots → slot_at z m' t j ≢ 0
      → slot_at z img u k ≢ 0
      → keyAt z m' t j ≢ keyAt z img u k
  apart-after u mu ne j k hj hk fj fk e =
      ⊎_elim
      (λ (a : j ≡ r). p.absent u mu k hk fk (sym e ∙ ap (keyAt z m' t) a ∙ stands-key stands))
      (λ (a : j ≢ r).
      let f : slot_at z img t j ≢ 0 = was-full j hj a fj in
      ne (sym (p.sound.fits.entries.keys_once s p.segment_in t p.tier_in j hj f u mu k hk fk (sym (moved p j hj f).key ∙ e)).0))
      (same_or j r)

  pub tier-again : TierAgain z img (after z img t c key value) s t
  tier-again = record { fits = fits_after; marks = marks-after; own = own-after; apart = apart-after }
