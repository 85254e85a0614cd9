-- A store that does not stay on the spot, and for which the row of 10 does not hold: the image is sound, and has the new key and record beside all other keys.
use Prim.Native.Nat.{ℕ, ◌+◌, ◌≤◌, ◌<◌}
use mathlib.Core.List.Memᴰ
use mathlib.Core.List.{List, ◌∷◌, Memᴰ}
use mathlib.Core.Path.{◌≡◌, refl, ap, sym, ◌∙◌, subst}
use mathlib.Core.Logic.{◌≢◌, ⊎_elim}
use mathlib.Core.Bool.{true, false, not, ◌||◌}
use mathlib.Core.Option.{Option, none, some}
use native.Mathlib.Omega.{arith}
use lib.Dec.{eqb}
use lib.ListN.{length}
use borrow.Author.Tests.{eq-eqb, ne_eqb, eqb-true, eqb-false}
use Rattle.lists.specs.Cases.{same_or, by-test}
use Rattle.lists.specs.Lists.{those, total}
use Rattle.lists.specs.Quantify.{Every}
use Rattle.words.specs.Bytes.{Bytes, same}
use Rattle.layout.specs.declared.Shape.{Shape}
use Rattle.layout.specs.Tiers.{IsTier}
use Rattle.chains.specs.Chains.{chain, free_head, free_chain}
use Rattle.chains.proofs.Chained.{IsChained}
use Rattle.entries.specs.declared.Live.{Live}
use Rattle.entries.specs.Keys.{segment_of}
use Rattle.entries.specs.Stored.{chunks_for}
use Rattle.entries.specs.Live.{full_slots}
use Rattle.entries.proofs.Hashes.{segment-lt}
use Rattle.chunks.specs.Chunks.{clear}
use Rattle.entries.specs.Pairs.{Pair, pairs_of}
use Rattle.sound.specs.Sound.{SoundImage, SoundBut}
use Rattle.counters.specs.Recount.{settle, touched}
use Rattle.sound.proofs.Sound.{but-more}
use Rattle.sound.proofs.AgreeTier.{SameSlots, SameTier, SameCounters, same_full}
use Rattle.counters.specs.LowMarks.{LowKept, LowMarks}
use Rattle.counters.proofs.Recounting.{settle-sound, settle-pairs, settle-slots, settle-chain, settle-free, settle-chained}
use Rattle.counters.proofs.LowMarks.{low_same, low-then, low-only, chained-tier, settle-lows, lows-then}
use Rattle.placement.specs.declared.Run.{Run}
use Rattle.placement.specs.declared.Run.TheVariants.{At, Nowhere}
use Rattle.placement.specs.Runs.{run_for, full_in}
use Rattle.placement.specs.Placement.{place_at}
use Rattle.placement.proofs.Running.{run-found}
use Rattle.placement.proofs.Placing.{Places, place-only, place-sound, place-chain, place-pairs, place-full}
use Rattle.joining.specs.Joining.{join}
use Rattle.joining.proofs.Joined.{join-sound, join-tiers, join-stays, join_in, join-pairs, join-empty, join-clear, join-absent}
use Rattle.unlinking.specs.Asking.{CanUnlinkEmpty}
use Rattle.unlinking.proofs.Leaving.{leaving-sound, leaving-pairs, leaving-tiers}
use Rattle.edit.specs.Edits.{find, without, run_of, nowhere_to_go, no_room, left, place_in, tier_for, taking_tier, tier_of, tiers_by, entry_in, stored_entry}
use Rattle.edit.specs.Replaced.{Storable}
use Rattle.edit.proofs.Without.{left-tier, without-sound, without-left, without-lows, without-pairs, without-absent}
use Rattle.edit.proofs.Replacing.{found-tier}

-- a store that does not stay on the spot, once the counters have followed and before a tier goes
abbrev pub placed_image : Shape → List ℕ → List ℕ → List ℕ → List ℕ
placed_image z img key value =
    settle z (place_in z (without z img key) key value (run_of z (without z img key) key value)) (tiers_by z img key value none)

-- ---- the tiers that a store changes

module _ (t : ℕ) where
  touched-more : (o : Option Live) → ((e : Live) → o ≡ some e → e.tier ≢ 0) → (u : ℕ) → Memᴰ u (t ∷ left o)
      → Memᴰ u (touched t (tier_of o))
  unfolding touched
  touched-more none ne u m = m
  touched-more (some e) ne u m =
      ⊎_elim
      (λ (q : e.tier ≡ t).
      rw (ne_eqb e.tier 0 (ne e refl), eq-eqb e.tier t q, touched)
      (⊎_elim (λ (k : u ≡ t). Memᴰ.head k) (λ k. Memᴰ.head (Memᴰ.eq_of_singleton k ∙ q)) (Memᴰ.cases_cons m)))
      (λ (q : e.tier ≢ t). rw (ne_eqb e.tier 0 (ne e refl), ne_eqb e.tier t q, touched) m)
      (same_or e.tier t)

  touched_in : (o : Option Live) (u : ℕ) → Memᴰ u (touched t (tier_of o)) → Memᴰ u (t ∷ left o)
  unfolding touched
  touched_in none u m = m
  touched_in (some e) u m =
      by-test (eqb e.tier 0 || eqb e.tier t)
      (λ b. Memᴰ.head (Memᴰ.eq_of_singleton (rw (b, touched) at m)))
      (λ b. rw (b, touched) at m)

module _ (z : Shape) (img : List ℕ) (key value : List ℕ) (w : Storable z img key value) (key_bytes : Bytes key) (value_bytes : Bytes value) where
  open z use {settings}
  open settings use {segments, slots, chunks}

  sound : SoundImage z img
  sound = w.sound

  abbrev img₁ : List ℕ
  img₁ = without z img key

  abbrev gone : List ℕ
  gone = left (find z img key)

  abbrev s : ℕ
  s = segment_of settings key

  abbrev n : ℕ
  n = chunks_for settings (length key) (length value)

  sound₁ : SoundBut z img₁ gone
  sound₁ = without-sound z img sound key

  hs : s < segments
  hs = segment-lt sound.fits.valid key

  -- ---- in a tier of the chain

  pub fits-at : (t c : ℕ) → run_of z img₁ key value ≡ At t c → Places z img₁ gone s t c key value
  unfolding run_of run_for
  fits-at t c e =
      let r : Memᴰ t (chain z img₁ s) × (full_in z img₁ t + 2 ≤ slots) × (c + n ≤ chunks)
      × ((i : ℕ) → c ≤ i → i < c + n → clear z img₁ t i ≡ true) =
      run-found z (full_in z img₁) (clear z img₁) (chain z img₁ s) n t c e in
      record {
        segment_in = hs;
        sound = sound₁;
        tier_in = r.0;
        key_bytes = key_bytes;
        value_bytes = value_bytes;
        key_fits = w.key_fits;
        value_fits = w.value_fits;
        segment_is = refl;
        roomy = r.1;
        range_ends = r.2;
        clear_run = λ i a b. eqb-true _ 0 (r.3 i a b);
        absent = without-absent z img sound key s hs;
      }

  -- ---- in the first free tier

  pub fits-free : free_head z img₁ ≢ 0 → Places z (join z img₁ s) (free_head z img₁ ∷ gone) s (free_head z img₁) 0 key value
  fits-free ne =
      record {
        segment_in = hs;
        sound = join-sound z img₁ s hs sound₁ ne;
        tier_in = join_in z img₁ s hs sound₁ ne;
        key_bytes = key_bytes;
        value_bytes = value_bytes;
        key_fits = w.key_fits;
        value_fits = w.value_fits;
        segment_is = refl;
        roomy = omega (arith, join-empty z img₁ s hs sound₁ ne, sound.fits.valid.slots);
        range_ends = omega (arith, w.value_fits.not_too_many, sound.fits.valid.mostChunks);
        clear_run = λ i a b. join-clear z img₁ s hs sound₁ ne i (omega (arith, w.value_fits.not_too_many, sound.fits.valid.mostChunks));
        absent = join-absent z img₁ s hs sound₁ ne key (without-absent z img sound key s hs);
      }

  -- ---- either, before the counters follow

  record Placed (img₂ : List ℕ) (t : ℕ) : Type 0 where
    sound_but : SoundBut z img₂ (t ∷ gone)
    chained : Every (t ∷ gone) (IsChained z img₂)
    lows : (u : ℕ) → IsTier z u → (Memᴰ u (t ∷ gone) → ⊥) → LowKept z img img₂ u
    pairs : (F : Pair → ℕ) → total (pairs_of z img₂) F ≡ total (pairs_of z img₁) F + F (record { key = key; value = value })
    slots : (u : ℕ) → IsTier z u → u ≢ t → SameSlots z img₁ img₂ u
    full : length (full_slots z img₂ t) ≢ 0

  -- every tier that was chained is so still
  stays-chained : (img₂ : List ℕ) {but : List ℕ} (t c : ℕ) (p : Places z img₂ but s t c key value) → Every gone (IsChained z img₂)
      → Every (t ∷ gone) (IsChained z (place_at z img₂ t c key value))
  stays-chained img₂ t c p g u m =
      let d : IsChained z img₂ u =
      ⊎_elim
      (λ (e : u ≡ t). (s, (hs, subst (λ (x : ℕ). Memᴰ x (chain z img₂ s)) (sym e) p.tier_in)))
      (λ k. g u k)
      (Memᴰ.cases_cons m) in
      (d.0, (d.1.0, subst (Memᴰ u) (sym (place-chain p d.0 d.1.0)) d.1.1))

  placed : (r : Run) → run_of z img₁ key value ≡ r → nowhere_to_go z img₁ r ≡ false → Placed (place_in z img₁ key value r) (tier_for z img₁ r)
  unfolding place_in
  placed (At t c) e h =
      let p : Places z img₁ gone s t c key value = fits-at t c e in
      record {
        sound_but = place-sound p;
        chained = stays-chained img₁ t c p (without-left z img sound key);
        lows = λ u is out.
            low-then (without-lows z img sound key u is (λ k. out (Memᴰ.tail k))) (low-only (place-only p) is (λ q. out (Memᴰ.head q)));
        pairs = place-pairs p;
        slots = λ u is ne. ((place-only p).others u is ne).slots;
        full = place-full p;
      }
  placed Nowhere e h =
      let ne : free_head z img₁ ≢ 0 = eqb-false _ 0 h in
      let p : Places z (join z img₁ s) (free_head z img₁ ∷ gone) s (free_head z img₁) 0 key value = fits-free ne in
      record {
        sound_but =
            but-more z _ (λ u m. ⊎_elim (λ k. Memᴰ.head k) (λ k. k) (Memᴰ.cases_cons m))
            (place-sound p);
        chained =
            stays-chained (join z img₁ s) (free_head z img₁) 0 p
            (λ u m.
            let d : IsChained z img₁ u = without-left z img sound key u m in
            (d.0, (d.1.0, join-stays z img₁ s hs sound₁ ne d.0 u d.1.0 d.1.1)));
        lows = λ u is out.
            let joined : SameTier z img₁ (join z img₁ s) u × SameCounters z img₁ (join z img₁ s) u = join-tiers z img₁ s hs sound₁ ne u is in
            low-then (without-lows z img sound key u is (λ k. out (Memᴰ.tail k)))
            (low-then (low_same joined.0 joined.1) (low-only (place-only p) is (λ q. out (Memᴰ.head q))));
        pairs = λ F. place-pairs p F
            ∙ ap (λ (k : ℕ). k + F (record { key = key; value = value })) (join-pairs z img₁ s hs sound₁ ne F);
        slots = λ u is nt j h. ((place-only p).others u is nt).slots j h ∙ (join-tiers z img₁ s hs sound₁ ne u is).0.slots j h;
        full = place-full p;
      }

  -- ---- the whole

  module _ (some-room : no_room z img key value ≡ false) where
    abbrev r : Run
    r = run_of z img₁ key value

    done : Placed (place_in z img₁ key value r) (tier_for z img₁ r)
    unfolding no_room
    done = placed r refl some-room

    changed : SoundBut z (place_in z img₁ key value r) (tiers_by z img key value none)
    changed = but-more z _ (touched-more (tier_for z img₁ r) (find z img key) (λ e f. found-tier z img sound key e f)) done.sound_but

    in_chains : Every (tiers_by z img key value none) (IsChained z (place_in z img₁ key value r))
    in_chains u m = done.chained u (touched_in (tier_for z img₁ r) (find z img key) u m)

    abbrev settled : List ℕ
    settled = placed_image z img key value

    -- the tier that takes the entry has one; the slots of all others are those of the image without the old entry
    settle-keeps : (u : ℕ) → IsTier z u → SameSlots z (place_in z img₁ key value r) settled u
    settle-keeps u is = settle-slots z (tiers_by z img key value none) (place_in z img₁ key value r) changed in_chains u is

    pub placed-slots : (u : ℕ) → IsTier z u → u ≢ taking_tier z img key value → SameSlots z (without z img key) (placed_image z img key value) u
    placed-slots u is ne j h = settle-keeps u is j h ∙ done.slots u is ne j h

    pub placed-full : length (full_slots z (placed_image z img key value) (taking_tier z img key value)) ≢ 0
    placed-full e =
        let t : ℕ = taking_tier z img key value in
        let is : IsTier z t = chained-tier z done.sound_but (done.chained t (Memᴰ.head refl)) in
        done.full (sym (ap length (same_full z (place_in z img₁ key value r) settled t (settle-keeps t is))) ∙ e)

    -- the chains are those that placing leaves
    pub placed-chain : (q : ℕ) → q < z.settings.segments
        → chain z (placed_image z img key value) q ≡ chain z (place_in z (without z img key) key value (run_of z (without z img key) key value)) q
    placed-chain = settle-chain z (tiers_by z img key value none) (place_in z img₁ key value r) changed in_chains

    pub placed-free : free_chain z (placed_image z img key value)
        ≡ free_chain z (place_in z (without z img key) key value (run_of z (without z img key) key value))
    placed-free = settle-free z (tiers_by z img key value none) (place_in z img₁ key value r) changed in_chains

    pub placed-leaves : CanUnlinkEmpty z (placed_image z img key value) (tier_of (find z img key))
    placed-leaves =
        record {
          sound = settle-sound z _ (place_in z img₁ key value r) changed in_chains;
          chained = λ ne.
              settle-chained z _ (place_in z img₁ key value r) changed in_chains (tier_of (find z img key))
              (done.chained (tier_of (find z img key)) (Memᴰ.tail (left-tier (find z img key) ne)));
        }

    pub placed-sound : SoundImage z (stored_entry z img key value none)
    unfolding stored_entry entry_in
    placed-sound = leaving-sound z settled (tier_of (find z img key)) placed-leaves

    pub placed-lows : LowMarks z img (stored_entry z img key value none) (tiers_by z img key value none)
    unfolding stored_entry entry_in
    placed-lows =
        lows-then z
        (settle-lows z _ (place_in z img₁ key value r) changed in_chains
        (λ u is out.
        done.lows u is (λ k. out (touched-more (tier_for z img₁ r) (find z img key) (λ e f. found-tier z img sound key e f) u k))))
        (λ u m. chained-tier z changed (in_chains u m))
        (λ u is.
        let stays : SameTier z settled (stored_entry z img key value none) u × SameCounters z settled (stored_entry z img key value none) u =
        leaving-tiers z settled (tier_of (find z img key)) placed-leaves u is in
        low_same stays.0 stays.1)

    pub placed-pairs : (F : Pair → ℕ) → total (pairs_of z (stored_entry z img key value none)) F
        ≡ F (record { key = key; value = value }) + total (those (pairs_of z img) (λ p. not (same p.key key))) F
    unfolding stored_entry entry_in
    placed-pairs F =
        omega (
          arith,
          leaving-pairs z settled (tier_of (find z img key)) placed-leaves F,
          settle-pairs z _ (place_in z img₁ key value r) changed in_chains F,
          done.pairs F,
          without-pairs z img sound key F,
        )
