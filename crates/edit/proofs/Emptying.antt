-- The tier that an edit leaves, where the old entry was alone there and elsewhere: which tier goes home.
use Prim.Native.Nat.{ℕ, suc, ◌<◌}
use mathlib.Core.List.{List, [], ◌∷◌, ◌++◌, Memᴰ}
use mathlib.Core.Path.{◌≡◌, refl, ap, sym, ◌∙◌, subst}
use mathlib.Core.Logic.{◌⊎◌, inl, inr, ⊎_elim, ◌≢◌}
use mathlib.Core.Bool.{false}
use mathlib.Core.Option.{Option, none, some}
use native.Mathlib.Omega.{arith}
use lib.ListN.{length}
use Rattle.lists.specs.Cases.{same_or}
use Rattle.words.specs.Bytes.{Bytes}
use Rattle.layout.specs.declared.Shape.{Shape}
use Rattle.layout.specs.Tiers.{IsTier}
use Rattle.chains.specs.Chains.{chain, free_chain}
use Rattle.chains.proofs.AgreeChains.{same-free_chain}
use Rattle.entries.specs.declared.Live.{Live}
use Rattle.entries.specs.Keys.{segment_of}
use Rattle.entries.specs.Live.{full_slots, live}
use Rattle.entries.proofs.LiveLists.{IsLive, live_in_lem}
use Rattle.sound.specs.Sound.{SoundImage}
use Rattle.sound.proofs.Sound.{sound-but}
use Rattle.sound.proofs.AgreeTier.{same_full}
use Rattle.counters.specs.Recount.{settle}
use Rattle.counters.proofs.Recounting.{settle-slots, settle-chain, settle-free}
use Rattle.removal.specs.Removal.{remove_entry}
use Rattle.removal.proofs.Removing.{removal_only, removal_chain, removal_full}
use Rattle.placement.specs.declared.Run.{Run}
use Rattle.placement.specs.declared.Run.TheVariants.{At, Nowhere}
use Rattle.placement.specs.Placement.{place_at}
use Rattle.placement.proofs.Placing.{Places, place-only, place-chain}
use Rattle.unlinking.specs.Unlinking.{unlink_empty}
use Rattle.unlinking.specs.Asking.{CanUnlinkEmpty}
use Rattle.unlinking.specs.GoingHome.{ChainsStay, GoneHome}
use Rattle.unlinking.proofs.Home.{stay_then, gone-home, stays}
use Rattle.edit.specs.Edits.{find, without, removed_entry, remove_image, remove_tiers, tier_of, left, run_of, no_room, place_in, tier_for, taking_tier, entry_in, stored_entry}
use Rattle.edit.specs.Replaced.{Storable}
use Rattle.edit.proofs.Finding.{find-live}
use Rattle.edit.proofs.Without.{without-found, without-sound, without-left, remove-leaves}
use Rattle.edit.proofs.Replacing.{live-tier}
use Rattle.edit.proofs.Storing.{placed_image, fits-at, placed-slots, placed-full, placed-chain, placed-free, placed-leaves}
use Rattle.edit.proofs.Roomy.{segment-is, emptied-run, emptied-room, emptied-within}

module _ (z : Shape) (img : List ℕ) (sound : SoundImage z img) (key : List ℕ) (e : Live) (f : find z img key ≡ some e) where
  m : Memᴰ e (live z img)
  m = (find-live z img key e f).0

  found : IsLive z img e
  found = live_in_lem z img e m

  is-tier : IsTier z e.tier
  is-tier = live-tier z img sound e found

  -- ---- the image without the entry

  pub without-stay : ChainsStay z img (without z img key)
  without-stay =
      rw (without-found z img sound key e f)
      (record {
        segments = removal_chain z img (sound-but z img sound) e m;
        free = same-free_chain z img (remove_entry z img e) sound.fits.chains (removal_only z img (sound-but z img sound) e m).chains;
      })

  -- ---- after a removal, before the tier goes

  abbrev settled : List ℕ
  settled = settle z (without z img key) (remove_tiers z img key)

  settled-stay : ChainsStay z img settled
  settled-stay =
      record {
        segments = λ q hq.
            settle-chain z (remove_tiers z img key) (without z img key) (without-sound z img sound key) (without-left z img sound key) q hq
            ∙ without-stay.segments q hq;
        free =
            settle-free z (remove_tiers z img key) (without z img key) (without-sound z img sound key) (without-left z img sound key)
            ∙ without-stay.free;
      }

  -- one entry less
  settled-full : suc (length (full_slots z settled e.tier)) ≡ length (full_slots z img e.tier)
  settled-full =
      let same : full_slots z settled e.tier ≡ full_slots z (without z img key) e.tier =
      same_full z (without z img key) settled e.tier
      (settle-slots z (remove_tiers z img key) (without z img key) (without-sound z img sound key) (without-left z img sound key) e.tier is-tier) in
      let out : full_slots z (without z img key) e.tier ≡ full_slots z (remove_entry z img e) e.tier =
      ap (λ (i : List ℕ). full_slots z i e.tier) (without-found z img sound key e f) in
      omega (arith, ap length same, ap length out, removal_full z img (sound-but z img sound) e m)

  removed-is : remove_image z img key ≡ unlink_empty z settled e.tier
  unfolding remove_image removed_entry without
  removed-is = ap (λ (o : Option Live). unlink_empty z settled (tier_of o)) f

  settled-sound : SoundImage z settled
  settled-sound = (remove-leaves z img sound key).sound

  -- ---- the removal

  module _ (alone : length (full_slots z img e.tier) ≡ 1) (extra : z.settings.segments < e.tier) where
    still_in : Memᴰ e.tier (chain z settled e.segment)
    still_in = subst (Memᴰ e.tier) (sym (settled-stay.segments e.segment found.segment_in)) found.tier_in

    pub removal_home : (xs : List ℕ) × (ys : List ℕ) × GoneHome z img (remove_image z img key) e.segment e.tier xs ys
    removal_home =
        let g : (xs : List ℕ) × (ys : List ℕ) × GoneHome z settled (unlink_empty z settled e.tier) e.segment e.tier xs ys =
        gone-home z settled e.segment e.tier settled-sound extra found.segment_in still_in (omega (arith, settled-full, alone)) in
        (g.0, g.1, rw removed-is (stay_then found.segment_in settled-stay g.2))

  pub removal_stays : (z.settings.segments < e.tier → length (full_slots z img e.tier) ≢ 1) → ChainsStay z img (remove_image z img key)
  removal_stays more =
      let same : remove_image z img key ≡ settled =
      removed-is ∙ stays z settled e.segment e.tier settled-sound (λ h q. more h (omega (arith, settled-full, q))) in
      rw same settled-stay

  -- ---- a store that does not stay on the spot

  module _ (value : List ℕ) (w : Storable z img key value) (key_bytes : Bytes key) (value_bytes : Bytes value)
      (alone : length (full_slots z img e.tier) ≡ 1) (extra : z.settings.segments < e.tier) where
    none_left : length (full_slots z (remove_entry z img e) e.tier) ≡ 0
    none_left = omega (arith, removal_full z img (sound-but z img sound) e m, alone)

    room : no_room z img key value ≡ false
    room = emptied-room z img sound key value e f none_left w.value_fits

    abbrev img₁ : List ℕ
    img₁ = without z img key

    abbrev after : List ℕ
    after = placed_image z img key value

    leaves : CanUnlinkEmpty z after (tier_of (find z img key))
    leaves = placed-leaves z img key value w key_bytes value_bytes room

    stored_is : stored_entry z img key value none ≡ unlink_empty z after e.tier
    unfolding stored_entry entry_in
    stored_is = ap (λ (o : Option Live). unlink_empty z after (tier_of o)) f

    module _ (u c : ℕ) (run : run_of z img₁ key value ≡ At u c) where
      p : Places z img₁ (left (find z img key)) (segment_of z.settings key) u c key value
      p = fits-at z img key value w key_bytes value_bytes u c run

      placed-is : place_in z img₁ key value (run_of z img₁ key value) ≡ place_at z img₁ u c key value
      unfolding place_in
      placed-is = rw run

      taken-by : taking_tier z img key value ≡ u
      taken-by = rw run

      after-stay : ChainsStay z img after
      after-stay =
          record {
            segments = λ q hq.
                placed-chain z img key value w key_bytes value_bytes room q hq
                ∙ ap (λ (i : List ℕ). chain z i q) placed-is
                ∙ place-chain p q hq
                ∙ without-stay.segments q hq;
            free =
                placed-free z img key value w key_bytes value_bytes room
                ∙ ap (free_chain z) placed-is
                ∙ same-free_chain z img₁ (place_at z img₁ u c key value) p.sound.fits.chains (place-only p).chains
                ∙ without-stay.free;
          }

      -- its own tier takes it, and stays
      own-takes : u ≡ e.tier → ChainsStay z img (stored_entry z img key value none)
      own-takes q =
          let full : length (full_slots z after e.tier) ≢ 0 =
          subst (λ (i : ℕ). length (full_slots z after i) ≢ 0) (taken-by ∙ q) (placed-full z img key value w key_bytes value_bytes room) in
          rw (stored_is ∙ stays z after e.segment e.tier leaves.sound (λ h. full)) after-stay

      -- another takes it, which stands before it, and it goes home
      other-takes : u ≢ e.tier → (xs : List ℕ) × (ys : List ℕ)
          × (Memᴰ u xs × GoneHome z img (stored_entry z img key value none) e.segment e.tier xs ys)
      other-takes ne =
          let others : full_slots z after e.tier ≡ full_slots z img₁ e.tier =
          same_full z img₁ after e.tier
          (placed-slots z img key value w key_bytes value_bytes room e.tier is-tier (λ q. ne (sym taken-by ∙ sym q))) in
          let out : full_slots z img₁ e.tier ≡ full_slots z (remove_entry z img e) e.tier =
          ap (λ (i : List ℕ). full_slots z i e.tier) (without-found z img sound key e f) in
          let still : Memᴰ e.tier (chain z after e.segment) =
          subst (Memᴰ e.tier) (sym (after-stay.segments e.segment found.segment_in)) found.tier_in in
          let g : (xs : List ℕ) × (ys : List ℕ) × GoneHome z after (unlink_empty z after e.tier) e.segment e.tier xs ys =
          gone-home z after e.segment e.tier leaves.sound extra found.segment_in still (ap length others ∙ ap length out ∙ none_left) in
          let home : GoneHome z img (stored_entry z img key value none) e.segment e.tier g.0 g.1 =
          rw stored_is (stay_then found.segment_in after-stay g.2) in
          let own : chain z img (segment_of z.settings key) ≡ g.0 ++ (e.tier ∷ g.1) =
          ap (chain z img) (sym (segment-is z img sound key value e f)) ∙ home.was in
          let within : Memᴰ u (g.0 ++ (e.tier ∷ [])) =
          emptied-within z img sound key value e f none_left w.value_fits g.0 g.1 own u c run in (
            g.0,
            g.1,
            (⊎_elim (λ k. k) (λ k. absurd (ne (mathlib.Core.List.Memᴰ.eq_of_singleton k))) (mathlib.Core.List.Memᴰ.append_cases g.0 within), home),
          )

    -- what is claimed of the tier that takes it
    abbrev Takes : ℕ → Type 0
    Takes u = ((xs : List ℕ) × (ys : List ℕ) × (Memᴰ u xs × GoneHome z img (stored_entry z img key value none) e.segment e.tier xs ys))
        ⊎ ((u ≡ e.tier) × ChainsStay z img (stored_entry z img key value none))

    takes-by : (r : Run) → run_of z img₁ key value ≡ r → Takes (tier_for z img₁ r)
    takes-by (At u c) run = ⊎_elim (λ q. inr (q, own-takes u c run q)) (λ ne. inl (other-takes u c run ne)) (same_or u e.tier)
    takes-by Nowhere run = absurd (emptied-run z img sound key value e f none_left w.value_fits run)

    pub store-home : ((xs : List ℕ) × (ys : List ℕ)
        × (Memᴰ (taking_tier z img key value) xs × GoneHome z img (stored_entry z img key value none) e.segment e.tier xs ys))
        ⊎ ((taking_tier z img key value ≡ e.tier) × ChainsStay z img (stored_entry z img key value none))
    store-home = takes-by (run_of z img₁ key value) refl
