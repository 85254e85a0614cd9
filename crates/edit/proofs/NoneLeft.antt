-- An edit leaves no extra tier in a segment's chain that it has emptied.
use Prim.Native.Nat.{ℕ, ◌<◌}
use mathlib.Core.List.{List, ◌∷◌, Memᴰ}
use mathlib.Core.Path.{◌≡◌, refl, ap, sym, ◌∙◌, subst}
use mathlib.Core.Logic.{⊎_elim, ◌≢◌}
use mathlib.Core.Bool.{false}
use mathlib.Core.Option.{Option, none, some}
use native.Mathlib.Omega.{arith}
use lib.ListN.{length}
use Rattle.lists.specs.Cases.{same_or}
use Rattle.words.specs.Bytes.{Bytes}
use Rattle.layout.specs.declared.Shape.{Shape}
use Rattle.layout.specs.Tiers.{IsTier, IsExtra}
use Rattle.chains.specs.Chains.{chain, chained, free_chain}
use Rattle.chains.proofs.Chained.{chained_in, free-not-chained}
use Rattle.entries.specs.declared.Live.{Live}
use Rattle.entries.specs.Live.{full_slots, live}
use Rattle.sound.specs.Sound.{SoundImage}
use Rattle.sound.proofs.Sound.{sound-but}
use Rattle.sound.proofs.AgreeTier.{same_full}
use Rattle.counters.specs.Recount.{settle}
use Rattle.counters.proofs.Recounting.{settle-slots}
use Rattle.removal.specs.Removal.{remove_entry}
use Rattle.removal.proofs.Removing.{removal_full, removal_full-other}
use Rattle.unlinking.specs.GoingHome.{GoneHome}
use Rattle.unlinking.proofs.Leaving.{leaving-tiers}
use Rattle.edit.specs.Edits.{find, without_entry, without, removed_entry, remove_image, remove_tiers, tier_of, no_room, taking_tier, entry_in, stored_entry, spot_of, store_image}
use Rattle.edit.specs.declared.Policy.{Policy}
use Rattle.edit.specs.Replaced.{Storable}
use Rattle.placement.proofs.Rewriting.{rewrite-slots}
use Rattle.edit.proofs.Policies.{Spot, spot-only}
use Rattle.edit.proofs.OnTheSpot.{WritesOver, rewrites, spot_is}
use Rattle.edit.proofs.Storing.{placed-sound, placed_image, placed-slots, placed-full, placed-leaves}
use Rattle.edit.proofs.Finding.{find-live}
use Rattle.edit.proofs.Without.{without-sound, without-left, remove-leaves, remove-sound}
use Rattle.edit.proofs.Emptying.{removal_home, store-home}

-- the first free tier is in no segment's chain
home-not-chained : (z : Shape) (img : List ℕ) {t : ℕ} {ts : List ℕ} → SoundImage z img → free_chain z img ≡ t ∷ ts
    → Memᴰ t (chained z img) → ⊥
home-not-chained z img {t} sound free c =
    let there : (s : ℕ) × (s < z.settings.segments) × Memᴰ t (chain z img s) = chained_in z img sound.fits.chains t c in
    free-not-chained z img sound.fits.chains there.0 t t there.1 there.2 (rw free (mathlib.Core.List.Memᴰ.head refl)) refl

-- ---- a removal

module _ (z : Shape) (img : List ℕ) (sound : SoundImage z img) (key : List ℕ) where
  -- every tier's full slots, after the tier has gone or stayed
  removal_full-slots : (t : ℕ) → IsTier z t
      → full_slots z (remove_image z img key) t ≡ full_slots z (without z img key) t
  unfolding remove_image removed_entry without
  removal_full-slots t is =
      let settled : List ℕ = settle z (without z img key) (remove_tiers z img key) in
      same_full z settled (remove_image z img key) t (leaving-tiers z settled (tier_of (find z img key)) (remove-leaves z img sound key) t is).0.slots
      ∙ same_full z (without z img key) settled t
      (settle-slots z (remove_tiers z img key) (without z img key) (without-sound z img sound key) (without-left z img sound key) t is)

  module _ (t : ℕ) (extra : IsExtra z t) (some-before : length (full_slots z img t) ≢ 0) (none_after : length (full_slots z (remove_image z img key) t) ≡ 0)
    where
      is : IsTier z t
      is = omega arith

      removed-none : length (full_slots z (without z img key) t) ≡ 0
      removed-none = sym (ap length (removal_full-slots t is)) ∙ none_after

      removal_left : (o : Option Live) → find z img key ≡ o → Memᴰ t (chained z (remove_image z img key)) → ⊥
      unfolding without without_entry
      removal_left none f c = some-before (rw f at removed-none)
      removal_left (some e) f c =
          let m : Memᴰ e (live z img) = (find-live z img key e f).0 in
          let out : length (full_slots z (remove_entry z img e) t) ≡ 0 = rw f at removed-none in
          ⊎_elim
          (λ (q : t ≡ e.tier).
          let one : length (full_slots z img e.tier) ≡ 1 =
          omega (arith, removal_full z img (sound-but z img sound) e m, ap (λ (i : ℕ). length (full_slots z (remove_entry z img e) i)) q, out) in
          let home : (xs : List ℕ) × (ys : List ℕ) × GoneHome z img (remove_image z img key) e.segment e.tier xs ys =
          removal_home z img sound key e f one (omega (arith, extra.0, q)) in
          home-not-chained z _ (remove-sound z img sound key) (home.2.free ∙ ap (λ (i : ℕ). i ∷ free_chain z img) (sym q)) c)
          (λ (ne : t ≢ e.tier). some-before (sym (removal_full-other z img (sound-but z img sound) e m t is ne) ∙ out))
          (same_or t e.tier)

      pub removal_leaves-none : Memᴰ t (chained z (remove_image z img key)) → ⊥
      removal_leaves-none = removal_left (find z img key) refl

-- ---- a store

module _ (policy : Policy) (z : Shape) (img key value : List ℕ) (w : Storable z img key value) (key_bytes : Bytes key) (value_bytes : Bytes value)
    (room : no_room z img key value ≡ false) (t : ℕ) (extra : IsExtra z t) (some-before : length (full_slots z img t) ≢ 0) where
  is-tier : IsTier z t
  is-tier = omega arith

  -- on the spot no slot changes
  spot-left : (e : Live) → WritesOver z img key value e → length (full_slots z (stored_entry z img key value (some e)) t) ≢ 0
  spot-left e over none_after =
      let same : full_slots z (stored_entry z img key value (some e)) t ≡ full_slots z img t =
      rw (spot_is over) (same_full z img _ t (λ k h. rewrite-slots (rewrites over) t k is-tier h)) in
      some-before (sym (ap length same) ∙ none_after)

  -- ---- else

  module _ (none_after : length (full_slots z (stored_entry z img key value none) t) ≡ 0) where
    abbrev placed : List ℕ
    placed = placed_image z img key value

    none-placed : length (full_slots z placed t) ≡ 0
    unfolding stored_entry entry_in
    none-placed =
        sym (ap length (same_full z placed (stored_entry z img key value none) t
        (leaving-tiers z placed (tier_of (find z img key)) (placed-leaves z img key value w key_bytes value_bytes room) t is-tier).0.slots))
        ∙ none_after

    not-taking : t ≢ taking_tier z img key value
    not-taking q = placed-full z img key value w key_bytes value_bytes room (subst (λ (i : ℕ). length (full_slots z placed i) ≡ 0) q none-placed)

    none_out : length (full_slots z (without z img key) t) ≡ 0
    none_out =
        sym (ap length (same_full z (without z img key) placed t (placed-slots z img key value w key_bytes value_bytes room t is-tier not-taking)))
        ∙ none-placed

    placed-left : (o : Option Live) → find z img key ≡ o → Memᴰ t (chained z (stored_entry z img key value none)) → ⊥
    unfolding without without_entry
    placed-left none f c = some-before (rw f at none_out)
    placed-left (some e) f c =
        let m : Memᴰ e (live z img) = (find-live z img key e f).0 in
        let out : length (full_slots z (remove_entry z img e) t) ≡ 0 = rw f at none_out in
        ⊎_elim
        (λ (q : t ≡ e.tier).
        let one : length (full_slots z img e.tier) ≡ 1 =
        omega (arith, removal_full z img (sound-but z img w.sound) e m, ap (λ (i : ℕ). length (full_slots z (remove_entry z img e) i)) q, out) in
        ⊎_elim
        (λ home.
        home-not-chained z _ (placed-sound z img key value w key_bytes value_bytes room)
        (home.2.1.free ∙ ap (λ (i : ℕ). i ∷ free_chain z img) (sym q)) c)
        (λ own. not-taking (q ∙ sym own.0))
        (store-home z img w.sound key e f value w key_bytes value_bytes one (omega (arith, extra.0, q))))
        (λ (ne : t ≢ e.tier). some-before (sym (removal_full-other z img (sound-but z img w.sound) e m t is-tier ne) ∙ out))
        (same_or t e.tier)

  store-left : (o : Option Live) → spot_of policy z img key value ≡ o → length (full_slots z (stored_entry z img key value o) t) ≡ 0
      → Memᴰ t (chained z (stored_entry z img key value o)) → ⊥
  store-left none q none_after c = placed-left none_after (find z img key) refl c
  store-left (some e) q none_after c =
      let s : Spot policy _ _ e = spot-only policy _ _ e q in
      absurd
      (spot-left e (record { storable = w; key_bytes = key_bytes; value_bytes = value_bytes; is_found = s.found; as_many = s.as_many }) none_after)

  pub store-leaves-none : length (full_slots z (store_image policy z img key value) t) ≡ 0
      → Memᴰ t (chained z (store_image policy z img key value)) → ⊥
  unfolding store_image
  store-leaves-none = store-left (spot_of policy z img key value) refl
