-- A store for which a free tier joins: the tier that the old entry left has another entry, so no tier goes home.
use Prim.Native.Nat.{ℕ, ◌≤◌, ◌<◌}
use mathlib.Core.List.Memᴰ
use mathlib.Core.List.{List}
use mathlib.Core.Path.{◌≡◌, refl, ap, sym, ◌∙◌}
use mathlib.Core.Logic.{⊎_elim, ◌≢◌}
use mathlib.Core.Bool.{false}
use mathlib.Core.Option.{Option, none, some}
use native.Mathlib.Omega.{arith}
use lib.ListN.{length}
use Rattle.lists.specs.Cases.{lt-or}
use Rattle.words.specs.Bytes.{Bytes}
use Rattle.layout.specs.declared.Shape.{Shape}
use Rattle.layout.specs.Tiers.{IsTier}
use Rattle.chains.specs.Chains.{free_head}
use Rattle.chains.proofs.Chained.{IsChained}
use Rattle.entries.specs.declared.Live.{Live}
use Rattle.entries.specs.Keys.{segment_of}
use Rattle.entries.specs.Live.{full_slots}
use Rattle.entries.proofs.Hashes.{segment-lt}
use Rattle.sound.specs.Sound.{SoundImage}
use Rattle.sound.proofs.AgreeTier.{SameSlots, same_full}
use Rattle.counters.specs.Recount.{settle, touched}
use Rattle.counters.proofs.LowMarks.{chained-tier}
use Rattle.placement.specs.declared.Run.TheVariants.{Nowhere}
use Rattle.placement.specs.Placement.{place_at}
use Rattle.joining.specs.Joining.{join}
use Rattle.joining.proofs.Ends.{not_new}
use Rattle.unlinking.specs.Unlinking.{unlink_empty}
use Rattle.unlinking.proofs.Emptied.{main-stays, full-stays}
use Rattle.edit.specs.Edits.{find, without, run_of, no_room, place_in, tier_of}
use Rattle.edit.specs.Replaced.{Storable}
use Rattle.edit.proofs.Without.{without-found, without-sound, without-left}
use Rattle.edit.proofs.Storing.{placed-slots}
use Rattle.edit.proofs.Roomy.{emptied-run}

module _ (z : Shape) (img : List ℕ) (key value : List ℕ) (w : Storable z img key value) (key_bytes : Bytes key) (value_bytes : Bytes value)
    (nowhere : run_of z (without z img key) key value ≡ Nowhere) (ne : free_head z (without z img key) ≢ 0)
    (some-room : no_room z img key value ≡ false) where
  abbrev img₁ : List ℕ
  img₁ = without z img key

  abbrev s : ℕ
  s = segment_of z.settings key

  abbrev head : ℕ
  head = free_head z img₁

  -- the image once the counters have followed
  abbrev img₂ : List ℕ
  img₂ = settle z (place_at z (join z img₁ s) head 0 key value) (touched head (tier_of (find z img key)))

  sound : SoundImage z img
  sound = w.sound

  hs : s < z.settings.segments
  hs = segment-lt sound.fits.valid key

  -- the slots of the tier that the entry left are those of the image without the entry
  left-slots : (e : Live) → find z img key ≡ some e → SameSlots z img₁ img₂ e.tier
  unfolding place_in
  left-slots e f =
      let c : IsChained z img₁ e.tier = without-left z img sound key e.tier (rw f (Memᴰ.head refl)) in
      let is : IsTier z e.tier = chained-tier z (without-sound z img sound key) c in
      let old : e.tier ≢ head = not_new z img₁ s hs (without-sound z img sound key).fits.chains ne c.0 e.tier c.1.0 c.1.1 in
      rw nowhere at (placed-slots z img key value w key_bytes value_bytes some-room e.tier is (rw nowhere old))

  not-empty : (e : Live) → find z img key ≡ some e → length (full_slots z img₂ e.tier) ≢ 0
  not-empty e f q =
      let before : length (full_slots z img₁ e.tier) ≡ 0 = sym (ap length (same_full z img₁ img₂ e.tier (left-slots e f))) ∙ q in
      emptied-run z img sound key value e f (rw (without-found z img sound key e f) at before) w.value_fits nowhere

  stays_by : (o : Option Live) → find z img key ≡ o → unlink_empty z img₂ (tier_of o) ≡ img₂
  stays_by none f = main-stays z img₂ 0 (omega arith)
  stays_by (some e) f =
      ⊎_elim
      (λ (h : z.settings.segments < e.tier). full-stays z img₂ e.tier h (not-empty e f))
      (λ (h : e.tier ≤ z.settings.segments). main-stays z img₂ e.tier h)
      (lt-or z.settings.segments e.tier)

  pub free_stays : unlink_empty z
      (settle z (place_at z (join z (without z img key) (segment_of z.settings key)) (free_head z (without z img key)) 0 key value)
      (touched (free_head z (without z img key)) (tier_of (find z img key))))
      (tier_of (find z img key))
      ≡ settle z (place_at z (join z (without z img key) (segment_of z.settings key)) (free_head z (without z img key)) 0 key value)
      (touched (free_head z (without z img key)) (tier_of (find z img key)))
  free_stays = stays_by (find z img key) refl
