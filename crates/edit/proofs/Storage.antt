-- What the code of a store knows at each step, by the scan's answer.
use Prim.Native.Nat.{ℕ, ◌<◌}
use mathlib.Core.List.{List}
use mathlib.Core.Path.{◌≡◌, refl, ap, ap₂, sym, ◌∙◌}
use mathlib.Core.Logic.{◌≢◌}
use mathlib.Core.Bool.{true, false}
use native.Mathlib.Omega.{arith}
use lib.ListN.{length}
use borrow.Author.Tests.{eq-eqb, ne_eqb}
use Rattle.words.specs.Bytes.{Bytes}
use Rattle.layout.specs.declared.Shape.{Shape}
use Rattle.layout.specs.Tiers.{IsTier}
use Rattle.layout.specs.declared.Global.TheVariants.{UsedTiers as usedTiers}
use Rattle.layout.specs.Places.{get, global}
use Rattle.chains.specs.Chains.{free_head}
use Rattle.entries.specs.Keys.{segment_of}
use Rattle.entries.proofs.Sizes.{chunks-pos}
use Rattle.entries.specs.Stored.{chunks_for}
use Rattle.entries.proofs.Hashes.{segment-lt}
use Rattle.search.specs.Search.{first_empty}
use Rattle.sound.specs.Sound.{SoundWith, SoundImage, SoundBut}
use Rattle.counters.specs.Recount.{settle, touched}
use Rattle.placement.specs.declared.Old.{Old}
use Rattle.placement.specs.declared.Run.TheVariants.{At, Nowhere}
use Rattle.placement.specs.declared.walk.Walk.{Walk}
use Rattle.placement.specs.declared.walk.EntryPlace.{EntryPlace}
use Rattle.placement.specs.Asking.{KnownFor, CanScanRest, CanWalk}
use Rattle.placement.specs.Walking.{PlaceIs, PlaceAfter}
use Rattle.placement.specs.Placement.{place_at}
use Rattle.placement.proofs.Walking.{rest-asks}
use Rattle.std.proofs.lemmas.Option.{none-some, IfSome_then}
use Rattle.std.proofs.Common.{Option}
use Rattle.placement.specs.OldEntry.{IsOtherTier}
use Rattle.placement.proofs.Before.{Places, is-tier, can-place}
use Rattle.joining.specs.Joining.{join}
use Rattle.joining.proofs.Ends.{new-tier, used-small}
use Rattle.edit.specs.declared.Policy.TheVariants.{Tight}
use Rattle.unlinking.specs.Unlinking.{unlink_empty}
use Rattle.edit.specs.Edits.{find, without, left, run_of, no_room, place_in, tier_of, on_the_spot, entry_in, stored_entry, store_image}
use Rattle.edit.specs.Replaced.{old_of, OldFits, without_old, placed_old, replaced_old, extended_old, Stores, Storable, Walks, Replaces, Extends}
use Rattle.edit.proofs.Without.{without-sound, without-room, without-head}
use Rattle.edit.proofs.Replacing.{sound-framed, sound-tiers, sound-lows, found-old, old-fits, without_old-is, touched-is, home-is, leaves-is, other-is}
use Rattle.edit.proofs.Scanning.{scan-is}
use Rattle.edit.proofs.Storing.{placed_image, fits-at, fits-free, placed-leaves}
use Rattle.edit.proofs.Staying.{free_stays}
use Rattle.layout.specs.Frame.{most_tiers}

-- what the walk along the key's chain asks for
pub walk-asks : {z : Shape} {img key value : List ℕ} {n : ℕ} → Storable z img key value → n ≡ chunks_for z.settings (length key) (length value)
    → CanWalk z img key n
walk-asks {z} {img} {key} {value} w e =
    let hs : segment_of z.settings key < z.settings.segments = segment-lt w.sound.fits.valid key in
    record {
      framed = sound-framed z img w.sound;
      tiers_of = sound-tiers z img w.sound (segment_of z.settings key) hs;
      low_marks = sound-lows z img w.sound (segment_of z.settings key) hs;
      some =
          rw e
          (chunks-pos z.settings (length key) (length value) (omega (arith, w.key_fits.not_longer)) (omega (arith, w.value_fits.not_longer))
          w.sound.fits.valid);
      old_ends = IfSome_then _ {P = OldFits z} (old-fits z img w.sound key _ (found-old z img w.sound key)) (λ o f. f.range_ends);
    }

-- what the scan of the tiers that are left asks for, after the walk
pub rest-scans : {z : Shape} {img key value : List ℕ} {w : Walk} {n : ℕ} → Walks z img key value w n → CanScanRest z img w.old w.passed n
rest-scans {z} {img} {key} {value} {n = n} w = rest-asks z img key n w.walked (walk-asks w.storable w.chunks_is)

-- a sound image with a free tier uses fewer than the most
used-few : {C : Type 0} (z : Shape) (img : List ℕ) → SoundWith C z img → (s : ℕ) → s < z.settings.segments → free_head z img ≢ 0
    → get z img (global usedTiers) < most_tiers
used-few z img sound s hs ne = omega (arith, used-small z img s hs sound.fits.chains ne, sound.fits.frame.tier_count)

-- what the tight store knows once it has its place
pub record Scanned (z : Shape) (img key value : List ℕ) (n : ℕ) (p : EntryPlace) : Type 0 where
  pub storable : Storable z img key value
  pub key_bytes : Bytes key
  pub value_bytes : Bytes value
  pub chunks_is : n ≡ chunks_for z.settings (length key) (length value)
  pub place_is : PlaceIs z img key n p

pub scanned : {z : Shape} {img key value : List ℕ} {w : Walk} {n : ℕ} {p : EntryPlace} → Walks z img key value w n → Bytes key → Bytes value
    → PlaceAfter z img n w p → Scanned z img key value n p
scanned {key = key} w kb vb after =
    record { storable = w.storable; key_bytes = kb; value_bytes = vb; chunks_is = w.chunks_is; place_is = after key w.walked }

module _ {z : Shape} {img key value : List ℕ} {n : ℕ} {p : EntryPlace} (w : Scanned z img key value n p) where
  open z use {settings}
  open settings use {segments, chunks}

  sound : SoundImage z img
  sound = w.storable.sound

  -- the image without the key's entry
  abbrev img₁ : List ℕ
  img₁ = without z img key

  abbrev old : Option Old
  old = p.old

  old-of : old ≡ old_of (find z img key)
  old-of = w.place_is.old_is ∙ found-old z img sound key

  run_is : p.run ≡ run_of z img₁ key value
  run_is = scan-is z img sound key value old-of w.chunks_is w.place_is.run_is

  sound₁ : SoundBut z img₁ (left (find z img key))
  sound₁ = without-sound z img sound key

  old-is : without_old z img old ≡ img₁
  old-is = without_old-is z img sound key old old-of

  hs : segment_of settings key < segments
  hs = segment-lt sound.fits.valid key

  -- ---- no tier takes it, and none is free

  pub no_room_lem : (head : ℕ) → p.run ≡ Nowhere → head ≡ free_head z img → head ≡ 0 → Stores Tight z img key value false img
  unfolding no_room
  no_room_lem head f eh e0 = (rw (← run_is, f) (eq-eqb (free_head z img₁) 0 (without-head z img sound key ∙ sym eh ∙ e0)), refl)

  -- ---- a tier of the chain takes it

  module _ (t c : ℕ) (f : p.run ≡ At t c) where
    fits : Places z img₁ (left (find z img key)) (segment_of settings key) t c key value
    fits = fits-at z img key value w.storable w.key_bytes w.value_bytes t c (sym run_is ∙ f)

    -- the slot is known in another tier than the old entry's, and there no slot was moved
    slot-known : KnownFor z img₁ t key p.slot
    slot-known j e =
        let there : (j ≡ first_empty z img key t) × IsOtherTier old t = w.place_is.slot_is t c j f e in
        there.0 ∙ sym (without-room z img sound key t (is-tier fits) (other-is z img sound key old old-of t (is-tier fits) there.1.1))

    -- the counters have followed
    placed_at : placed_old z img old t c key value ≡ placed_image z img key value
    unfolding placed_old place_in
    placed_at =
        ap₂ (λ (x us : List ℕ). settle z (place_at z x t c key value) us) old-is (touched-is z img sound key old old-of t)
        ∙ rw (← run_is, f)

    some-room : no_room z img key value ≡ false
    unfolding no_room
    some-room = rw (← run_is, f)

    pub run-replaces : Replaces z img old t c p.slot key value
    run-replaces =
        record {
          framed = sound-framed z img sound;
          old_fits = old-fits z img sound key old old-of;
          places = rw old-is (can-place fits slot-known);
          leaves =
              leaves-is z img sound key old old-of _
              (rw placed_at (placed-leaves z img key value w.storable w.key_bytes w.value_bytes some-room));
        }

    pub run-stored : {y : List ℕ} → y ≡ replaced_old z img old t c key value → Stores Tight z img key value true y
    unfolding store_image stored_entry entry_in on_the_spot replaced_old
    run-stored ey = (some-room, ey ∙ home-is z img sound key old old-of _ ∙ ap (λ (x : List ℕ). unlink_empty z x (tier_of (find z img key))) placed_at)

  -- ---- the first free tier takes it

  module _ (head s : ℕ) (f : p.run ≡ Nowhere) (eh : head ≡ free_head z img) (ne : head ≢ 0) (es : s ≡ segment_of settings key) where
    head-is : head ≡ free_head z img₁
    head-is = eh ∙ sym (without-head z img sound key)

    some-free : free_head z img₁ ≢ 0
    some-free q = ne (head-is ∙ q)

    head-tier : IsTier z (free_head z img₁)
    head-tier = new-tier z img₁ (segment_of settings key) hs sound₁.fits.chains some-free

    pub free-extends : Extends z img old s head key value
    free-extends =
        record {
          framed = sound-framed z img sound;
          old_fits = old-fits z img sound key old old-of;
          places =
              rw (old-is, head-is, es)
              (can-place (fits-free z img key value w.storable w.key_bytes w.value_bytes some-free) (λ j e. absurd (none-some j e)));
          joins = rw (old-is, es) (record {
            follows = record {
              framed = sound-framed z img₁ sound₁;
              segment_in = hs;
              tiers_of = sound-tiers z img₁ sound₁ (segment_of settings key) hs;
            };
            free_in = head-tier;
            few_used = used-few z img₁ sound₁ (segment_of settings key) hs some-free;
          });
        }

    free-room : no_room z img key value ≡ false
    unfolding no_room
    free-room = rw (← run_is, f) (ne_eqb (free_head z img₁) 0 some-free)

    joined_at : extended_old z img old s head key value
        ≡ settle z (place_at z (join z img₁ (segment_of settings key)) (free_head z img₁) 0 key value)
        (touched (free_head z img₁) (tier_of (find z img key)))
    unfolding extended_old
    joined_at =
        ap₂ (λ (x us : List ℕ). settle z (place_at z (join z x s) head 0 key value) us) old-is (touched-is z img sound key old old-of head)
        ∙ ap₂ (λ (q t : ℕ). settle z (place_at z (join z img₁ q) t 0 key value) (touched t (tier_of (find z img key)))) es head-is

    pub free-stored : {y : List ℕ} → y ≡ extended_old z img old s head key value → Stores Tight z img key value true y
    unfolding store_image stored_entry entry_in on_the_spot place_in
    free-stored ey = (
      free-room,
      ey
          ∙ joined_at
          ∙ sym (free_stays z img key value w.storable w.key_bytes w.value_bytes (sym run_is ∙ f) some-free free-room)
          ∙ rw (← run_is, f),
    )
