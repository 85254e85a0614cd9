-- The entry that an edit removes: where the search found it, and the image without it.
use Prim.Native.Nat.{ℕ, ◌+◌, ◌≤◌, ◌<◌}
use mathlib.Core.List.{List}
use mathlib.Core.Path.{◌≡◌, refl, ap, ap₂, sym, ◌∙◌, subst, subst₂}
use mathlib.Core.Logic.{◌≢◌}
use mathlib.Core.Bool.{true, false}
use mathlib.Core.Option.{Option as Maybe, none, some}
use Rattle.std.proofs.Common.{Option, None, Some, IfSome}
use Rattle.std.proofs.lemmas.Option.{none-some, same_Some}
use native.Mathlib.Omega.{arith}
use lib.ListN.{length}
use Rattle.layout.specs.declared.Shape.{Shape}
use Rattle.layout.specs.Tiers.{IsTier}
use Rattle.layout.specs.Frame.{Framed}
use Rattle.lists.specs.Quantify.{Below, Every}
use Rattle.chains.specs.Chains.{chain}
use Rattle.chains.proofs.Tiers.{chain-tiers}
use Rattle.entries.specs.declared.Live.{Live}
use Rattle.entries.specs.Keys.{KeyFits, segment_of}
use Rattle.entries.specs.Stored.{key_of}
use Rattle.entries.specs.Live.{chunk_of, live_at}
use Rattle.entries.proofs.LiveLists.{IsLive, live_in_lem}
use Rattle.search.specs.declared.Found.{Found}
use Rattle.search.specs.declared.Found.TheVariants.{At, Absent}
use Rattle.search.specs.Search.{search, ChainTiers}
use Rattle.search.specs.Rules.{EntryFits, keyAt, chunks_at}
use Rattle.chunks.specs.Chunks.{LowMarkFits}
use Rattle.sound.specs.Sound.{SoundWith, SoundImage}
use Rattle.counters.specs.Recount.{recount, settle, touched, touched_with}
use Rattle.sound.proofs.Sound.{sound-image}
use Rattle.sound.proofs.Marked.{entry-inside}
use Rattle.removal.specs.Removal.{remove_at}
use Rattle.placement.specs.declared.Old.{Old}
use Rattle.placement.specs.OldEntry.{OtherTier, old_at, old_found}
use Rattle.placement.specs.Placement.{place_at}
use Rattle.joining.specs.Joining.{join}
use Rattle.unlinking.specs.Unlinking.{unlink_empty}
use Rattle.unlinking.specs.Asking.{CanUnlinkEmpty}
use Rattle.unlinking.proofs.Emptied.{main-stays}
use Rattle.edit.specs.Edits.{find, without_entry, without, left, removed_entry, remove_image, tier_of}
use Rattle.edit.specs.Replaced.{old_of, without_old, old_tier, old_home, placed_old, replaced_old, extended_old, OldFits, is_there}
use Rattle.edit.proofs.Finding.{find-live, search-found, search-none}
use Rattle.edit.proofs.Without.{remove-leaves}

-- ---- removed, or there is none

module _ (z : Shape) (img : List ℕ) where
  pub without_old-none : {old : Option Old} → old ≡ None → img ≡ without_old z img old
  unfolding without_old
  without_old-none e = rw e

  pub without_old-some : {old : Option Old} {o : Old} → old ≡ Some o → remove_at z img o.tier o.slot o.chunk o.chunks ≡ without_old z img old
  unfolding without_old
  without_old-some e = rw e

  pub old_home-none : {old : Option Old} → old ≡ None → img ≡ old_home z img old
  unfolding old_home
  old_home-none e = rw e

  pub old_home-some : {old : Option Old} {o : Old} → old ≡ Some o → unlink_empty z img o.tier ≡ old_home z img old
  unfolding old_home
  old_home-some e = rw e

-- its tier, where it has one
pub tiers_in : (z : Shape) (old : Option Old) → IfSome old (OldFits z) → IfSome (old_tier old) (IsTier z)
tiers_in z None h = tt
tiers_in z (Some o) h = h.tier_in

pub settled_by : (z : Shape) (x : List ℕ) (t : ℕ) (old : Option Old) {y : List ℕ} {u : Option ℕ} → u ≡ old_tier old
    → y ≡ settle z x (touched_with t u) → y ≡ settle z x (touched_with t (old_tier old))
settled_by z x t old e h = h ∙ ap (λ (o : Option ℕ). settle z x (touched_with t o)) e

-- the steps of a store, where the code has the image after each
module _ (z : Shape) (img : List ℕ) (old : Option Old) where
  pub placed-is : (t c : ℕ) (key value : List ℕ) {one two three : List ℕ} → one ≡ without_old z img old → two ≡ place_at z one t c key value
      → three ≡ settle z two (touched_with t (old_tier old)) → three ≡ placed_old z img old t c key value
  unfolding placed_old
  placed-is t c key value e₁ e₂ e₃ =
      e₃ ∙ ap (λ (x : List ℕ). settle z x (touched_with t (old_tier old))) (e₂ ∙ ap (λ (x : List ℕ). place_at z x t c key value) e₁)

  pub replaced-is : (t c : ℕ) (key value : List ℕ) {three four : List ℕ} → three ≡ placed_old z img old t c key value
      → four ≡ old_home z three old → four ≡ replaced_old z img old t c key value
  unfolding replaced_old
  replaced-is t c key value e₃ e₄ = e₄ ∙ ap (λ (x : List ℕ). old_home z x old) e₃

  pub extended-is : (s t : ℕ) (key value : List ℕ) {one two three four : List ℕ} → one ≡ without_old z img old → two ≡ join z one s
      → three ≡ place_at z two t 0 key value → four ≡ settle z three (touched_with t (old_tier old)) → four ≡ extended_old z img old s t key value
  unfolding extended_old
  extended-is s t key value e₁ e₂ e₃ e₄ =
      e₄ ∙ ap (λ (x : List ℕ). settle z x (touched_with t (old_tier old)))
      (e₃ ∙ ap (λ (x : List ℕ). place_at z x t 0 key value) (e₂ ∙ ap (λ (x : List ℕ). join z x s) e₁))

module _ (z : Shape) (img : List ℕ) {C : Type 0} (sound : SoundWith C z img) where
  pub sound-framed : Framed z (length img)
  sound-framed = (sound-image z img sound).framed

  pub sound-tiers : ChainTiers z img
  sound-tiers = chain-tiers z img sound.fits.chains

module _ (z : Shape) (img : List ℕ) (sound : SoundImage z img) where
  open z use {settings}
  open settings use {segments, slots, chunks, mostChunks}

  pub sound-lows : Below segments (λ s. Every (chain z img s) (LowMarkFits z img))
  sound-lows s h t m = (sound.fits.chunks.tiers_fit s h t m).counters.low_mark

  -- a live entry's tier, slot and chunks
  pub live-tier : (e : Live) → IsLive z img e → IsTier z e.tier
  live-tier e l = sound-tiers z img sound e.segment l.segment_in e.tier l.tier_in

  live-fits : (e : Live) → IsLive z img e → EntryFits z img e.segment e.tier e.slot
  live-fits e l = (sound.fits.entries.tiers_fit e.segment l.segment_in e.tier l.tier_in).slots_fit.full e.slot l.slot_in l.full

  live-chunks : (e : Live) → IsLive z img e → e.chunks ≡ chunks_at z img e.tier e.slot
  unfolding live_at
  live-chunks e l = ap (λ (x : Live). x.chunks) l.is

  pub live-range : (e : Live) → IsLive z img e → e.chunk + e.chunks ≤ chunks
  unfolding live_at
  live-range e l =
      let c : e.chunk ≡ chunk_of z img e.tier e.slot = ap (λ (x : Live). x.chunk) l.is in
      omega (arith, c, live-chunks e l, (live-fits e l).range_ends)

  -- no more chunks than an entry may cover
  pub live-most : (e : Live) → IsLive z img e → e.chunks ≤ mostChunks
  live-most e l = omega (arith, live-chunks e l, (live-fits e l).value_fits.not_too_many)

  -- its record stands within the image, and its key is as long as keys are
  pub live-value : (e : Live) → IsLive z img e → e.entry.valueAt + e.entry.valueLength ≤ length img
  unfolding live_at
  live-value e l =
      subst (λ (x : Live). x.entry.valueAt + x.entry.valueLength ≤ length img) (sym l.is)
      (entry-inside z img e.segment e.tier e.slot (sound-image z img sound) (live-tier e l) (live-fits e l)).1

  pub live-key-fits : (e : Live) → IsLive z img e → KeyFits settings (key_of img e.entry)
  unfolding live_at keyAt
  live-key-fits e l = subst (λ (x : Live). KeyFits settings (key_of img x.entry)) (sym l.is) (live-fits e l).key_fits

  module _ (key : List ℕ) where
    found-live : (e : Live) → find z img key ≡ some e → IsLive z img e
    found-live e f = live_in_lem z img e (find-live z img key e f).0

    -- its tier is one, so not 0
    pub found-tier : (e : Live) → find z img key ≡ some e → e.tier ≢ 0
    found-tier e f q = let t : IsTier z e.tier = live-tier e (found-live e f) in omega (arith, t)

    -- ---- by what is found

    fits_by : (o : Maybe Live) → find z img key ≡ o → IfSome (old_of o) (OldFits z)
    unfolding old_of
    fits_by none f = tt
    fits_by (some e) f =
        let l : IsLive z img e = found-live e f in
        record { tier_in = live-tier e l; slot_in = l.slot_in; range_ends = live-range e l }

    out-by : (o : Maybe Live) → without_old z img (old_of o) ≡ without_entry z img o
    unfolding old_of without_old without_entry
    out-by none = refl
    out-by (some e) = refl

    touched-by : (t : ℕ) (o : Maybe Live) → touched_with t (old_tier (old_of o)) ≡ touched t (tier_of o)
    unfolding old_of touched
    touched-by t none = refl
    touched-by t (some e) = refl

    home-by : (x : List ℕ) (o : Maybe Live) → old_home z x (old_of o) ≡ unlink_empty z x (tier_of o)
    unfolding old_of old_home
    home-by x none = sym (main-stays z x 0 (omega arith))
    home-by x (some e) = refl

    leaves-by : (x : List ℕ) (o : Maybe Live) → CanUnlinkEmpty z x (tier_of o) → IfSome (old_of o) (λ a. CanUnlinkEmpty z x a.tier)
    unfolding old_of
    leaves-by x none h = tt
    leaves-by x (some e) h = h

    other-by : (t : ℕ) (o : Maybe Live) → IsTier z t → OtherTier (old_of o) t → t ≢ tier_of o
    unfolding old_of
    other-by t none is h = λ (q : t ≡ 0). omega (arith, is)
    other-by t (some e) is h = h

    tier-by : (a : Old) (o : Maybe Live) → Some a ≡ old_of o → a.tier ≡ tier_of o
    unfolding old_of
    tier-by a none q = absurd (none-some a (sym q))
    tier-by a (some e) q = ap (λ (x : Old). x.tier) (same_Some _ _ q)

    none-by : (o : Maybe Live) → None ≡ old_of o → (false ≡ is_there o) × (img ≡ removed_entry z img o)
    unfolding old_of removed_entry without_entry settle
    none-by none q = (refl, sym (main-stays z img 0 (omega arith)))
    none-by (some e) q = absurd (none-some _ q)

    some-by : (a : Old) (o : Maybe Live) → Some a ≡ old_of o
        → (true ≡ is_there o) × (recount z (without_entry z img o) (tier_of o) ≡ settle z (without_entry z img o) (left o))
    unfolding old_of settle
    some-by a none q = absurd (none-some a (sym q))
    some-by a (some e) q = (refl, refl)

    module _ (old : Option Old) (is : old ≡ old_of (find z img key)) where
      pub old-fits : IfSome old (OldFits z)
      old-fits = subst (λ (o : Option Old). IfSome o (OldFits z)) (sym is) (fits_by (find z img key) refl)

      pub without_old-is : without_old z img old ≡ without z img key
      unfolding without
      without_old-is = ap (without_old z img) is ∙ out-by (find z img key)

      pub touched-is : (t : ℕ) → touched_with t (old_tier old) ≡ touched t (tier_of (find z img key))
      touched-is t = ap (λ (o : Option Old). touched_with t (old_tier o)) is ∙ touched-by t (find z img key)

      pub home-is : (x : List ℕ) → old_home z x old ≡ unlink_empty z x (tier_of (find z img key))
      home-is x = ap (old_home z x) is ∙ home-by x (find z img key)

      pub leaves-is : (x : List ℕ) → CanUnlinkEmpty z x (tier_of (find z img key)) → IfSome old (λ a. CanUnlinkEmpty z x a.tier)
      leaves-is x h = subst (λ (o : Option Old). IfSome o (λ a. CanUnlinkEmpty z x a.tier)) (sym is) (leaves-by x (find z img key) h)

      pub other-is : (t : ℕ) → IsTier z t → OtherTier old t → t ≢ tier_of (find z img key)
      other-is t it h = other-by t (find z img key) it (subst (λ (o : Option Old). OtherTier o t) is h)

      -- a removal, where there is none and where there is one
      pub removes-none : old ≡ None → (false ≡ is_there (find z img key)) × (img ≡ remove_image z img key)
      unfolding remove_image
      removes-none q = none-by (find z img key) (sym q ∙ is)

      module _ (a : Old) (q : old ≡ Some a) where
        pub some-fits : OldFits z a
        some-fits = rw q at old-fits

        its-tier : a.tier ≡ tier_of (find z img key)
        its-tier = tier-by a (find z img key) (sym q ∙ is)

        module _ {x y : List ℕ} (ex : x ≡ without_old z img (Some a)) (ey : y ≡ recount z x a.tier) where
          settled : y ≡ settle z (without z img key) (left (find z img key))
          unfolding without
          settled =
              ey ∙ ap₂ (recount z) (ex ∙ ap (without_old z img) (sym q) ∙ without_old-is) its-tier
              ∙ (some-by a (find z img key) (sym q ∙ is)).1

          pub removes-leaves : CanUnlinkEmpty z y a.tier
          removes-leaves = subst₂ (CanUnlinkEmpty z) (sym settled) (sym its-tier) (remove-leaves z img sound key)

          pub removes-some : {i : List ℕ} → i ≡ unlink_empty z y a.tier → (true ≡ is_there (find z img key)) × (i ≡ remove_image z img key)
          unfolding remove_image removed_entry without
          removes-some ei = ((some-by a (find z img key) (sym q ∙ is)).0, ei ∙ ap₂ (unlink_empty z) settled its-tier)

    -- ---- by the search

    found-by : (r : Found) → search z img key ≡ r → old_found z img r ≡ old_of (find z img key)
    unfolding old_found old_of live_at
    found-by (At t j) e = rw (search-found z img sound key t j e)
    found-by (Absent t j) e = rw (search-none z img sound key t j e)

    pub found-old : old_found z img (search z img key) ≡ old_of (find z img key)
    found-old = found-by (search z img key) refl

    module _ (r : Found) (e : r ≡ search z img key) (t j : ℕ) where
      pub old-absent : r ≡ Absent t j → None ≡ old_of (find z img key)
      unfolding old_found
      old-absent f = found-by (Absent t j) (sym e ∙ f)

      module _ (f : r ≡ At t j) where
        pub old_in : IsTier z t × (j < slots)
        unfolding live_at
        old_in =
            let l : IsLive z img (live_at z img (segment_of settings key) t j) =
            found-live (live_at z img (segment_of settings key) t j) (search-found z img sound key t j (sym e ∙ f)) in
            (live-tier (live_at z img (segment_of settings key) t j) l, l.slot_in)

        pub old-found : {old : Old} → old ≡ old_at z img t j → Some old ≡ old_of (find z img key)
        unfolding old_found
        old-found eo = ap (λ (o : Old). Some o) eo ∙ found-by (At t j) (sym e ∙ f)
