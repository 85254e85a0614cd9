-- The search ends at the live entry with the whole key, or there is none.
use Prim.Native.Nat.{ℕ, ◌<◌}
use mathlib.Core.List.{List, Memᴰ}
use mathlib.Core.Path.{◌≡◌, refl, ap, sym, ◌∙◌}
use mathlib.Core.Logic.{◌≢◌}
use mathlib.Core.Bool.{true, false}
use mathlib.Core.Option.{none, some}
use native.Mathlib.Omega.{arith}
use Rattle.lists.specs.Quantify.{Every}
use Rattle.lists.proofs.Members.{first_in, first-fails, none_first, first-only}
use Rattle.words.specs.Bytes.{same}
use Rattle.words.proofs.Bytes.{same-eq, same_true, same_false}
use Rattle.layout.specs.declared.Shape.{Shape}
use Rattle.layout.specs.Tiers.{IsTier}
use Rattle.layout.specs.Frame.{Image}
use Rattle.chains.specs.Chains.{chain}
use Rattle.chains.proofs.Tiers.{chain-tiers}
use Rattle.entries.specs.declared.Live.{Live}
use Rattle.entries.specs.Keys.{segment_of}
use Rattle.entries.specs.Stored.{key_of}
use Rattle.entries.specs.Live.{slot_at, live_at, live}
use Rattle.entries.proofs.Hashes.{segment-lt}
use Rattle.entries.proofs.LiveLists.{IsLive, in_live, live_in_lem}
use Rattle.search.specs.declared.Found.TheVariants.{At, Absent}
use Rattle.search.specs.Search.{seek_in, search}
use Rattle.search.specs.Rules.{keyAt, SlotsFit}
use Rattle.search.proofs.Finding.{found_at, seek_in-lt}
use Rattle.search.proofs.Landing.{seek-key, lands}
use Rattle.search.proofs.Fitting.{never_both}
use Rattle.sound.specs.Sound.{SoundImage}
use Rattle.sound.proofs.Sound.{sound-image}
use Rattle.edit.specs.Edits.{find}

-- ---- what is found, and what it means that nothing is

module _ (z : Shape) (img key : List ℕ) where
  pub find-live : (e : Live) → find z img key ≡ some e → Memᴰ e (live z img) × (key_of img e.entry ≡ key)
  unfolding find
  find-live e f =
      let r : Memᴰ e (live z img) × (same (key_of img e.entry) key ≡ true) =
      first_in (λ (x : Live). same (key_of img x.entry) key) e (live z img) f in
      (r.0, same_true _ key r.1)

  pub find_none : find z img key ≡ none → Every (live z img) (λ e. key_of img e.entry ≢ key)
  unfolding find
  find_none f e m q =
      let a : same (key_of img e.entry) key ≡ false = first-fails (λ (x : Live). same (key_of img x.entry) key) (live z img) f e m in
      let b : same (key_of img e.entry) key ≡ true = same-eq _ key q in
      absurd (let c : true ≡ false = sym b ∙ a in let h : ◌≡◌ {A = ℕ} 0 1 = cc in omega arith)

module _ (z : Shape) (img : List ℕ) (sound : SoundImage z img) where
  open z use {settings}
  open settings use {segments, slots}

  live-key : (s t j : ℕ) → key_of img (live_at z img s t j).entry ≡ keyAt z img t j
  unfolding live_at keyAt
  live-key s t j = refl

  slots-fit : (s : ℕ) → s < segments → Every (chain z img s) (SlotsFit z img s)
  slots-fit s h t m = (sound.fits.entries.tiers_fit s h t m).slots_fit

  -- the segment of a live entry is that of its key
  pub live-segment : (e : Live) → IsLive z img e → segment_of settings (key_of img e.entry) ≡ e.segment
  live-segment e l =
      let k : key_of img e.entry ≡ keyAt z img e.tier e.slot =
      ap (λ (x : Live). key_of img x.entry) l.is ∙ live-key e.segment e.tier e.slot in
      rw k ((slots-fit e.segment l.segment_in e.tier l.tier_in).full e.slot l.slot_in l.full).hashed.segment_agrees

  -- no two live entries have one key
  pub live-once : (a b : Live) → Memᴰ a (live z img) → Memᴰ b (live z img) → key_of img a.entry ≡ key_of img b.entry → a ≡ b
  live-once a b ma mb e = same_live (live_in_lem z img a ma) (live_in_lem z img b mb)
    where
      same_live : IsLive z img a → IsLive z img b → a ≡ b
      same_live p q =
          let ka : key_of img a.entry ≡ keyAt z img a.tier a.slot =
          ap (λ (x : Live). key_of img x.entry) p.is ∙ live-key a.segment a.tier a.slot in
          let kb : key_of img b.entry ≡ keyAt z img b.tier b.slot =
          ap (λ (x : Live). key_of img x.entry) q.is ∙ live-key b.segment b.tier b.slot in
          let s : a.segment ≡ b.segment = sym (live-segment a p) ∙ ap (segment_of settings) e ∙ live-segment b q in
          let mb' : Memᴰ b.tier (chain z img a.segment) = rw s q.tier_in in
          let r : (a.tier ≡ b.tier) × (a.slot ≡ b.slot) =
          sound.fits.entries.keys_once a.segment p.segment_in a.tier p.tier_in a.slot p.slot_in p.full b.tier mb' b.slot
          q.slot_in q.full (sym ka ∙ e ∙ kb) in
          let t : a.tier ≡ b.tier = r.0 in
          let j : a.slot ≡ b.slot = r.1 in
          p.is ∙ (λ i. live_at z img (s i) (t i) (j i)) ∙ sym q.is

  module _ (key : List ℕ) where
    s : ℕ
    s = segment_of settings key

    pub found-only : (e : Live) → Memᴰ e (live z img) → key_of img e.entry ≡ key → find z img key ≡ some e
    unfolding find
    found-only e m k =
        first-only (λ (x : Live). same (key_of img x.entry) key) e (live z img) m (same-eq _ key k)
        (λ y my t. live-once y e my m (same_true _ key t ∙ sym k))

    pub search-found : (t j : ℕ) → search z img key ≡ At t j → find z img key ≡ some (live_at z img (segment_of settings key) t j)
    unfolding search
    search-found t j e =
        let hs : segment_of settings key < segments = segment-lt sound.fits.valid key in
        let f : (seek_in z img key t ≡ j) × ((slot_at z img t j ≢ 0) × Memᴰ t (chain z img (segment_of settings key))) =
        found_at z img key 0 0 (chain z img (segment_of settings key)) t j e in
        let mt : Memᴰ t (chain z img (segment_of settings key)) = f.1.1 in
        let is : seek_in z img key t ≡ j = f.0 in
        let full : slot_at z img t j ≢ 0 = f.1.0 in
        let im : Image z img = sound-image z img sound in
        let it : IsTier z t = chain-tiers z img sound.fits.chains _ hs t mt in
        let lt : j < slots = rw is at (seek_in-lt z img im.framed key t) in
        let k : keyAt z img t j ≡ key = rw is at (seek-key z img im t it (slots-fit _ hs t mt).some_empty key (rw is full)) in
        found-only (live_at z img (segment_of settings key) t j) (in_live z img _ t j hs mt lt full) (live-key _ t j ∙ k)

    pub search-none : (t j : ℕ) → search z img key ≡ Absent t j → find z img key ≡ none
    unfolding find
    search-none t j e =
        none_first (λ (x : Live). same (key_of img x.entry) key) (live z img)
        (λ x mx. same_false _ key (λ (k : key_of img x.entry ≡ key). absurd (never x (live_in_lem z img x mx) k)))
      where
        never : (x : Live) → IsLive z img x → key_of img x.entry ≡ key → ⊥
        never x l k =
            let kx : key_of img x.entry ≡ keyAt z img x.tier x.slot =
            ap (λ (y : Live). key_of img y.entry) l.is ∙ live-key x.segment x.tier x.slot in
            let f : search z img (keyAt z img x.tier x.slot) ≡ At x.tier x.slot =
            lands z img (sound-image z img sound) x.segment (chain-tiers z img sound.fits.chains _ l.segment_in) (slots-fit _ l.segment_in)
            (sound.fits.entries.keys_once _ l.segment_in)
            (λ u mu. (sound.fits.entries.tiers_fit _ l.segment_in u mu).reached) x.tier l.tier_in x.slot l.slot_in l.full in
            never_both (search z img key) x.tier x.slot t j (ap (search z img) (sym (sym kx ∙ k)) ∙ f) e
