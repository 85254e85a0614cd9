-- In a sound image the walk ends where the search does.
use Prim.Native.Nat.{ℕ, zero, suc, ◌+◌, ◌-◌, ◌≤◌, ◌<◌}
use mathlib.Core.List.{List, [], ◌∷◌, Memᴰ}
use mathlib.Core.Path.{◌≡◌, refl, ap, sym, ◌∙◌}
use mathlib.Core.Logic.{⊎_elim, ◌≢◌}
use mathlib.Core.Bool.{true, false, false≢true}
use native.Mathlib.Omega.{arith}
use Rattle.std.specs.Prelude.{Option, Some, None}
use lib.Dec.{eqb}
use borrow.Author.Tests.{eqb-true, eqb-false}
use Rattle.lists.specs.Cases.{by-test, same_or}
use Rattle.lists.specs.Quantify.{Every}
use Rattle.layout.specs.declared.Shape.{Shape}
use Rattle.layout.specs.Tiers.{tiers, IsTier, IsExtra}
use Rattle.layout.specs.Places.{chunk_at}
use Rattle.layout.specs.Frame.{Image}
use Rattle.layout.proofs.Chunks.{chunk_inside}
use Rattle.links.proofs.Follow.{follow-none, follow-more, end_more, end-out}
use Rattle.probe.specs.Ring.{next}
use Rattle.chains.specs.Chains.{next_of, follow, end_of, chain, ChainFits}
use Rattle.chains.proofs.Segments.{segments-le, chain-cons, chain-end, extras-of}
use Rattle.chains.proofs.Tiers.{chain-tiers}
use Rattle.entries.specs.declared.Entry.{Entry}
use Rattle.entries.specs.Keys.{segment_of, lookup_key, slot_key}
use Rattle.entries.specs.Stored.{stored, entry_of, chunks_for}
use Rattle.entries.specs.Live.{slot_at, chunk_of, entry_at}
use Rattle.entries.proofs.Whole.{whole-sound, value-ends}
use Rattle.entries.proofs.Hashes.{segment-lt, start-lt}
use Rattle.search.specs.declared.Sought.{Sought}
use Rattle.search.specs.declared.Sought.TheVariants as sought
use Rattle.search.specs.declared.Found.{Found}
use Rattle.search.specs.declared.Found.TheVariants as found
use Rattle.search.specs.Search.{hits, sought_in, search_from, search}
use Rattle.search.specs.Rules.{IsWhole, keyAt, EntryFits, SlotsFit}
use Rattle.search.proofs.Finding.{search-here, search-on, search-end}
use Rattle.search.proofs.Seeking.{Seeking, seek-starts, seek-turns, seek-ends-empty, seek-ends-holds}
use Rattle.sound.specs.Sound.{SoundImage}
use Rattle.sound.proofs.Sound.{sound-image}
use Rattle.sound.proofs.Marked.{entry-long}
use Rattle.std.specs.Prelude.{Some, None, Result, Ok}
use Rattle.walk.specs.declared.Broken.{Broken as WalkBroken}
use Rattle.walk.specs.declared.TierMet.{TierMet}
use Rattle.walk.specs.declared.TierMet.TheVariants as tier
use Rattle.walk.specs.declared.WalkEnd.{WalkEnd}
use Rattle.walk.specs.declared.WalkEnd.TheVariants as end
use Rattle.walk.specs.Walk.{EntryReads, at_slot, over_slots, in_tier, from_tier, walk}
use Rattle.walk.proofs.Testing.{slot-other, slot_same, slot-differs}
use Rattle.walk.proofs.Walking.{slots-empty, slots-holds, slots-pass, tiers-found, tiers-end, tiers-on}

module _ (z : Shape) (img : List ℕ) where
  open z use {settings}
  open settings use {segments, slots, chunks}

  -- what the search finds, with the entry that the walk gives beside it
  abbrev pub tier_met : ℕ → Sought → Result TierMet WalkBroken
  tier_met t (sought.Holds j) = Ok (tier.Holds j (entry_at z img t j))
  tier_met t (sought.Empty j) = Ok (tier.Empty j)

  abbrev pub walk_end : Found → Result WalkEnd WalkBroken
  walk_end (found.At t j) = Ok (end.Found t j (entry_at z img t j))
  walk_end (found.Absent t j) = Ok (end.Absent t j)

  -- ---- an entry that fits passes the tests

  module _ (im : Image z img) (s t j : ℕ) (it : IsTier z t) (f : EntryFits z img s t j) where
    ends_by : (r : Option Entry) → stored z img t (chunk_of z img t j) ≡ r → IsWhole r
        → chunk_of z img t j + chunks_for settings (entry_of r).keyLength (entry_of r).valueLength ≤ chunks
        → (entry_of r).valueAt + (entry_of r).valueLength ≤ chunk_at z t chunks
    ends_by None e w h = absurd w
    ends_by (Some x) e w h =
        omega (
          arith,
          value-ends z img t (chunk_of z img t j) (whole-sound z img t (chunk_of z img t j) x e) im.framed.valid,
          chunk_inside z t (chunk_of z img t j + chunks_for settings x.keyLength x.valueLength) h,
        )

    pub fits-reads : EntryReads z img t (chunk_of z img t j)
    unfolding keyAt entry_at
    fits-reads =
        let long : _ = entry-long z img s t j im it f in
        record {
          chunk_in = f.chunk_in;
          whole = f.whole;
          some_byte = omega (arith, f.key_fits.some_byte, long.0);
          key_not_longer = omega (arith, f.key_fits.not_longer, long.0);
          value_not_longer = f.value_fits.not_longer;
          ends = ends_by (stored z img t (chunk_of z img t j)) refl f.whole f.range_ends;
        }

  -- ---- a full slot of such an entry: the key's exactly where the search hits

  module _ (key : List ℕ) (im : Image z img) (s t : ℕ) (it : IsTier z t) (fits : SlotsFit z img s t) where
    module _ (j : ℕ) (h : j < slots) (full : slot_at z img t j ≢ 0) where
      reads : EntryReads z img t (chunk_of z img t j)
      reads = fits-reads im s t j it (fits.full j h full)

      slot-hit : hits z img key t (slot_at z img t j) ≡ true → at_slot z img key t (slot_at z img t j) ≡ Ok (Some (entry_at z img t j))
      unfolding hits entry_at
      slot-hit e =
          by-test (eqb (slot_key settings (slot_at z img t j)) (lookup_key settings key))
          (λ q. sym (slot_same z img key t (slot_at z img t j) _ refl (eqb-true _ _ q) _ refl refl reads (rw q at e)))
          (λ q. absurd (false≢true (rw q at e)))

      slot-miss : hits z img key t (slot_at z img t j) ≡ false → at_slot z img key t (slot_at z img t j) ≡ Ok None
      unfolding hits
      slot-miss e =
          by-test (eqb (slot_key settings (slot_at z img t j)) (lookup_key settings key))
          (λ q. sym (slot-differs z img key t (slot_at z img t j) _ refl (eqb-true _ _ q) _ refl refl reads (rw q at e)))
          (λ q. sym (slot-other z img key t (slot_at z img t j) _ refl (eqb-false _ _ q)))

    -- ---- one tier

    slots-agree : (left i : ℕ) → Seeking z img key t i left → over_slots z img key t left i ≡ tier_met t (sought_in z img key t)
    slots-agree zero i w =
        let some : _ = fits.some_empty in
        absurd (omega (arith, w.ahead some.0 some.1.0 some.1.1))
    slots-agree (suc left) i w =
        ⊎_elim
        (λ (e : slot_at z img t i ≡ 0).
        slots-empty z img key t left refl i e ∙ ap (tier_met t) (seek-ends-empty z img key t w _ refl e))
        (λ (full : slot_at z img t i ≢ 0).
        by-test (hits z img key t (slot_at z img t i))
        (λ e. slots-holds z img key t left refl i full _ (slot-hit i w.lt full e) ∙ ap (tier_met t) (seek-ends-holds z img key t w _ refl full e))
        (λ e.
        slots-pass z img key t left refl i full (slot-miss i w.lt full e)
        ∙ slots-agree left (next slots i) (turned (seek-turns z img key t w im.framed _ refl full e (omega arith) _ refl))))
        (same_or (slot_at z img t i) 0)
      where
        turned : Seeking z img key t (next slots i) (suc left - 1) → Seeking z img key t (next slots i) left
        turned x = let q : suc left - 1 ≡ left = omega arith in rw q at x

    pub tier-agrees : in_tier z img key t ≡ tier_met t (sought_in z img key t)
    unfolding in_tier
    tier-agrees = slots-agree slots _ (seek-starts z img key t _ _ refl refl (start-lt im.framed.valid _))

  -- ---- a chain of such tiers: t, and extra tiers after it up to 0

  module _ (key : List ℕ) where
    abbrev Agrees : ℕ → Type 0
    Agrees t = in_tier z img key t ≡ tier_met t (sought_in z img key t)

    module _ (n t : ℕ) (same : Agrees t) (u i : ℕ) where
      -- the tier, and what is left of the chain
      chain-step : (next_of z img t ≢ 0 → IsExtra z (next_of z img t))
          → ((j : ℕ) → next_of z img t ≢ 0
          → from_tier z img key n (next_of z img t) ≡ walk_end (search_from z img key t j (follow z img n (next_of z img t))))
          → (r : Sought) → sought_in z img key t ≡ r
          → from_tier z img key (suc n) t ≡ walk_end (search_from z img key u i (t ∷ follow z img n (next_of z img t)))
      chain-step extra rest (sought.Holds j) q =
          tiers-found z img key n refl t j _ (same ∙ ap (tier_met t) q) ∙ ap walk_end (sym (search-here z img key u i t j _ q))
      chain-step extra rest (sought.Empty j) q =
          let met : in_tier z img key t ≡ Ok (tier.Empty j) = same ∙ ap (tier_met t) q in
          let on : search_from z img key u i (t ∷ follow z img n (next_of z img t)) ≡ search_from z img key t j (follow z img n (next_of z img t)) =
          search-on z img key u i t j _ q in
          ⊎_elim
          (λ (e : next_of z img t ≡ 0).
          let none : follow z img n (next_of z img t) ≡ [] = ap (follow z img n) e ∙ follow-none (next_of z img) n in
          tiers-end z img key n refl t j met e
          ∙ ap walk_end (sym (on ∙ ap (search_from z img key t j) none ∙ search-end z img key t j)))
          (λ (more : next_of z img t ≢ 0).
          tiers-on z img key n refl t j met more (extra more) ∙ rest j more ∙ ap walk_end (sym on))
          (same_or (next_of z img t) 0)

    -- extra tiers up to 0
    first-met : (n t : ℕ) → t ≢ 0 → end_of z img n t ≡ 0 → Memᴰ t (follow z img n t)
    first-met zero t ne ends = absurd (ne (sym (end-out (next_of z img) t) ∙ ends))
    first-met (suc n) t ne ends = rw (follow-more (next_of z img) n t ne) (Memᴰ.head refl)

    chain-agrees : (n t u i : ℕ) → t ≢ 0 → end_of z img n t ≡ 0 → Every (follow z img n t) Agrees → Every (follow z img n t) (IsExtra z)
        → from_tier z img key n t ≡ walk_end (search_from z img key u i (follow z img n t))
    chain-agrees zero t u i ne ends same extras = absurd (ne (sym (end-out (next_of z img) t) ∙ ends))
    chain-agrees (suc n) t u i ne ends same extras =
        let cons : follow z img (suc n) t ≡ t ∷ follow z img n (next_of z img t) = follow-more (next_of z img) n t ne in
        let end : end_of z img n (next_of z img t) ≡ 0 = sym (end_more (next_of z img) n t ne) ∙ ends in
        let all : Every (t ∷ follow z img n (next_of z img t)) Agrees = rw cons at same in
        let later : Every (t ∷ follow z img n (next_of z img t)) (IsExtra z) = rw cons at extras in
        rw cons
        (chain-step n t (all t (Memᴰ.head refl)) u i
        (λ more. later (next_of z img t) (Memᴰ.tail (first-met n (next_of z img t) more end)))
        (λ j more.
        chain-agrees n (next_of z img t) t j more end (λ x m. all x (Memᴰ.tail m)) (λ x m. later x (Memᴰ.tail m)))
        (sought_in z img key t) refl)

  -- ---- the whole walk: the main tier, and the extra tiers after it

  module _ (sound : SoundImage z img) (key : List ℕ) where
    abbrev home : ℕ
    home = segment_of settings key

    home_in : home < segments
    home_in = segment-lt sound.fits.valid key

    all-agree : Every (chain z img home) (Agrees key)
    all-agree t m =
        tier-agrees key (sound-image z img sound) home t (chain-tiers z img sound.fits.chains home home_in t m)
        (sound.fits.entries.tiers_fit home home_in t m).slots_fit

    pub walk-search : walk z img key ≡ walk_end (search z img key)
    unfolding walk search
    walk-search =
        let n : ℕ = tiers z - 1 in
        let u : ℕ = next_of z img (suc home) in
        let f : ChainFits z img home = sound.fits.chains.segments_fit home home_in in
        let many : tiers z ≡ suc n = omega (arith, segments-le z img, home_in) in
        let cons : chain z img home ≡ suc home ∷ follow z img n u = chain-cons z img home home_in in
        let ends : end_of z img n u ≡ 0 = sym (chain-end z img home home_in) ∙ f.ends in
        let all : Every (suc home ∷ follow z img n u) (Agrees key) = rw cons at all-agree in
        let extras : Every (follow z img n u) (IsExtra z) = rw (extras-of z img home home_in) at f.extras in
        rw (many, cons)
        (chain-step key n (suc home) (all (suc home) (Memᴰ.head refl)) 0 0
        (λ more. extras u (first-met key n u more ends))
        (λ j more. chain-agrees key n u (suc home) j more ends (λ x m. all x (Memᴰ.tail m)) extras)
        (sought_in z img key (suc home)) refl)
