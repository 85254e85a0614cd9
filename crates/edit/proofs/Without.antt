-- The image without the key's entry, if there is one: sound but for the counters of the tier that it left, without the key, and with all else.
use Prim.Native.Nat.{ℕ, ◌≤◌, ◌<◌}
use mathlib.Core.List.{List, [], Memᴰ}
use mathlib.Core.Path.{◌≡◌, refl, ap, sym, ◌∙◌, subst}
use mathlib.Core.Logic.{◌≢◌}
use mathlib.Core.Bool.{true, false, not}
use mathlib.Core.Option.{Option, none, some}
use native.Mathlib.Omega.{arith}
use Rattle.lists.specs.Lists.{those, total}
use Rattle.lists.specs.Quantify.{Below, Every}
use Rattle.lists.proofs.Totals.{total-same, total-zero, total-at, those-total}
use Rattle.words.specs.Bytes.{same}
use Rattle.words.proofs.Bytes.{same-eq, same_false}
use Rattle.layout.specs.declared.Shape.{Shape}
use Rattle.layout.specs.Tiers.{IsTier}
use Rattle.chains.specs.Chains.{chain, free_head}
use Rattle.chains.proofs.Chained.{IsChained}
use Rattle.entries.specs.declared.Live.{Live}
use Rattle.entries.specs.Stored.{key_of}
use Rattle.entries.specs.Live.{slot_at, live_at, live}
use Rattle.entries.proofs.LiveLists.{in_live}
use Rattle.entries.proofs.Hashes.{start-lt}
use Rattle.probe.proofs.Search.{room-same}
use Rattle.search.specs.Search.{slots_of, first_empty}
use Rattle.search.specs.Rules.{keyAt}
use Rattle.entries.specs.Pairs.{Pair, pair_of, pairs_of}
use Rattle.sound.specs.Sound.{SoundImage, SoundBut}
use Rattle.sound.proofs.Sound.{sound-but}
use Rattle.counters.specs.LowMarks.{LowKept, LowMarks}
use Rattle.counters.specs.Recount.{settle}
use Rattle.counters.proofs.Recounting.{settle-sound, settle-pairs, settle-chained}
use Rattle.counters.proofs.LowMarks.{low_same, low-stays, low-only, chained-tier, settle-lows, lows-then}
use Rattle.sound.proofs.KeyCounts.{with_key, keys-once, pair-live, live-pair}
use Rattle.removal.specs.Removal.{remove_entry}
use Rattle.removal.proofs.Removing.{removal_only, removal_sound, removal_tier, removal_pairs, removal_head}
use Rattle.unlinking.specs.Asking.{CanUnlinkEmpty}
use Rattle.unlinking.proofs.Leaving.{leaving-sound, leaving-pairs, leaving-tiers}
use Rattle.sound.proofs.AgreeTier.{SameTier, SameCounters}
use Rattle.edit.specs.Edits.{find, without_entry, without, left, removed_entry, remove_image, remove_tiers, tier_of}
use Rattle.edit.proofs.Finding.{find-live, find_none}

-- ---- a key's weight

pub with-own : (key : List ℕ) (p : Pair) → p.key ≡ key → with_key key p ≡ 1
unfolding with_key
with-own key p e = rw (same-eq p.key key e, with_key)

pub with-other : (key : List ℕ) (p : Pair) → p.key ≢ key → with_key key p ≡ 0
unfolding with_key
with-other key p n = rw (same_false p.key key n, with_key)

-- F, but 0 for this key
abbrev others : List ℕ → (Pair → ℕ) → Pair → ℕ
others key F p = elim (not (same p.key key)) [ true ↦ F p | false ↦ 0 ]

others-own : (key : List ℕ) (F : Pair → ℕ) (p : Pair) → p.key ≡ key → others key F p ≡ 0
others-own key F p e = rw (same-eq p.key key e, others)

others-other : (key : List ℕ) (F : Pair → ℕ) (p : Pair) → p.key ≢ key → others key F p ≡ F p
others-other key F p n = rw (same_false p.key key n, others)

-- a tier that an entry leaves is one of those that it leaves
pub left-tier : (o : Option Live) → tier_of o ≢ 0 → Memᴰ (tier_of o) (left o)
left-tier none ne = absurd (ne refl)
left-tier (some e) ne = mathlib.Core.List.Memᴰ.head refl

module _ (z : Shape) (img : List ℕ) (sound : SoundImage z img) (key : List ℕ) where
  every : SoundBut z img []
  every = sound-but z img sound

  -- ---- by what is found

  entry-sound : (o : Option Live) → find z img key ≡ o → SoundBut z (without_entry z img o) (left o)
  unfolding without_entry
  entry-sound none f = every
  entry-sound (some e) f = removal_sound z img every e (find-live z img key e f).0

  entry-lows : (o : Option Live) → find z img key ≡ o → (u : ℕ) → IsTier z u → (Memᴰ u (left o) → ⊥)
      → LowKept z img (without_entry z img o) u
  unfolding without_entry
  entry-lows none f u is out = low-stays
  entry-lows (some e) f u is out = low-only (removal_only z img every e (find-live z img key e f).0) is (λ q. out (mathlib.Core.List.Memᴰ.head q))

  entry-slots : (o : Option Live) → find z img key ≡ o → (t : ℕ) → IsTier z t → t ≢ tier_of o
      → Below z.settings.slots (λ j. slot_at z (without_entry z img o) t j ≡ slot_at z img t j)
  unfolding without_entry
  entry-slots none f t is ne = λ j h. refl
  entry-slots (some e) f t is ne = ((removal_only z img every e (find-live z img key e f).0).others t is ne).slots

  entry-left : (o : Option Live) → find z img key ≡ o → Every (left o) (IsChained z (without_entry z img o))
  unfolding without_entry
  entry-left none f t m = absurd (mathlib.Core.List.Memᴰ.not-nil m)
  entry-left (some e) f t m =
      subst (IsChained z (remove_entry z img e)) (sym (mathlib.Core.List.Memᴰ.eq_of_singleton m)) (removal_tier z img every e (find-live z img key e f).0)

  entry_key : (o : Option Live) → find z img key ≡ o → total (pairs_of z (without_entry z img o)) (with_key key) ≡ 0
  unfolding without_entry
  entry_key none f =
      total-same (pairs_of z img) (λ _. 0) (with_key key)
      (λ p m.
      let r : (e : Live) × Memᴰ e (live z img) × (p ≡ pair_of img e) = pair-live z img p m in
      with-other key p (λ (q : p.key ≡ key). find_none z img key f r.0 r.1 (ap (λ (x : Pair). x.key) (sym r.2) ∙ q)))
      ∙ total-zero (pairs_of z img)
  entry_key (some e) f =
      let r : Memᴰ e (live z img) × (key_of img e.entry ≡ key) = find-live z img key e f in
      omega (arith, removal_pairs z img every e r.0 (with_key key), with-own key (pair_of img e) r.1, keys-once z img sound key)

  entry-others : (F : Pair → ℕ) (o : Option Live) → find z img key ≡ o
      → total (pairs_of z (without_entry z img o)) (others key F) ≡ total (pairs_of z img) (others key F)
  unfolding without_entry
  entry-others F none f = refl
  entry-others F (some e) f =
      let r : Memᴰ e (live z img) × (key_of img e.entry ≡ key) = find-live z img key e f in
      omega (arith, removal_pairs z img every e r.0 (others key F), others-own key F (pair_of img e) r.1)

  entry-head : (o : Option Live) → find z img key ≡ o → free_head z (without_entry z img o) ≡ free_head z img
  unfolding without_entry
  entry-head none f = refl
  entry-head (some e) f = removal_head z img every e (find-live z img key e f).0

  -- ---- the whole

  pub without-found : (e : Live) → find z img key ≡ some e → without z img key ≡ remove_entry z img e
  unfolding without without_entry
  without-found e f = rw f

  pub without-sound : SoundBut z (without z img key) (left (find z img key))
  unfolding without
  without-sound = entry-sound (find z img key) refl

  pub without-left : Every (left (find z img key)) (IsChained z (without z img key))
  unfolding without
  without-left = entry-left (find z img key) refl

  -- tiers that it does not leave keep their bits and their lowest free chunk field
  pub without-lows : (u : ℕ) → IsTier z u → (Memᴰ u (left (find z img key)) → ⊥) → LowKept z img (without z img key) u
  unfolding without
  without-lows = entry-lows (find z img key) refl

  -- nor does their first empty slot move
  pub without-room : (t : ℕ) → IsTier z t → t ≢ tier_of (find z img key) → first_empty z (without z img key) key t ≡ first_empty z img key t
  unfolding without
  without-room t is ne =
      room-same (slots_of z t) _ (start-lt sound.fits.valid _) (without z img key) img (entry-slots (find z img key) refl t is ne)

  pub without-key : total (pairs_of z (without z img key)) (with_key key) ≡ 0
  unfolding without
  without-key = entry_key (find z img key) refl

  pub without-head : free_head z (without z img key) ≡ free_head z img
  unfolding without
  without-head = entry-head (find z img key) refl

  without-others : (F : Pair → ℕ) → total (pairs_of z (without z img key)) (others key F) ≡ total (pairs_of z img) (others key F)
  unfolding without
  without-others F = entry-others F (find z img key) refl

  -- no pair has the key
  not_there : (p : Pair) → Memᴰ p (pairs_of z (without z img key)) → p.key ≢ key
  not_there p m e =
      let h : with_key key p ≤ total (pairs_of z (without z img key)) (with_key key) = total-at (with_key key) p (pairs_of z (without z img key)) m in
      omega (arith, without-key, with-own key p e)

  pub without-pairs : (F : Pair → ℕ) → total (pairs_of z (without z img key)) F ≡ total (those (pairs_of z img) (λ p. not (same p.key key))) F
  without-pairs F =
      sym (total-same (pairs_of z (without z img key)) F (others key F) (λ p m. others-other key F p (not_there p m)))
      ∙ without-others F
      ∙ sym (those-total (λ (p : Pair). not (same p.key key)) F (pairs_of z img))

  -- no slot of a chain stands for the key
  pub without-absent : (s : ℕ) → s < z.settings.segments → (u : ℕ) → Memᴰ u (chain z (without z img key) s) → (k : ℕ)
      → k < z.settings.slots
      → slot_at z (without z img key) u k ≢ 0 → keyAt z (without z img key) u k ≢ key
  unfolding keyAt live_at
  without-absent s hs u mu k hk fk e =
      not_there (pair_of (without z img key) (live_at z (without z img key) s u k))
      (live-pair z (without z img key) (live_at z (without z img key) s u k) (in_live z (without z img key) s u k hs mu hk fk)) e

  -- ---- after a removal the counters have followed, and the tier has gone home if it is empty

  abbrev settled : List ℕ
  settled = settle z (without z img key) (remove_tiers z img key)

  pub remove-leaves : CanUnlinkEmpty z (settle z (without z img key) (remove_tiers z img key)) (tier_of (find z img key))
  remove-leaves =
      record {
        sound = settle-sound z (remove_tiers z img key) (without z img key) without-sound without-left;
        chained = λ ne.
            settle-chained z (remove_tiers z img key) (without z img key) without-sound without-left (tier_of (find z img key))
            (without-left (tier_of (find z img key)) (left-tier (find z img key) ne));
      }

  pub remove-sound : SoundImage z (remove_image z img key)
  unfolding remove_image removed_entry without
  remove-sound = leaving-sound z settled (tier_of (find z img key)) remove-leaves

  pub remove-lows : LowMarks z img (remove_image z img key) (remove_tiers z img key)
  unfolding remove_image removed_entry without
  remove-lows =
      lows-then z (settle-lows z (remove_tiers z img key) (without z img key) without-sound without-left without-lows)
      (λ u m. chained-tier z without-sound (without-left u m))
      (λ u is.
      let stays : SameTier z settled (remove_image z img key) u × SameCounters z settled (remove_image z img key) u =
      leaving-tiers z settled (tier_of (find z img key)) remove-leaves u is in
      low_same stays.0 stays.1)

  pub remove-pairs : (F : Pair → ℕ) → total (pairs_of z (remove_image z img key)) F ≡ total (those (pairs_of z img) (λ p. not (same p.key key))) F
  unfolding remove_image removed_entry without
  remove-pairs F =
      leaving-pairs z settled (tier_of (find z img key)) remove-leaves F
      ∙ settle-pairs z (remove_tiers z img key) (without z img key) without-sound without-left F
      ∙ without-pairs F
