-- No key stands twice in a sound image, and its pairs are those of its live entries.
use Prim.Native.Nat.{ℕ, ◌+◌, ◌≤◌, ◌<◌}
use mathlib.Core.List.Memᴰ
use mathlib.Core.List.{List, Memᴰ}
use mathlib.Core.Path.{◌≡◌, sym, ◌∙◌, subst}
use mathlib.Core.Logic.{⊎_elim, ◌≢◌}
use mathlib.Core.Bool.{true, false}
use native.Mathlib.Omega.{arith}
use lib.Dec.{eqb}
use borrow.Author.Tests.{eqb-false}
use Rattle.lists.specs.Cases.{by-test, same_or}
use Rattle.lists.specs.Lists.{total}
use Rattle.words.specs.Bytes.{same}
use Rattle.words.proofs.Bytes.{same_true}
use Rattle.layout.specs.declared.Shape.{Shape}
use Rattle.chains.specs.Chains.{chain, chained}
use Rattle.probe.proofs.Table.{slot_total-found, slot_total-once}
use Rattle.entries.specs.declared.Live.{Live}
use Rattle.entries.specs.Keys.{segment_of}
use Rattle.entries.specs.Live.{slot_at, entry_at, live}
use Rattle.search.specs.Search.{slots_of}
use Rattle.search.specs.Rules.{keyAt}
use Rattle.entries.specs.Pairs.{Pair, pair_of, pairs_of}
use Rattle.sound.specs.Sound.{SoundImage}
use Rattle.sound.proofs.Values.{pair_for, if_full, weigh}
use Rattle.lists.proofs.Totals.{total-change, total-zero, total-some}
use Rattle.sound.proofs.Sums.{pairs-total}
use Rattle.chains.proofs.Chained.{chained-once, chained_in}

-- 1 for a pair with this key, 0 for another
unfoldable pub with_key : List ℕ → Pair → ℕ
with_key key p = elim (same p.key key) [ true ↦ 1 | false ↦ 0 ]

with-le : (key : List ℕ) (p : Pair) → with_key key p ≤ 1
unfolding with_key
with-le key p = by-test (same p.key key) (λ t. rw (t, with_key) (omega arith)) (λ t. rw (t, with_key) (omega arith))

with-found : (key : List ℕ) (p : Pair) → 0 < with_key key p → p.key ≡ key
unfolding with_key
with-found key p h =
    by-test (same p.key key)
    (λ t. same_true p.key key t)
    (λ t. let k : 0 < 0 = rw (t, with_key) at h in absurd (omega arith))

-- ---- a key in an image

module _ (z : Shape) (img : List ℕ) (sound : SoundImage z img) (key : List ℕ) where
  open z use {settings}
  open settings use {segments, slots}

  -- slot j of tier t, in segment s's chain, stands for the key
  record Holds (s t j : ℕ) : Type 0 where
    segment_in : s < segments
    tier_in : Memᴰ t (chain z img s)
    slot_in : j < slots
    full : slot_at z img t j ≢ 0
    key-is : keyAt z img t j ≡ key

  holds-segment : {s t j : ℕ} → Holds s t j → segment_of settings key ≡ s
  holds-segment {s} {t} {j} h =
      rw (← h.key-is) ((sound.fits.entries.tiers_fit s h.segment_in t h.tier_in).slots_fit.full j h.slot_in h.full).hashed.segment_agrees

  holds-once : {s t j s' t' j' : ℕ} → Holds s t j → Holds s' t' j' → (t ≡ t') × (j ≡ j')
  holds-once {s} {t} {j} {s'} {t'} {j'} h h' =
      let e : s' ≡ s = sym (holds-segment h') ∙ holds-segment h in
      sound.fits.entries.keys_once s h.segment_in t h.tier_in j h.slot_in h.full t'
      (subst (λ (x : ℕ). Memᴰ t' (chain z img x)) e h'.tier_in) j' h'.slot_in h'.full
      (h.key-is ∙ sym h'.key-is)

  -- what a slot's number adds
  abbrev adds : ℕ → ℕ → ℕ
  adds t = if_full (λ v. with_key key (pair_for z img t v))

  adds-le : (t v : ℕ) → adds t v ≤ 1
  unfolding if_full
  adds-le t v =
      by-test (eqb v 0)
      (λ e. rw (e, if_full) (omega arith))
      (λ e. rw (e, if_full) (with-le key (pair_for z img t v)))

  adds-full : (t v : ℕ) → 0 < adds t v → (v ≢ 0) × (0 < with_key key (pair_for z img t v))
  unfolding if_full
  adds-full t v h =
      by-test (eqb v 0)
      (λ e. let k : 0 < 0 = rw (e, if_full) at h in absurd (omega arith))
      (λ e. (eqb-false v 0 e, rw (e, if_full) at h))

  adds-holds : (s t j : ℕ) → s < segments → Memᴰ t (chain z img s) → j < slots → 0 < adds t (slot_at z img t j) → Holds s t j
  unfolding keyAt entry_at
  adds-holds s t j hs m hj h =
      let r : (slot_at z img t j ≢ 0) × (0 < with_key key (pair_for z img t (slot_at z img t j))) = adds-full t (slot_at z img t j) h in
      record { segment_in = hs; tier_in = m; slot_in = hj; full = r.0; key-is = with-found key (pair_for z img t (slot_at z img t j)) r.1 }

  weigh-le : (s t : ℕ) → s < segments → Memᴰ t (chain z img s) → weigh z img (with_key key) t ≤ 1
  unfolding weigh
  weigh-le s t hs m =
      slot_total-once (slots_of z t) (adds t) img slots (adds-le t)
      (λ j k hj hk a b. (holds-once (adds-holds s t j hs m hj a) (adds-holds s t k hs m hk b)).1)

  weigh-holds : (s t : ℕ) → s < segments → Memᴰ t (chain z img s) → 0 < weigh z img (with_key key) t → (j : ℕ) × Holds s t j
  unfolding weigh
  weigh-holds s t hs m h =
      let r : (j : ℕ) × (j < slots) × (0 < adds t (slot_at z img t j)) = slot_total-found (slots_of z t) (adds t) img slots h in
      (r.0, adds-holds s t r.0 hs m r.1 r.2)

  -- every other tier adds nothing, so that this one gives the whole sum
  other-adds : (s t j : ℕ) → Holds s t j → (u : ℕ) → Memᴰ u (chained z img) → u ≢ t → 0 ≡ weigh z img (with_key key) u
  other-adds s t j h u m ne =
      let c : (r : ℕ) × (r < segments) × Memᴰ u (chain z img r) = chained_in z img sound.fits.chains u m in
      ⊎_elim
      (λ (e : weigh z img (with_key key) u ≡ 0). sym e)
      (λ (e : weigh z img (with_key key) u ≢ 0).
      let k : (i : ℕ) × Holds c.0 u i = weigh-holds c.0 u c.1 c.2 (omega arith) in
      absurd (ne (holds-once {j' = j} k.1 h).0))
      (same_or (weigh z img (with_key key) u) 0)

  one-tier : (t : ℕ) → Memᴰ t (chained z img) → 0 < weigh z img (with_key key) t → total (chained z img) (weigh z img (with_key key)) ≤ 1
  one-tier t m l =
      let c : (s : ℕ) × (s < segments) × Memᴰ t (chain z img s) = chained_in z img sound.fits.chains t m in
      let h : (j : ℕ) × Holds c.0 t j = weigh-holds c.0 t c.1 c.2 l in
      let sum : total (chained z img) (λ u. 0) + weigh z img (with_key key) t ≡ total (chained z img) (weigh z img (with_key key)) + 0 =
      total-change (chained z img) t (weigh z img (with_key key)) (λ u. 0) (chained-once z img sound.fits.chains c.0 t c.1 c.2)
      (other-adds c.0 t h.0 h.1) in
      omega (arith, sum, total-zero (chained z img), weigh-le c.0 t c.1 c.2)

  tiers-once : total (chained z img) (weigh z img (with_key key)) ≤ 1
  tiers-once =
      ⊎_elim
      (λ (e : total (chained z img) (weigh z img (with_key key)) ≡ 0). omega arith)
      (λ (e : total (chained z img) (weigh z img (with_key key)) ≢ 0).
      let r : (t : ℕ) × Memᴰ t (chained z img) × (0 < weigh z img (with_key key) t) =
      total-some (weigh z img (with_key key)) (chained z img) (omega arith) in
      one-tier r.0 r.1 r.2)
      (same_or (total (chained z img) (weigh z img (with_key key))) 0)

pub keys-once : (z : Shape) (img : List ℕ) → SoundImage z img → (key : List ℕ) → total (pairs_of z img) (with_key key) ≤ 1
keys-once z img sound key = rw (pairs-total z img (with_key key)) (tiers-once z img sound key)

-- ---- the pairs are those of the live entries

pub pair-live : (z : Shape) (img : List ℕ) (p : Pair) → Memᴰ p (pairs_of z img) → (e : Live) × Memᴰ e (live z img) × (p ≡ pair_of img e)
unfolding pairs_of
pair-live z img p m =
    let r : (e : Live) × Memᴰ e (live z img) × (pair_of img e ≡ p) = Memᴰ.of_map (pair_of img) (live z img) m in
    (r.0, r.1, sym r.2)

pub live-pair : (z : Shape) (img : List ℕ) (e : Live) → Memᴰ e (live z img) → Memᴰ (pair_of img e) (pairs_of z img)
unfolding pairs_of
live-pair z img e m = Memᴰ.map (pair_of img) m
