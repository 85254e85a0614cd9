-- The tiers of the new bulk, emptied one after the other; and all that growing does.
use Prim.Native.Nat.{ℕ, zero, suc, ◌+◌, ◌*◌, ◌/◌, ◌%◌, ◌^◌, ◌≤◌, ◌<◌}
use mathlib.Core.List.{List, [], ◌∷◌}
use mathlib.Core.Path.{◌≡◌, refl, ap, sym, ◌∙◌}
use mathlib.Core.Logic.{⊎_elim, ◌≢◌}
use native.Mathlib.Omega.{arith}
use lib.ListN.{length}
use borrow.Author.Tests.{eq-eqb, ne_eqb}
use Rattle.lists.specs.Cases.{same_or}
use Rattle.lists.specs.Quantify.{every-cons, every-none}
use Rattle.words.specs.Bits.{bit_of}
use Rattle.layout.specs.declared.Shape.{Shape}
use Rattle.layout.specs.Tiers.{tiers, store_end, IsTier, IsExtra}
use Rattle.layout.specs.declared.Global.TheVariants.{BulkCount as bulkCount, FirstFree as firstFree, StoreSize as storeSize}
use Rattle.layout.specs.declared.Counter.TheVariants.{Next as next}
use Rattle.layout.specs.Places.{Part, slot, counter, free, byte, Place, global, header, tier, wide, In, get, mark, ◌≔◌}
use Rattle.layout.specs.Frame.{Image}
use Rattle.layout.proofs.Places.{kind, length-puts, image-puts, get-lt, get-puts-other, get-puts-here, by_kind}
use Rattle.layout.proofs.Marks.{mark-get}
use Rattle.layout.proofs.Bounds.{framed-bounded}
use Rattle.chains.specs.Chains.{free_head}
use Rattle.chunks.specs.Chunks.{FreeTierFits}
use Rattle.sound.proofs.AgreeTier.{same-free}
use Rattle.growing.specs.Growing.{grown, after_new, new_tier, new_tiers, grow_image}
use Rattle.growing.proofs.Emptying.{NotOf, image-empty_tier, length-empty_tier, get-empty_tier-other, slot-empty_tier, mark-empty_tier, mark-empty_tier-past, next-empty_tier}
use Rattle.growing.proofs.Reshaped.{tiers-grown, new-extra, in_grown, get-grown}

-- ---- a tier that holds nothing, with tier u after it

pub record HoldsNothing (z : Shape) (img : List ℕ) (t u : ℕ) : Type 0 where
  pub fits : FreeTierFits z img t
  pub next_is : get z img (tier t (counter next)) ≡ u

-- a mark is a bit of its byte
mark-same : (z : Shape) (img img' : List ℕ) (t i : ℕ) → get z img (tier t (free (i / 8))) ≡ get z img' (tier t (free (i / 8)))
    → mark z img t i ≡ mark z img' t i
mark-same z img img' t i e = mark-get z img t i ∙ ap (λ (v : ℕ). bit_of v (i % 8)) e ∙ sym (mark-get z img' t i)

nothing-again : (z : Shape) (img img' : List ℕ) (t u : ℕ) → IsTier z t
    → ((q : Part) → In z (tier t q) → get z img' (tier t q) ≡ get z img (tier t q)) → HoldsNothing z img t u → HoldsNothing z img' t u
nothing-again z img img' t u it same h =
    record {
      fits =
          same-free z img img' t (λ j l. same (slot j) (it, l)) (λ i l. mark-same z img' img t i (same (free (i / 8)) (it, omega arith))) h.fits;
      next_is = same (counter next) (it, tt) ∙ h.next_is;
    }

-- ---- the tier after a new one

pub after_last : (t last head : ℕ) → t ≡ last → after_new t last head ≡ head
unfolding after_new
after_last t last head e = rw (eq-eqb t last e, after_new)

pub after-other : (t last head : ℕ) → t ≢ last → after_new t last head ≡ suc t
unfolding after_new
after-other t last head e = rw (ne_eqb t last e, after_new)

after_small : (t last head n : ℕ) → suc t < n → head < n → after_new t last head < n
after_small t last head n a b =
    ⊎_elim (λ (e : t ≡ last). rw (after_last t last head e) b) (λ (e : t ≢ last). rw (after-other t last head e) a) (same_or t last)

-- ---- the first n tiers of the bulk

module _ (z : Shape) (img : List ℕ) where
  open z use {settings}
  open settings use {bulkTiers}

  -- the tier after new tier k
  abbrev pub new_next : ℕ → ℕ
  new_next k = after_new (new_tier z k) (tiers (grown z)) (free_head z img)

  pub length-new_tiers : (n : ℕ) → length (new_tiers z img n) ≡ length img
  unfolding new_tiers
  length-new_tiers zero = refl
  length-new_tiers (suc n) = length-empty_tier (grown z) (new_tiers z img n) (new_tier z n) _ ∙ length-new_tiers n

module _ (z : Shape) {img : List ℕ} (im : Image (grown z) img) where
  open z use {settings}
  open settings use {chunks, bulkTiers}

  new-tier : (k : ℕ) → k < bulkTiers → IsTier (grown z) (new_tier z k)
  new-tier k h = let x : IsExtra (grown z) (new_tier z k) = new-extra z k h in omega arith

  pub image-new_tiers : (n : ℕ) → n ≤ bulkTiers → Image (grown z) (new_tiers z img n)
  unfolding new_tiers
  image-new_tiers zero h = im
  image-new_tiers (suc n) h = image-empty_tier (image-new_tiers n (omega arith)) (new_tier z n) _ (new-tier n (omega arith))

  -- a place of no new tier
  get-new_tiers-other : (n : ℕ) (p : Place) → n ≤ bulkTiers → In (grown z) p → ((k : ℕ) → NotOf (new_tier z k) p)
      → get (grown z) (new_tiers z img n) p ≡ get (grown z) img p
  unfolding new_tiers
  get-new_tiers-other zero p h i ne = refl
  get-new_tiers-other (suc n) p h i ne =
      get-empty_tier-other (image-new_tiers n (omega arith)) (new_tier z n) _ (new-tier n (omega arith)) p i (ne n)
      ∙ get-new_tiers-other n p (omega arith) i ne

  head_small : free_head z img < 256 ^ 5
  unfolding wide
  head_small = rw (← get-grown z img (global firstFree)) (get-lt im (global firstFree))

  next_small : (k : ℕ) → k < bulkTiers → new_next z img k < 256 ^ 8
  next_small k h =
      after_small (new_tier z k) (tiers (grown z)) (free_head z img) (256 ^ 8)
      (omega (arith, new-tier k h, im.framed.tier_count)) (omega (arith, head_small))

  -- each of them holds nothing
  new-nothing : (n k : ℕ) → n ≤ bulkTiers → k < n → HoldsNothing (grown z) (new_tiers z img n) (new_tier z k) (new_next z img k)
  unfolding new_tiers
  new-nothing zero k h l = absurd (omega arith)
  new-nothing (suc n) k h l =
      let before : Image (grown z) (new_tiers z img n) = image-new_tiers n (omega arith) in
      let is : IsTier (grown z) (new_tier z n) = new-tier n (omega arith) in
      ⊎_elim
      (λ (e : k ≡ n).
      rw e
      (record {
        fits =
            record {
              slots_empty = slot-empty_tier before (new_tier z n) (new_next z img n) is;
              chunks_clear = mark-empty_tier before (new_tier z n) (new_next z img n) is;
            };
        next_is = next-empty_tier before (new_tier z n) (new_next z img n) is (next_small n (omega arith));
      }))
      (λ (e : k ≢ n).
      nothing-again (grown z) (new_tiers z img n) _ (new_tier z k) (new_next z img k) (new-tier k (omega arith))
      (λ q i.
      get-empty_tier-other before (new_tier z n) (new_next z img n) is (tier (new_tier z k) q) i
      (λ r c. let same : new_tier z k ≡ new_tier z n = cc in omega arith))
      (new-nothing n k (omega arith) (omega arith)))
      (same_or k n)

  -- and keeps the bits behind its chunks
  bits-new_tiers : (n k i : ℕ) → n ≤ bulkTiers → k < bulkTiers → chunks ≤ i → 8 * (i / 8) < chunks
      → mark (grown z) (new_tiers z img n) (new_tier z k) i ≡ mark (grown z) img (new_tier z k) i
  unfolding new_tiers
  bits-new_tiers zero k i h l past within = refl
  bits-new_tiers (suc n) k i h l past within =
      let before : Image (grown z) (new_tiers z img n) = image-new_tiers n (omega arith) in
      let is : IsTier (grown z) (new_tier z n) = new-tier n (omega arith) in
      ⊎_elim
      (λ (e : k ≡ n). rw e (mark-empty_tier-past before (new_tier z n) (new_next z img n) is i past within))
      (λ (e : k ≢ n).
      mark-same (grown z) _ (new_tiers z img n) (new_tier z k) i
      (get-empty_tier-other before (new_tier z n) (new_next z img n) is (tier (new_tier z k) (free (i / 8))) (new-tier k l, within)
      (λ r c. let same : new_tier z k ≡ new_tier z n = cc in omega arith)))
      (same_or k n)
      ∙ bits-new_tiers n k i (omega arith) l past within

-- ---- all that growing does

-- image img' is img with one bulk more
pub record Grows (z : Shape) (img img' : List ℕ) : Type 0 where
  pub image : Image (grown z) img'
  pub long : length img' ≡ length img
  pub bulk_count_is : get (grown z) img' (global bulkCount) ≡ z.bulks + 1
  pub head_is : free_head (grown z) img' ≡ suc (tiers z)
  pub size_is : get (grown z) img' (global storeSize) ≡ store_end (grown z)
  -- every place of the store but those three
  pub kept : (p : Place) → In z p → (kind p ≢ 0) × (kind p ≢ 1) × (kind p ≢ 4) → get (grown z) img' p ≡ get z img p
  pub new : (k : ℕ) → k < z.settings.bulkTiers → HoldsNothing (grown z) img' (new_tier z k) (new_next z img k)
  -- the bits behind a new tier's chunks
  pub bits : (k i : ℕ) → k < z.settings.bulkTiers → z.settings.chunks ≤ i → 8 * (i / 8) < z.settings.chunks
      → mark (grown z) img' (new_tier z k) i ≡ mark (grown z) img (new_tier z k) i

-- a place of the store is in no new tier
old-place : (z : Shape) (p : Place) → In z p → (k : ℕ) → NotOf (new_tier z k) p
old-place z (global f) h k q e = let y : ◌≡◌ {A = ℕ} 0 1 = cc in omega arith
old-place z (header s f) h k q e = let y : ◌≡◌ {A = ℕ} 0 1 = cc in omega arith
old-place z (tier t r) h k q e = let same : t ≡ new_tier z k = cc in omega arith

module _ (z : Shape) {img : List ℕ} (im : Image (grown z) img) where
  open z use {settings, bulks}
  open settings use {bulkTiers}

  abbrev bulk : List ℕ
  bulk = new_tiers z img bulkTiers

  bulk-image : Image (grown z) bulk
  bulk-image = image-new_tiers z im bulkTiers (omega arith)

  globals-spare : (p : Place) → (kind p ≢ 0) × (kind p ≢ 1) × (kind p ≢ 4) → In (grown z) p
      → get (grown z) (grow_image z img) p ≡ get (grown z) bulk p
  unfolding grow_image
  globals-spare p ne h =
      get-puts-other bulk-image.framed bulk _ p h
      (every-cons _ _ _ (tt, by_kind ne.0) (every-cons _ _ _ (tt, by_kind ne.1) (every-cons _ _ _ (tt, by_kind ne.2) (every-none _))))

  part-kind : (t : ℕ) (q : Part) → (kind (tier t q) ≢ 0) × (kind (tier t q) ≢ 1) × (kind (tier t q) ≢ 4)
  part-kind t (slot j) = omega arith
  part-kind t (counter f) = omega arith
  part-kind t (free b) = omega arith
  part-kind t (byte i) = omega arith

  pub grow-grows : Grows z img (grow_image z img)
  unfolding grow_image wide
  grow-grows =
      record {
        image = image-puts bulk-image _;
        long = length-puts (grown z) bulk _ ∙ length-new_tiers z img bulkTiers;
        bulk_count_is =
            get-puts-here bulk-image [] (global bulkCount) (bulks + 1) _ tt (omega (arith, (framed-bounded im.framed).bulks))
            (every-cons _ _ _ (tt, by_kind (omega arith)) (every-cons _ _ _ (tt, by_kind (omega arith)) (every-none _)));
        head_is =
            get-puts-here bulk-image (global bulkCount ≔ (bulks + 1) ∷ []) (global firstFree) (suc (tiers z)) _ tt
            (omega (arith, tiers-grown z, im.framed.tier_count, im.framed.valid.bulkTiers.0))
            (every-cons _ _ _ (tt, by_kind (omega arith)) (every-none _));
        size_is =
            get-puts-here bulk-image (global bulkCount ≔ (bulks + 1) ∷ global firstFree ≔ suc (tiers z) ∷ []) (global storeSize)
            (store_end (grown z)) _ tt (omega (arith, im.framed.within, im.framed.small)) (every-none _);
        kept =
            λ p h ne.
            globals-spare p ne (in_grown z p h)
            ∙ get-new_tiers-other z im bulkTiers p (omega arith) (in_grown z p h) (old-place z p h)
            ∙ get-grown z img p;
        new =
            λ k h.
            nothing-again (grown z) bulk (grow_image z img) (new_tier z k) (new_next z img k) (new-tier z im k h)
            (λ q i. globals-spare (tier (new_tier z k) q) (part-kind (new_tier z k) q) i) (new-nothing z im bulkTiers k (omega arith) h);
        bits =
            λ k i h past within.
            mark-same (grown z) (grow_image z img) bulk (new_tier z k) i
            (globals-spare (tier (new_tier z k) (free (i / 8))) (omega arith) (new-tier z im k h, within))
            ∙ bits-new_tiers z im bulkTiers k i (omega arith) h past within;
      }
