-- The two loops, over the slots of a tier and over the tiers of the bulk; and the writes between them, one after the other.
use Prim.Native.Nat.{ℕ, suc, ◌+◌, ◌≤◌, ◌<◌}
use mathlib.Core.List.{List}
use mathlib.Core.Path.{◌≡◌, refl, ap, sym, ◌∙◌, subst₂}
use native.Mathlib.Omega.{arith}
use native.Mathlib.Numerals.{add-one}
use lib.ListN.{length}
use Rattle.layout.specs.declared.Shape.{Shape}
use Rattle.layout.specs.Tiers.{tiers, store_end, IsTier, IsExtra}
use Rattle.layout.specs.declared.Global.TheVariants.{BulkCount as bulkCount, FirstFree as firstFree, StoreSize as storeSize}
use Rattle.layout.specs.declared.Counter.TheVariants.{Next as next, Previous as previous, Low as low, Segment as segment, Order as order, Count as count}
use Rattle.layout.specs.Places.{slot, counter, global, tier, put, puts, put_marks, next_place, low_place, count_place}
use Rattle.layout.specs.Frame.{Framed, most_tiers}
use Rattle.layout.proofs.Places.{shared-extra}
use Rattle.chains.specs.Chains.{free_head}
use Rattle.sound.proofs.Framing.{framed-again}
use Rattle.growing.specs.Asking.{FramedExtra}
use Rattle.growing.specs.Growing.{grown, empty_slots, empty_tier, after_new, new_tier, new_tiers, grow_image}
use Rattle.growing.proofs.Emptying.{length-empty_slots}
use Rattle.growing.proofs.Reshaped.{tiers-grown, new-extra, get-grown}
use Rattle.growing.proofs.NewTiers.{length-new_tiers}

-- a frame under another name of its shape and length
pub framed_as : {z z' : Shape} {m n : ℕ} → z' ≡ z → n ≡ m → Framed z m → Framed z' n
framed_as a e fr = subst₂ Framed (sym a) (sym e) fr

-- ---- the slots of tier t: the first j are empty

module _ (z : Shape) (img : List ℕ) (t : ℕ) where
  pub record EmptyingSlots (img' : List ℕ) (j : ℕ) : Type 0 where
    pub is : img' ≡ empty_slots z img t j

  pub empty_slots-starts : EmptyingSlots img 0
  unfolding empty_slots
  empty_slots-starts = record { is = refl }

  module _ {img' : List ℕ} {j : ℕ} (w : EmptyingSlots img' j) where
    pub empty_slots-long : length img' ≡ length img
    empty_slots-long = ap length w.is ∙ length-empty_slots z img t j

    pub empty_slots-turns : {img'' : List ℕ} → img'' ≡ put z img' (tier t (slot j)) 0 → EmptyingSlots img'' (j + 1)
    unfolding empty_slots
    empty_slots-turns e = record { is = rw add-one (e ∙ ap (λ (x : List ℕ). put z x (tier t (slot j)) 0) w.is) }

    pub empty_slots-ends : j ≡ z.settings.slots → img' ≡ empty_slots z img t z.settings.slots
    empty_slots-ends e = w.is ∙ ap (empty_slots z img t) e

-- ---- one tier: its slots, its six counters, its marks

-- a write keeps the image's length, and that is all that the next one asks
pub framed-extra : {z : Shape} {img : List ℕ} {n t : ℕ} → n ≡ length img → FramedExtra z img t → Framed z n × IsTier z t
framed-extra e x = (framed-again e x.framed, let y = x.extra_in in omega arith)

pub emptied : (z : Shape) (img : List ℕ) (t u : ℕ) → IsExtra z t → {i₀ i₁ i₂ i₃ i₄ i₅ i₆ i₇ : List ℕ}
    → i₀ ≡ empty_slots z img t z.settings.slots
    → i₁ ≡ put z i₀ (next_place z t) u
    → i₂ ≡ put z i₁ (tier t (counter previous)) 0
    → i₃ ≡ put z i₂ (low_place z t) 0
    → i₄ ≡ put z i₃ (tier t (counter segment)) 0
    → i₅ ≡ put z i₄ (tier t (counter order)) 0
    → i₆ ≡ put z i₅ (count_place z t) 0
    → i₇ ≡ put_marks z i₆ t 0 z.settings.chunks 0
    → i₇ ≡ empty_tier z img t u
unfolding empty_tier puts
emptied z img t u x p₀ p₁ p₂ p₃ p₄ p₅ p₆ p₇ =
    let a : next_place z t ≡ tier t (counter next) = shared-extra z _ _ t x.0 in
    let b : low_place z t ≡ tier t (counter low) = shared-extra z _ _ t x.0 in
    let d : count_place z t ≡ tier t (counter count) = shared-extra z _ _ t x.0 in
    cc

-- ---- the tiers of the bulk: the first k are done

module _ (z : Shape) (img : List ℕ) where
  -- what is known before the first write: the shape with the bulk, its last tier, the head of the free chain, how many tiers there are
  pub record BulkRead (more : Shape) (last head count : ℕ) : Type 0 where
    pub more_is : more ≡ grown z
    pub last_is : last ≡ tiers more
    pub head_is : head ≡ free_head more img
    pub count_is : count ≡ tiers z

  pub record MakingTiers (img' : List ℕ) (k : ℕ) : Type 0 where
    pub is : img' ≡ new_tiers z img k

  pub new_tiers-starts : MakingTiers img 0
  unfolding new_tiers
  new_tiers-starts = record { is = refl }

  module _ {img' : List ℕ} {k : ℕ} (w : MakingTiers img' k) where
    pub new_tiers-long : length img' ≡ length img
    new_tiers-long = ap length w.is ∙ length-new_tiers z img k

    pub new_tiers-ends : k ≡ z.settings.bulkTiers → img' ≡ new_tiers z img z.settings.bulkTiers
    new_tiers-ends e = w.is ∙ ap (new_tiers z img) e

    module _ {more : Shape} {last head count : ℕ} (r : BulkRead more last head count) (h : k < z.settings.bulkTiers) where
      last-is : last ≡ tiers (grown z)
      last-is = r.last_is ∙ ap tiers r.more_is

      new_is : count + 1 + k ≡ new_tier z k
      new_is = omega (arith, r.count_is)

      pub new-within : count + 1 + k ≤ last
      new-within = omega (arith, r.count_is, last-is, tiers-grown z)

      pub last-few : Framed (grown z) (length img) → last ≤ most_tiers
      last-few fr = omega (arith, last-is, fr.tier_count)

      pub new-framed : Framed (grown z) (length img) → FramedExtra more img' (count + 1 + k)
      new-framed fr =
          let here : FramedExtra (grown z) img' (new_tier z k) = record { framed = framed-again new_tiers-long fr; extra_in = new-extra z k h } in
          subst₂ (λ (y : Shape) (t : ℕ). FramedExtra y img' t) (sym r.more_is) (sym new_is) here

      pub new_tiers-turns : {img'' : List ℕ} {u : ℕ} → u ≡ after_new (count + 1 + k) last head → img'' ≡ empty_tier more img' (count + 1 + k) u
          → MakingTiers img'' (k + 1)
      unfolding new_tiers
      new_tiers-turns {img''} {u} f e =
          let a : more ≡ grown z = r.more_is in
          let b : last ≡ tiers (grown z) = last-is in
          let d : head ≡ free_head z img = r.head_is ∙ ap (λ (y : Shape). free_head y img) r.more_is ∙ get-grown z img (global firstFree) in
          let t : count + 1 + k ≡ new_tier z k = new_is in
          let i : img' ≡ new_tiers z img k = w.is in
          record { is = rw add-one (cc) }

  -- ---- the three numbers of the global state

  pub grew : {more : Shape} {count end : ℕ} → more ≡ grown z → count ≡ tiers z → end ≡ store_end more → {i₀ i₁ i₂ i₃ : List ℕ}
      → i₀ ≡ new_tiers z img z.settings.bulkTiers
      → i₁ ≡ put more i₀ (global bulkCount) more.bulks
      → i₂ ≡ put more i₁ (global firstFree) (count + 1)
      → i₃ ≡ put more i₂ (global storeSize) end
      → i₃ ≡ grow_image z img
  unfolding grow_image puts
  grew {more} {count} a b d p₀ p₁ p₂ p₃ =
      let n : more.bulks ≡ z.bulks + 1 = ap (λ (y : Shape). y.bulks) a in
      let f : count + 1 ≡ suc (tiers z) = omega arith in
      cc
