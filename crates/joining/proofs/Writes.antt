-- What the seven writes that let tier t join after tier l set, and all that they do.
use Prim.Native.Nat.{ℕ, suc, ◌^◌, ◌<◌}
use mathlib.Core.List.{List, [], ◌∷◌}
use mathlib.Core.Path.{◌≡◌, refl, sym, ◌∙◌}
use mathlib.Core.Logic.{⊎_elim, ◌≢◌}
use native.Mathlib.Omega.{arith}
use lib.ListN.{length}
use Rattle.layout.specs.declared.Shape.{Shape}
use Rattle.layout.specs.Tiers.{IsTier}
use Rattle.layout.specs.declared.Global.{Global}
use Rattle.layout.specs.declared.Global.TheVariants.{FirstFree as firstFree, UsedTiers as usedTiers}
use Rattle.layout.specs.declared.Header.TheVariants.{EntryCount as entry_count, LowestFree as lowestFree, NextTier as nextTier}
use Rattle.layout.specs.declared.Counter.{Counter}
use Rattle.layout.specs.declared.Counter.TheVariants.{Next as next, Previous as previous, Low as low, Segment as segment, Order as order, Count as count}
use Rattle.layout.specs.Places.{global_no, counter_no, Place, global, tier, counter, wide, part_wide, get, next_place, ◌≔◌, puts}
use Rattle.layout.specs.Frame.{Image}
use Rattle.layout.proofs.Places.{Spares, spare, spare-none, get-puts-here, image-puts, length-puts, kind, by_kind, shared_in, shared-kind, shared-never, shared-tiers, shared-wide}
use Rattle.chains.specs.Chains.{next_of, free_head}
use Rattle.sound.proofs.AgreeTier.{SameTier, SameCounters}
use Rattle.joining.proofs.Kept.{join_writes, next-kept, counter-kept, shared_kept, same-tiers, global-kept}

-- image img' is img with that done
pub record Joins (z : Shape) (img img' : List ℕ) (s t l n : ℕ) : Type 0 where
  pub image : Image z img'
  pub long : length img' ≡ length img
  pub next_last : next_of z img' l ≡ t
  pub next_new : next_of z img' t ≡ 0
  pub next_other : (u : ℕ) → IsTier z u → u ≢ l → u ≢ t → next_of z img' u ≡ next_of z img u
  pub head : free_head z img' ≡ next_of z img t
  pub used : get z img' (global usedTiers) ≡ suc (get z img (global usedTiers))
  pub previous_new : get z img' (tier t (counter previous)) ≡ l
  pub segment_new : get z img' (tier t (counter segment)) ≡ s
  pub order_new : get z img' (tier t (counter order)) ≡ n
  pub counters : (f : Counter) → counter_no f ≢ 0 → (u : ℕ) → IsTier z u → u ≢ t
      → get z img' (tier u (counter f)) ≡ get z img (tier u (counter f))
  pub same_tiers : (u : ℕ) → IsTier z u → SameTier z img img' u
  pub counts : (u : ℕ) → IsTier z u → SameCounters z img img' u
  pub globals : (f : Global) → global_no f ≢ 1 → global_no f ≢ 2 → get z img' (global f) ≡ get z img (global f)

module _ {z : Shape} {img : List ℕ} (im : Image z img) (s t l a b n : ℕ) (it : IsTier z t) (il : IsTier z l) where
  abbrev after : List ℕ
  after = puts z img (join_writes z s t l a b n)

  -- the three counters of t, and before them its next
  from-counters : (p : Place) → kind p ≢ 10 → kind p ≢ 12 → kind p ≢ 13
      → Spares z p (tier t (counter previous) ≔ l ∷ tier t (counter segment) ≔ s ∷ tier t (counter order) ≔ n ∷ [])
  from-counters p k1 k2 k3 =
      spare z p _ l _ (it, tt) (by_kind k1) (spare z p _ s _ (it, tt) (by_kind k2) (spare z p _ n _ (it, tt) (by_kind k3) (spare-none z p)))

  from-new : (p : Place) → kind p ≢ 10 → kind p ≢ 12 → kind p ≢ 13 → p ≢ next_place z t
      → Spares z p (next_place z t ≔ 0 ∷ tier t (counter previous) ≔ l ∷ tier t (counter segment) ≔ s ∷ tier t (counter order) ≔ n ∷ [])
  from-new p k1 k2 k3 ne = spare z p _ 0 _ (shared_in z nextTier next t it) ne (from-counters p k1 k2 k3)

  next-kind : (u k : ℕ) → k ≢ 7 → k ≢ 9 → kind (next_place z u) ≢ k
  next-kind u k k1 k2 e =
      ⊎_elim (λ (d : kind (next_place z u) ≡ 7). omega arith) (λ (d : kind (next_place z u) ≡ 9). omega arith) (shared-kind z nextTier next u)

  next-wide : (u : ℕ) → wide z (next_place z u) ≡ 8
  next-wide u = shared-wide z nextTier next u refl

  module _ (ne : l ≢ t) (na : a ≡ next_of z img t) (nb : b ≡ suc (get z img (global usedTiers)))
      (ft : t < 256 ^ 8) (fa : a < 256 ^ 5) (fb : b < 256 ^ 5) (fl : l < 256 ^ 8) (fs : s < 256 ^ 4) (fn : n < 256 ^ 4) where
    last_set : get z after (next_place z l) ≡ t
    last_set =
        let p : Place = next_place z l in
        get-puts-here im [] p t _ (shared_in z nextTier next l il) (rw (next-wide l) ft)
        (spare z p (global firstFree) a _ tt (by_kind (next-kind l 1 (omega arith) (omega arith)))
        (spare z p (global usedTiers) b _ tt (by_kind (next-kind l 2 (omega arith) (omega arith)))
        (from-new p (next-kind l 10 (omega arith) (omega arith)) (next-kind l 12 (omega arith) (omega arith)) (next-kind l 13 (omega arith) (omega arith))
        (shared-tiers z nextTier next l t il.0 it.0 ne))))

    new-set : get z after (next_place z t) ≡ 0
    new-set =
        get-puts-here im (next_place z l ≔ t ∷ global firstFree ≔ a ∷ global usedTiers ≔ b ∷ []) (next_place z t) 0 _
        (shared_in z nextTier next t it) (rw (next-wide t) (omega arith))
        (from-counters (next_place z t) (next-kind t 10 (omega arith) (omega arith)) (next-kind t 12 (omega arith) (omega arith))
        (next-kind t 13 (omega arith) (omega arith)))

    head-set : get z after (global firstFree) ≡ a
    unfolding wide
    head-set =
        get-puts-here im (next_place z l ≔ t ∷ []) (global firstFree) a _ tt fa
        (spare z (global firstFree) (global usedTiers) b _ tt (by_kind (omega arith))
        (from-new (global firstFree) (omega arith) (omega arith) (omega arith)
        (λ e. shared-never z nextTier next t (global firstFree) (omega arith) (omega arith) (sym e))))

    used-set : get z after (global usedTiers) ≡ b
    unfolding wide
    used-set =
        get-puts-here im (next_place z l ≔ t ∷ global firstFree ≔ a ∷ []) (global usedTiers) b _ tt fb
        (from-new (global usedTiers) (omega arith) (omega arith) (omega arith)
        (λ e. shared-never z nextTier next t (global usedTiers) (omega arith) (omega arith) (sym e)))

    previous-set : get z after (tier t (counter previous)) ≡ l
    unfolding wide part_wide
    previous-set =
        let p : Place = tier t (counter previous) in
        get-puts-here im (next_place z l ≔ t ∷ global firstFree ≔ a ∷ global usedTiers ≔ b ∷ next_place z t ≔ 0 ∷ []) p l _ (it, tt) fl
        (spare z p (tier t (counter segment)) s _ (it, tt) (by_kind (omega arith))
        (spare z p (tier t (counter order)) n _ (it, tt) (by_kind (omega arith)) (spare-none z p)))

    segment-set : get z after (tier t (counter segment)) ≡ s
    unfolding wide part_wide
    segment-set =
        let p : Place = tier t (counter segment) in
        get-puts-here im
        (next_place z l ≔ t ∷ global firstFree ≔ a ∷ global usedTiers ≔ b ∷ next_place z t ≔ 0 ∷ tier t (counter previous) ≔ l ∷ []) p s _
        (it, tt) fs
        (spare z p (tier t (counter order)) n _ (it, tt) (by_kind (omega arith)) (spare-none z p))

    order-set : get z after (tier t (counter order)) ≡ n
    unfolding wide part_wide
    order-set =
        let p : Place = tier t (counter order) in
        get-puts-here im
        (next_place z l ≔ t ∷ global firstFree ≔ a ∷ global usedTiers ≔ b ∷ next_place z t ≔ 0 ∷ tier t (counter previous) ≔ l ∷ tier t
        (counter segment) ≔ s ∷ [])
        p n _ (it, tt) fn (spare-none z p)

    pub joins : Joins z img after s t l n
    joins =
        record {
          image = image-puts im (join_writes z s t l a b n);
          long = length-puts z img (join_writes z s t l a b n);
          next_last = last_set;
          next_new = new-set;
          next_other = next-kept im s t l a b n it il;
          head = head-set ∙ na;
          used = used-set ∙ nb;
          previous_new = previous-set;
          segment_new = segment-set;
          order_new = order-set;
          counters = counter-kept im s t l a b n it il;
          same_tiers = same-tiers im s t l a b n it il;
          counts =
              λ u iu.
              record {
                count = shared_kept im s t l a b n it il entry_count count (omega arith) u iu;
                low = shared_kept im s t l a b n it il lowestFree low (omega arith) u iu;
              };
          globals = global-kept im s t l a b n it il;
        }
