-- The loop that lowers the orders of the tiers from one on: those that it has met are written, and the links are as they were.
use Prim.Native.Nat.{ℕ, suc, ◌-◌, ◌≤◌, ◌<◌}
use mathlib.Core.List.Memᴰ
use mathlib.Core.List.{List, [], ◌∷◌, ◌++◌, map-append, Memᴰ}
use mathlib.Core.Path.{◌≡◌, refl, ap, ap₂, sym, ◌∙◌}
use mathlib.Core.Logic.{◌≢◌}
use native.Mathlib.Omega.{arith}
use lib.ListN.{length}
use Rattle.lists.specs.Quantify.{Every}
use Rattle.links.specs.Links.{Linked}
use Rattle.links.proofs.Follow.{linked-follow}
use Rattle.links.proofs.Once.{linked-apart}
use Rattle.links.proofs.Along.{Along, along-starts, along-ends, along-splits, along_in, along-turns, along-goes, along-less}
use Rattle.layout.specs.declared.Shape.{Shape}
use Rattle.layout.specs.declared.Counters.{Counters}
use Rattle.layout.specs.Tiers.{tiers, IsTier}
use Rattle.layout.specs.declared.Header.TheVariants.{NextTier as nextTier}
use Rattle.layout.specs.declared.Counter.TheVariants.{Order as order, Next as next}
use Rattle.layout.specs.Places.{Place, get, put, puts, tier, counter, next_place, counters_of, In}
use Rattle.layout.proofs.Places.{puts-append, length-puts, shared_in, shared-never}
use Rattle.chains.specs.Chains.{next_of, follow}
use Rattle.unlinking.specs.Unlinking.{one_less, nearer}
use Rattle.unlinking.specs.Asking.{CanLower}
use Rattle.unlinking.proofs.Sparing.{order-apart, nearer-keeps}

pub record Lowering (z : Shape) (img : List ℕ) (first : ℕ) (img' : List ℕ) (t : ℕ) : Type 0 where
  pub done : List ℕ
  pub along : Along (next_of z img) (tiers z) first done t
  pub is : img' ≡ puts z img (nearer z img done)

pub lowering_starts : (z : Shape) (img : List ℕ) (first : ℕ) → Lowering z img first img first
unfolding puts
lowering_starts z img first = record { done = []; along = along-starts (next_of z img) (tiers z) first; is = refl }

module _ {z : Shape} {img : List ℕ} {first : ℕ} {img' : List ℕ} {t : ℕ} (w : Lowering z img first img' t) where
  pub lowering_long : length img' ≡ length img
  lowering_long = ap length w.is ∙ length-puts z img (nearer z img w.done)

  pub lowering_ends : t ≡ 0 → img' ≡ puts z img (nearer z img (follow z img (tiers z) first))
  lowering_ends e = w.is ∙ ap (λ (us : List ℕ). puts z img (nearer z img us)) (along-ends w.along e)

  module _ (can : CanLower z img first) (ne : t ≢ 0) where
    low : length w.done < tiers z
    low = along-goes w.along can.ends ne

    t_in : Memᴰ t (follow z img (tiers z) first)
    t_in = along_in w.along low ne

    pub lowering_tier : IsTier z t
    lowering_tier = can.tiers_of t t_in

    splits : follow z img (tiers z) first ≡ w.done ++ (t ∷ follow z img (tiers z - suc (length w.done)) (next_of z img t))
    splits = along-splits w.along low ne

    all : Linked (next_of z img) first (w.done ++ (t ∷ follow z img (tiers z - suc (length w.done)) (next_of z img t)))
    all = rw splits at (linked-follow (next_of z img) (tiers z) first can.ends)

    -- those that were met are other tiers
    met-apart : Every w.done (λ u. u ≢ t)
    met-apart u m = linked-apart w.done _ all m (Memᴰ.head refl)

    met-tiers : Every w.done (IsTier z)
    met-tiers u m = can.tiers_of u (rw splits (Memᴰ.append_left _ m))

    -- so t reads as before
    kept : (q : Place) → In z q → Every w.done (λ u. q ≢ tier u (counter order)) → get z img' q ≡ get z img q
    kept q h out = ap (λ (x : List ℕ). get z x q) w.is ∙ nearer-keeps z img q can.framed img w.done h met-tiers out

    pub lowering_next : next_of z img' t ≡ next_of z img t
    lowering_next =
        kept (next_place z t) (shared_in z nextTier next t lowering_tier)
        (λ u m. shared-never z nextTier next t (tier u (counter order)) (omega arith) (omega arith))

    order-kept : get z img' (tier t (counter order)) ≡ get z img (tier t (counter order))
    order-kept = kept (tier t (counter order)) (lowering_tier, tt) (λ u m. order-apart (λ e. met-apart u m (sym e)))

    -- what its counters say
    module _ {c : Counters} (ec : c ≡ counters_of z img' t) where
      order_is : c.order ≡ get z img (tier t (counter order))
      unfolding counters_of
      order_is = ap (λ (x : Counters). x.order) ec ∙ order-kept

      pub lowering_some : 1 ≤ c.order
      lowering_some = omega (arith, order_is, can.not_first t t_in)

      pub lowering_turns : {img'' : List ℕ} {u : ℕ} → u ≡ next_of z img' t → img'' ≡ put z img' (tier t (counter order)) (c.order - 1)
          → Lowering z img first img'' u
      unfolding puts
      lowering_turns {img''} {u} eu e =
          let more : nearer z img (w.done ++ (t ∷ [])) ≡ nearer z img w.done ++ (one_less z img t ∷ []) =
          map-append (one_less z img) w.done (t ∷ []) in
          record {
            done = w.done ++ (t ∷ []);
            along = along-turns w.along low ne (eu ∙ lowering_next);
            is =
                e
                ∙ ap₂ (λ (x : List ℕ) (v : ℕ). put z x (tier t (counter order)) (v - 1)) w.is order_is
                ∙ sym (puts-append z img (nearer z img w.done) (one_less z img t ∷ []))
                ∙ ap (puts z img) (sym more);
          }

    pub lowering_less : {u : ℕ} → u ≡ next_of z img' t → length (follow z img (tiers z) u) < length (follow z img (tiers z) t)
    lowering_less e = along-less w.along can.ends ne (e ∙ lowering_next)
