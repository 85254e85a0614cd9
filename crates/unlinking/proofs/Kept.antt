-- What the writes that take tier t from behind tier p leave, where ys are the tiers after t.
use Prim.Native.Nat.{ℕ, ◌≤◌}
use mathlib.Core.List.{List}
use mathlib.Core.Path.{◌≡◌, sym, ◌∙◌}
use mathlib.Core.Logic.{◌≢◌}
use native.Mathlib.Omega.{arith}
use Rattle.lists.specs.Quantify.{Every}
use Rattle.links.specs.Links.{Linked}
use Rattle.layout.specs.declared.Shape.{Shape}
use Rattle.layout.specs.Tiers.{tiers, IsTier}
use Rattle.layout.specs.declared.Global.TheVariants.{FirstFree as firstFree, UsedTiers as usedTiers}
use Rattle.layout.specs.declared.Header.TheVariants.{NextTier as nextTier}
use Rattle.layout.specs.declared.Counter.{Counter}
use Rattle.layout.specs.declared.Counter.TheVariants.{Next as next, Previous as previous, Order as order}
use Rattle.layout.specs.Places.{counter_no, Place, global, tier, counter, In, get, next_place, puts}
use Rattle.layout.specs.Frame.{Image}
use Rattle.layout.proofs.Places.{Spares, spare, spare-none, spares_both, get-puts-other, image-puts, kind, by_kind, shared_in, shared-never, shared-tiers}
use Rattle.chains.specs.Chains.{next_of, free_head}
use Rattle.unlinking.specs.Unlinking.{nearer, comes_after, moving}
use Rattle.unlinking.proofs.Sparing.{nearer_spares, after_spares}
use Rattle.unlinking.proofs.Closing.{closing}

-- what the writes ask: t and p are tiers, and so are those after t, which are linked
pub record Taken (z : Shape) (img : List ℕ) (t p : ℕ) (ys : List ℕ) : Type 0 where
  pub image : Image z img
  pub is_tier : IsTier z t
  pub prior_tier : IsTier z p
  pub apart : p ≢ t
  pub later_tiers : Every ys (IsTier z)
  pub linked : Linked (next_of z img) (next_of z img t) ys
  pub used_some : 1 ≤ get z img (global usedTiers)
  pub not_first : Every ys (λ u. 1 ≤ get z img (tier u (counter order)))
  pub next_small : next_of z img t ≤ tiers z
  pub head_small : free_head z img ≤ tiers z

module _ {z : Shape} {img : List ℕ} {t p : ℕ} {ys : List ℕ} (w : Taken z img t p ys) where
  abbrev pub closed : List ℕ
  closed = puts z img (closing z img p ys)

  abbrev pub after : List ℕ
  after = puts z closed (moving z img p t)

  pub im : Image z closed
  im = image-puts w.image (closing z img p ys)

  -- ---- what is left

  pub record NotWritten (q : Place) : Type 0 where
    pub orders : Every ys (λ u. q ≢ tier u (counter order))
    pub names : Spares z q (comes_after z img p ys)
    pub prior : q ≢ next_place z p
    pub own : q ≢ next_place z t
    pub head : q ≢ global firstFree
    pub used : q ≢ global usedTiers

  pub moving_spares : (q : Place) → q ≢ next_place z p → q ≢ next_place z t → q ≢ global firstFree → q ≢ global usedTiers
      → Spares z q (moving z img p t)
  moving_spares q a b d e =
      spare z q (next_place z p) _ _ (shared_in z nextTier next p w.prior_tier) a
      (spare z q (next_place z t) _ _ (shared_in z nextTier next t w.is_tier) b
      (spare z q (global firstFree) _ _ tt d (spare z q (global usedTiers) _ _ tt e (spare-none z q))))

  pub kept : (q : Place) → In z q → NotWritten q → get z after q ≡ get z img q
  kept q h n =
      get-puts-other im.framed closed (moving z img p t) q h (moving_spares q n.prior n.own n.head n.used)
      ∙ get-puts-other w.image.framed img (closing z img p ys) q h
      (spares_both z q (nearer z img ys) _ (nearer_spares z img q ys w.later_tiers n.orders) n.names)

  -- a place of another kind
  pub by-kinds : (q : Place) → (kind q ≢ 1) × (kind q ≢ 2) × (kind q ≢ 7) × (kind q ≢ 9) × (kind q ≢ 10) × (kind q ≢ 13) → NotWritten q
  by-kinds q k =
      record {
        orders = λ u m. by_kind k.5;
        names = after_spares z img q p ys w.later_tiers (λ u m. by_kind k.4);
        prior = λ e. shared-never z nextTier next p q k.2 k.3 (sym e);
        own = λ e. shared-never z nextTier next t q k.2 k.3 (sym e);
        head = by_kind k.0;
        used = by_kind k.1;
      }

  pub next-kept : (u : ℕ) → IsTier z u → u ≢ p → u ≢ t → next_of z after u ≡ next_of z img u
  next-kept u iu np nt =
      kept (next_place z u) (shared_in z nextTier next u iu)
      (record {
        orders = λ v m. shared-never z nextTier next u (tier v (counter order)) (omega arith) (omega arith);
        names = after_spares z img (next_place z u) p ys w.later_tiers
            (λ v m. shared-never z nextTier next u (tier v (counter previous)) (omega arith) (omega arith));
        prior = shared-tiers z nextTier next u p iu.0 w.prior_tier.0 np;
        own = shared-tiers z nextTier next u t iu.0 w.is_tier.0 nt;
        head = shared-never z nextTier next u (global firstFree) (omega arith) (omega arith);
        used = shared-never z nextTier next u (global usedTiers) (omega arith) (omega arith);
      })

  -- a counter that is no next, unless the writes for the tiers after t set it
  pub counter-kept : (f : Counter) → counter_no f ≢ 0 → (u : ℕ) → IsTier z u → Every ys (λ v. tier u (counter f) ≢ tier v (counter order))
      → Spares z (tier u (counter f)) (comes_after z img p ys) → get z after (tier u (counter f)) ≡ get z img (tier u (counter f))
  counter-kept f nf u iu orders names =
      kept (tier u (counter f)) (iu, tt)
      (record {
        orders = orders;
        names = names;
        prior = λ e. shared-never z nextTier next p (tier u (counter f)) (omega arith) (omega arith) (sym e);
        own = λ e. shared-never z nextTier next t (tier u (counter f)) (omega arith) (omega arith) (sym e);
        head = by_kind (omega arith);
        used = by_kind (omega arith);
      })
