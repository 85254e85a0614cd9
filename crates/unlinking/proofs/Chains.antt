-- The chains after an extra tier left one: that one is without it, the free chain begins with it, the others are as they were.
use Prim.Native.Nat.{ℕ, suc, ◌+◌, ◌<◌}
use mathlib.Core.List.Memᴰ
use mathlib.Core.List.{List, [], ◌∷◌, ◌++◌, Memᴰ}
use mathlib.Core.Path.{◌≡◌, ap, sym, ◌∙◌, subst}
use mathlib.Core.Logic.{⊎_elim, ◌≢◌}
use native.Mathlib.Omega.{arith}
use lib.Dec.{eqb}
use lib.ListN.{length, get_or, drop, length-append}
use Rattle.lists.specs.Cases.{same_or}
use Rattle.lists.specs.Lists.{how_many}
use Rattle.lists.specs.Quantify.{Every, every-cons}
use Rattle.lists.proofs.Lists.{how_many-append, member}
use Rattle.lists.proofs.Parts.{parts-change}
use Rattle.links.specs.Links.{Linked}
use Rattle.links.proofs.Splits.{member-with}
use Rattle.links.proofs.Runs.{run-from}
use Rattle.links.proofs.Once.{first-apart, linked-apart}
use Rattle.links.proofs.Edits.{linked-front, linked-out}
use Rattle.links.proofs.Standing.{Standing, Closes, standing-without}
use Rattle.layout.specs.declared.Shape.{Shape}
use Rattle.layout.specs.Tiers.{IsTier, IsExtra}
use Rattle.layout.specs.declared.Counter.TheVariants.{Previous as previous, Segment as segment, Order as order}
use Rattle.layout.specs.Places.{get, tier, counter}
use Rattle.chains.specs.Chains.{next_of, chain, free_head, free_chain, chained, chained_extra, Once, ChainFits, ChainsFit}
use Rattle.chains.specs.Walk.{extras_of}
use Rattle.chains.proofs.Tiers.{chain-tiers, free-tiers}
use Rattle.chains.proofs.Linked.{linked-free, chain-linked, free-linked, linked-ends}
use Rattle.chains.proofs.Chained.{says-segment, chain-segment, free-not-chained}
use Rattle.chains.proofs.AgreeChains.{SameLink, link-chain, link-fit}
use Rattle.unlinking.specs.Unlinking.{before}
use Rattle.unlinking.specs.Asking.{ExtraOf}
use Rattle.unlinking.proofs.Neighbours.{front, rest, chain-at, tier_in_lem, linked-at, tiers-at, extras-at, is-extra, before_in, before-next, rest-linked, rest-tiers}
use Rattle.unlinking.proofs.Writes.{Unlinks}

-- what is behind the first of a list: members, and other numbers if the list is linked
drop_in : (l : List ℕ) {u : ℕ} → Memᴰ u (drop 1 l) → Memᴰ u l
drop_in [] m = m
drop_in (v ∷ us) m = Memᴰ.tail m

first-once : {next : ℕ → ℕ} {h : ℕ} (l : List ℕ) → Linked next h l → Every (drop 1 l) (λ u. u ≢ get_or l 0 0)
first-once [] r u m = absurd (Memᴰ.not-nil m)
first-once (v ∷ us) r u m = first-apart r u m

module _ (z : Shape) (img : List ℕ) (s t : ℕ) (fits : ChainsFit z img) (x : ExtraOf z img s t) where
  abbrev xs : List ℕ
  xs = front z img s t fits x

  abbrev ys : List ℕ
  ys = rest z img s t fits x

  abbrev p : ℕ
  p = before z img t

  hs : s < z.settings.segments
  hs = x.segment_in

  t_in : Memᴰ t (chain z img s)
  t_in = tier_in_lem z img s t fits x

  p_in : Memᴰ p (chain z img s)
  p_in = rw (chain-at z img s t fits x) (Memᴰ.append_left (t ∷ ys) (before_in z img s t fits x))

  ys_in : (u : ℕ) → Memᴰ u ys → Memᴰ u (chain z img s)
  ys_in u m = rw (chain-at z img s t fits x) (Memᴰ.append_right (suc s ∷ xs) (Memᴰ.tail m))

  -- those before t are none of those from t on
  front-apart : Every (suc s ∷ xs) (λ u. Every (t ∷ ys) (λ v. u ≢ v))
  front-apart u m v k = linked-apart (suc s ∷ xs) (t ∷ ys) (linked-at z img s t fits x) m k

  module _ (img' : List ℕ) (w : Unlinks z img img' t p ys) where
    -- ---- another segment's chain

    module _ (q : ℕ) (hq : q < z.settings.segments) (nq : q ≢ s) where
      not_there : (u v : ℕ) → Memᴰ u (chain z img q) → Memᴰ v (chain z img s) → u ≢ v
      not_there u v m k e =
          nq (chain-segment z img fits q s u hq hs m (subst (λ (y : ℕ). Memᴰ y (chain z img s)) (sym e) k))

      other-links : Every (chain z img q) (SameLink z z.bulks img img')
      other-links u m =
          let is : IsTier z u = chain-tiers z img fits q hq u m in
          record {
            next = w.next_other u is (not_there u p m p_in) (not_there u t m t_in);
            previous = w.previous_other u is (λ h. not_there u (get_or ys 0 0) m (ys_in (get_or ys 0 0) (member ys 0 h)));
            segment = w.segments u is;
            order = w.order_other u is (λ v k. not_there u v m (ys_in v k));
          }

      pub other-chain : chain z img' q ≡ chain z img q
      other-chain = link-chain z z.bulks (omega arith) img img' q hq (fits.segments_fit q hq) other-links

      other_fits : ChainFits z img' q
      other_fits = link-fit z z.bulks (omega arith) img img' q hq (fits.segments_fit q hq) other-links

    -- ---- the chain that t left

    tiers-now : Every (suc s ∷ (xs ++ ys)) (IsTier z)
    tiers-now u m = tiers-at z img s t fits x u (member-with t (suc s ∷ xs) ys m)

    linked-now : Linked (next_of z img') (suc s) (suc s ∷ (xs ++ ys))
    linked-now =
        linked-out (suc s ∷ xs) ys (linked-at z img s t fits x) (before_in z img s t fits x) (before-next z img s t fits x)
        (λ u m np nt. w.next_other u (tiers-at z img s t fits x u m) np nt) w.next_prior

    pub shorter-chain : chain z img' s ≡ suc s ∷ (xs ++ ys)
    shorter-chain = chain-linked z img' s tiers-now linked-now

    -- ---- where its tiers stand

    abbrev order_of : List ℕ → ℕ → ℕ
    order_of i u = get z i (tier u (counter order))

    abbrev previous_of : List ℕ → ℕ → ℕ
    previous_of i u = get z i (tier u (counter previous))

    was-standing : Standing (order_of img) (previous_of img) (suc s ∷ (xs ++ (t ∷ ys)))
    was-standing =
        let st : Standing (order_of img) (previous_of img) (chain z img s) =
        λ i h.
        record { order_is = ((fits.segments_fit s hs).standing i h).order_is; previous_is = ((fits.segments_fit s hs).standing i h).previous_is } in
        rw (chain-at z img s t fits x) at st

    closes : Closes (order_of img) (previous_of img) (order_of img') (previous_of img') t (suc s ∷ xs) ys
    closes =
        record {
          before_order = λ u m. w.order_other u (front-tier u m) (λ v k. front-apart u m v (Memᴰ.tail k));
          before_previous = λ u m. w.previous_other u (front-tier u m) (λ h. front-apart u m (get_or ys 0 0) (Memᴰ.tail (member ys 0 h)));
          less_order = w.order_less;
          new_previous = w.previous_first;
          same_previous = λ u m.
              w.previous_other u (rest-tiers z img s t fits x u (drop_in ys m)) (λ h. first-once ys (rest-linked z img s t fits x) u m);
        }
      where
        front-tier : (u : ℕ) → Memᴰ u (suc s ∷ xs) → IsTier z u
        front-tier u m = tiers-at z img s t fits x u (Memᴰ.append_left (t ∷ ys) m)

    now-standing : Standing (order_of img') (previous_of img') (suc s ∷ (xs ++ ys))
    now-standing =
        standing-without (order_of img) (previous_of img) (order_of img') (previous_of img') t (suc s ∷ xs) ys was-standing closes

    says-now : Every (suc s ∷ (xs ++ ys)) (λ u. get z img' (tier u (counter segment)) ≡ s)
    says-now u m =
        w.segments u (tiers-now u m)
        ∙ says-segment z img fits s u hs (rw (chain-at z img s t fits x) (member-with t (suc s ∷ xs) ys m))

    shorter-fits : ChainFits z img' s
    shorter-fits =
        record {
          extras = rw shorter-chain (λ u m. extras-at z img s t fits x u (member-with t xs ys m));
          standing = rw shorter-chain (λ i h.
              record {
                segment_is = says-now _ (member (suc s ∷ (xs ++ ys)) i h);
                order_is = (now-standing i h).order_is;
                previous_is = (now-standing i h).previous_is;
              });
          ends = linked-ends z img' tiers-now linked-now;
        }

    -- ---- the free chain

    free-extras : Every (t ∷ free_chain z img) (IsExtra z)
    free-extras = every-cons (IsExtra z) t (free_chain z img) (is-extra z img s t fits x) fits.free_fits.extras

    free-are : Every (t ∷ free_chain z img) (IsTier z)
    free-are u m = let e : IsExtra z u = free-extras u m in omega arith

    free-now : Linked (next_of z img') (free_head z img') (t ∷ free_chain z img)
    free-now =
        run-from w.head
        (linked-front (linked-free z img fits.free_fits)
        (λ u m. free-not-chained z img fits s t u hs t_in m)
        (λ u m nt. w.next_other u (free-tiers z img fits.free_fits u m) (free-not-chained z img fits s p u hs p_in m) nt)
        (omega (arith, is-extra z img s t fits x)) w.next_own)

    pub longer-free : free_chain z img' ≡ t ∷ free_chain z img
    longer-free = free-linked z img' free-are free-now

    -- ---- what counts or adds up the chained tiers

    module _ (m : List ℕ → ℕ) (adds : (ks ls : List ℕ) → m (ks ++ ls) ≡ m ks + m ls) where
      -- one list with t, and without it
      one_less : (ks : List ℕ) → m (ks ++ (t ∷ ys)) ≡ m (ks ++ ys) + m (t ∷ [])
      one_less ks = omega (arith, adds ks ys, adds ks (t ∷ ys), adds (t ∷ []) ys)

      pub chained-shorter : m (chained z img) ≡ m (chained z img') + m (t ∷ [])
      unfolding chained
      chained-shorter =
          omega (
            arith,
            parts-change m adds (chain z img) (chain z img') s z.settings.segments hs other-chain,
            ap m (chain-at z img s t fits x),
            ap m shorter-chain,
            one_less (suc s ∷ xs),
          )

      extras-shorter : m (chained_extra z img) ≡ m (chained_extra z img') + m (t ∷ [])
      unfolding chained_extra
      extras-shorter =
          omega (
            arith,
            parts-change m adds (extras_of z img) (extras_of z img') s z.settings.segments hs (λ q hq nq. ap (drop 1) (other-chain q hq nq)),
            ap (λ (l : List ℕ). m (drop 1 l)) (chain-at z img s t fits x),
            ap (λ (l : List ℕ). m (drop 1 l)) shorter-chain,
            one_less xs,
          )

    once-again : (u : ℕ) → Once z img u → Once z img' u
    once-again u one =
        omega (
          arith,
          one,
          how_many-append (eqb u) (chained_extra z img) (free_chain z img),
          how_many-append (eqb u) (chained_extra z img') (free_chain z img'),
          extras-shorter (λ l. how_many l (eqb u)) (how_many-append (eqb u)),
          ap (λ (l : List ℕ). how_many l (eqb u)) longer-free,
          how_many-append (eqb u) (t ∷ []) (free_chain z img),
        )

    pub chains-again : ChainsFit z img'
    chains-again =
        record {
          segments_fit = λ q hq. ⊎_elim (λ (e : q ≡ s). rw e shorter-fits) (other_fits q hq) (same_or q s);
          free_fits = record { extras = rw longer-free free-extras; ends = linked-ends z img' free-are free-now };
          once = λ u m. once-again u (fits.once u m);
          used_is = omega (arith, w.used, fits.used_is, extras-shorter length length-append);
        }
