-- Where an extra tier stands in its segment's chain: behind which tiers, and before which.
use Prim.Native.Nat.{ℕ, zero, suc, ◌≤◌, ◌<◌}
use mathlib.Core.List.{List, ◌∷◌, ◌++◌, Memᴰ}
use mathlib.Core.Path.{◌≡◌, refl, ap, sym, ◌∙◌, subst, subst₂}
use native.Mathlib.Omega.{arith}
use lib.Dec.{eqb}
use lib.ListN.{length, get_or, length-append, get_or-append}
use lib.Seq.{get_or-append_seam}
use Rattle.lists.specs.Lists.{below}
use Rattle.lists.specs.Quantify.{Every}
use Rattle.lists.proofs.Lists.{member, in_span, how_many-le}
use Rattle.lists.proofs.Members.{in_flat_map}
use Rattle.lists.proofs.Counted.{member-place, member-met}
use Rattle.links.specs.Links.{Linked}
use Rattle.links.proofs.Splits.{Splits, member-splits}
use Rattle.links.proofs.Runs.{run-after, run-next}
use Rattle.links.proofs.Edits.{linked-rest}
use Rattle.links.proofs.Follow.{follow-linked, end-linked}
use Rattle.layout.specs.declared.Shape.{Shape}
use Rattle.layout.specs.Tiers.{tiers, IsTier, IsExtra}
use Rattle.layout.specs.declared.Global.TheVariants.{UsedTiers as usedTiers}
use Rattle.layout.specs.declared.Counter.TheVariants.{Order as order}
use Rattle.layout.specs.Places.{get, global, tier, counter}
use Rattle.layout.specs.Frame.{Framed}
use Rattle.chains.specs.Chains.{next_of, end_of, chain, chained_extra, StandsAt, ChainsFit}
use Rattle.chains.specs.Walk.{extras_of}
use Rattle.chains.proofs.Segments.{chain-cons, extras-of}
use Rattle.chains.proofs.Tiers.{chain-tiers}
use Rattle.chains.proofs.Linked.{linked-chain}
use Rattle.unlinking.specs.Unlinking.{before, later}
use Rattle.unlinking.specs.Asking.{CanLower, ExtraOf}

-- the main tier, and the extra ones
pub chain-whole : (z : Shape) (img : List ℕ) (s : ℕ) → s < z.settings.segments → chain z img s ≡ suc s ∷ extras_of z img s
chain-whole z img s hs = chain-cons z img s hs ∙ ap (λ (l : List ℕ). suc s ∷ l) (sym (extras-of z img s hs))

module _ (z : Shape) (img : List ℕ) (s t : ℕ) (fits : ChainsFit z img) (x : ExtraOf z img s t) where
  whole : chain z img s ≡ suc s ∷ extras_of z img s
  whole = chain-whole z img s x.segment_in

  pub parts : Splits t (extras_of z img s)
  parts = member-splits x.tier_in

  -- the extra tiers before it, and those after it
  abbrev pub front : List ℕ
  front = parts.before

  abbrev pub rest : List ℕ
  rest = parts.after

  pub chain-at : chain z img s ≡ suc s ∷ (front ++ (t ∷ rest))
  chain-at = whole ∙ ap (λ (l : List ℕ). suc s ∷ l) parts.is

  pub tier_in_lem : Memᴰ t (chain z img s)
  tier_in_lem = rw chain-at (mathlib.Core.List.Memᴰ.append_right (suc s ∷ front) (mathlib.Core.List.Memᴰ.head refl))

  pub linked-at : Linked (next_of z img) (suc s) (suc s ∷ (front ++ (t ∷ rest)))
  linked-at = rw chain-at at (linked-chain z img s (fits.segments_fit s x.segment_in))

  pub tiers-at : Every (suc s ∷ (front ++ (t ∷ rest))) (IsTier z)
  tiers-at = rw chain-at at (chain-tiers z img fits s x.segment_in)

  pub extras-at : Every (front ++ (t ∷ rest)) (IsExtra z)
  extras-at = rw parts.is at (fits.segments_fit s x.segment_in).extras

  pub is-extra : IsExtra z t
  is-extra = (fits.segments_fit s x.segment_in).extras t x.tier_in

  -- ---- the tier before it

  place : StandsAt z img s (suc (length front)) t (get_or (suc s ∷ front) (length front) 0)
  place =
      let long : suc (length front) < length (chain z img s) = omega (arith, ap length chain-at, length-append front (t ∷ rest)) in
      let here : get_or (chain z img s) (suc (length front)) 0 ≡ t = rw chain-at (get_or-append_seam front t rest 0) in
      let prior : get_or (chain z img s) (length front) 0 ≡ get_or (suc s ∷ front) (length front) 0 =
      rw chain-at (get_or-append (suc s ∷ front) (t ∷ rest) 0 (length front) (omega arith)) in
      subst₂ (StandsAt z img s (suc (length front))) here prior ((fits.segments_fit s x.segment_in).standing (suc (length front)) long)

  pub before_in : Memᴰ (before z img t) (suc s ∷ front)
  before_in = subst (λ (u : ℕ). Memᴰ u (suc s ∷ front)) (sym place.previous_is) (member (suc s ∷ front) (length front) (omega arith))

  pub before-next : next_of z img (before z img t) ≡ t
  before-next =
      ap (next_of z img) (place.previous_is ∙ sym (get_or-append (suc s ∷ front) (t ∷ rest) 0 (length front) (omega arith)))
      ∙ sym (run-next (length front) linked-at (omega (arith, length-append front (t ∷ rest))))
      ∙ get_or-append_seam front t rest 0

  -- ---- the tiers after it

  pub rest-linked : Linked (next_of z img) (next_of z img t) rest
  rest-linked = linked-rest (run-after (suc s ∷ front) linked-at) (λ u m ne. refl)

  pub rest-tiers : Every rest (IsTier z)
  rest-tiers u m = tiers-at u (mathlib.Core.List.Memᴰ.append_right (suc s ∷ front) (mathlib.Core.List.Memᴰ.tail m))

  pub later-is : later z img t ≡ rest
  unfolding later
  later-is = follow-linked (tiers z) rest-linked (λ u m. (rest-tiers u m).1)

  later-ends : end_of z img (tiers z) (next_of z img t) ≡ 0
  later-ends = end-linked (tiers z) rest-linked (λ u m. (rest-tiers u m).1)

  -- ---- what the function's calls ask

  pub is-tier : IsTier z t
  is-tier = omega (arith, is-extra)

  pub before-tier : IsTier z (before z img t)
  before-tier = tiers-at (before z img t) (mathlib.Core.List.Memᴰ.append_left (t ∷ rest) before_in)

  -- the tier is one of the used ones
  pub used-some : 1 ≤ get z img (global usedTiers)
  unfolding chained_extra
  used-some =
      let segments : ℕ = z.settings.segments in
      let m : Memᴰ t (chained_extra z img) =
      in_flat_map (extras_of z img) (below segments) (in_span 0 segments s (omega arith) (omega (arith, x.segment_in))) x.tier_in in
      omega (arith, fits.used_is, member-met t (chained_extra z img) m, how_many-le (eqb t) (chained_extra z img))

  -- an extra tier is not the first of its chain
  extra-order : Every (extras_of z img s) (λ u. 1 ≤ get z img (tier u (counter order)))
  extra-order u m =
      let e : IsExtra z u = (fits.segments_fit s x.segment_in).extras u m in
      let r : (i : ℕ) × (i < length (chain z img s)) × (get_or (chain z img s) i 0 ≡ u) =
      member-place u (chain z img s) (rw whole (mathlib.Core.List.Memᴰ.tail m)) in
      let o : get z img (tier u (counter order)) ≡ r.0 =
      subst (λ (v : ℕ). get z img (tier v (counter order)) ≡ r.0) r.2
      ((fits.segments_fit s x.segment_in).standing r.0 r.1).order_is in
      not_first r.0 u r.2 e o
    where
      not_first : (i u : ℕ) → get_or (chain z img s) i 0 ≡ u → IsExtra z u → get z img (tier u (counter order)) ≡ i
          → 1 ≤ get z img (tier u (counter order))
      not_first zero u q e o =
          let first : get_or (chain z img s) 0 0 ≡ suc s = ap (λ (l : List ℕ). get_or l 0 0) whole in
          absurd (omega (arith, x.segment_in, e.0))
      not_first (suc i) u q e o = omega arith

  pub rest-orders : Every rest (λ u. 1 ≤ get z img (tier u (counter order)))
  rest-orders u m = extra-order u (rw parts.is (mathlib.Core.List.Memᴰ.append_right front (mathlib.Core.List.Memᴰ.tail m)))

  pub lower-asks : Framed z (length img) → {n : ℕ} → n ≡ next_of z img t → CanLower z img n
  unfolding later
  lower-asks fr e =
      let is : later z img t ≡ rest = later-is in
      rw e
      (record {
        framed = fr;
        ends = later-ends;
        tiers_of = rw is rest-tiers;
        not_first = rw is rest-orders;
      })
