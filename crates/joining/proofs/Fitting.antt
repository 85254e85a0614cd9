-- After a free tier joined the end of a chain the chains fit.
use Prim.Native.Nat.{ℕ, ◌+◌, ◌<◌}
use mathlib.Core.List.{List, [], ◌∷◌, ◌++◌, Memᴰ}
use mathlib.Core.Path.{◌≡◌, refl, ap, sym, ◌∙◌, subst, subst₂}
use mathlib.Core.Logic.{⊎_elim, ◌≢◌}
use native.Mathlib.Omega.{arith}
use lib.Dec.{eqb}
use lib.ListN.{length, get_or, drop, length-append, get_or-append}
use lib.Seq.{get_or-append_seam}
use Rattle.lists.specs.Cases.{same_or}
use Rattle.lists.specs.Lists.{how_many}
use Rattle.lists.specs.Quantify.{Below, Every}
use Rattle.lists.proofs.Lists.{how_many-append, member}
use Rattle.layout.specs.declared.Shape.{Shape}
use Rattle.layout.specs.Tiers.{IsTier, IsExtra}
use Rattle.layout.specs.declared.Counter.TheVariants.{Previous as previous, Segment as segment, Order as order}
use Rattle.chains.specs.Chains.{chain, free_head, free_chain, chained, chained_extra, Once, StandsAt, ChainFits, ChainsFit, last_tier}
use Rattle.chains.proofs.Tiers.{chain-tiers}
use Rattle.chains.proofs.Segments.{chain-some, last-met}
use Rattle.joining.proofs.Ends.{free-cons, new-extra, not_new}
use Rattle.lists.proofs.Parts.{parts-longer}
use Rattle.joining.proofs.Chains.{others, others-free, other-chain, other_fits, longer-chain, longer-ends, shorter-free, free-ends}
use Rattle.joining.proofs.Writes.{Joins}

drop-append : (xs ys : List ℕ) → 0 < length xs → drop 1 (xs ++ ys) ≡ drop 1 xs ++ ys
drop-append [] ys h = absurd (omega arith)
drop-append (x ∷ xs) ys h = refl

module _ (z : Shape) (img : List ℕ) (s : ℕ) (hs : s < z.settings.segments) (fits : ChainsFit z img) (ne : free_head z img ≢ 0)
    (img' : List ℕ) (j : Joins z img img' s (free_head z img) (last_tier z img s) (length (chain z img s))) where
  -- ---- what counts or adds up the chained tiers

  module _ (m : List ℕ → ℕ) (adds : (xs ys : List ℕ) → m (xs ++ ys) ≡ m xs + m ys) where
    pub chained-longer : m (chained z img') ≡ m (chained z img) + m (free_head z img ∷ [])
    unfolding chained
    chained-longer =
        parts-longer m adds (chain z img) (chain z img') s (free_head z img) (longer-chain z img s hs fits ne img' j) z.settings.segments hs
        (other-chain z img s hs fits ne img' j)

    extras-longer : m (chained_extra z img') ≡ m (chained_extra z img) + m (free_head z img ∷ [])
    unfolding chained_extra
    extras-longer =
        parts-longer m adds (λ q. drop 1 (chain z img q)) (λ q. drop 1 (chain z img' q)) s (free_head z img)
        (ap (drop 1) (longer-chain z img s hs fits ne img' j) ∙ drop-append (chain z img s) (free_head z img ∷ []) (chain-some z img s hs))
        z.settings.segments hs
        (λ q hq nq. ap (drop 1) (other-chain z img s hs fits ne img' j q hq nq))

  -- ---- where the tiers stand

  -- those that were there stand where they stood
  stood : (i : ℕ) → i < length (chain z img s) → StandsAt z img' s i (get_or (chain z img s) i 0) (get_or (0 ∷ chain z img s) i 0)
  stood i h =
      let u : ℕ = get_or (chain z img s) i 0 in
      let m : Memᴰ u (chain z img s) = member (chain z img s) i h in
      let is : IsTier z u = chain-tiers z img fits s hs u m in
      let old : u ≢ free_head z img = not_new z img s hs fits ne s u hs m in
      let w : StandsAt z img s i u (get_or (0 ∷ chain z img s) i 0) = (fits.segments_fit s hs).standing i h in
      record {
        segment_is = j.counters segment (omega arith) u is old ∙ w.segment_is;
        order_is = j.counters order (omega arith) u is old ∙ w.order_is;
        previous_is = j.counters previous (omega arith) u is old ∙ w.previous_is;
      }

  stands-new : Below (length (chain z img s ++ (free_head z img ∷ [])))
      (λ i. StandsAt z img' s i (get_or (chain z img s ++ (free_head z img ∷ [])) i 0) (get_or (0 ∷ (chain z img s ++ (free_head z img ∷ []))) i 0))
  stands-new i h =
      let c : List ℕ = chain z img s in
      let t : ℕ = free_head z img in
      let long : i < length c + 1 = omega (arith, length-append c (t ∷ [])) in
      let b : get_or (0 ∷ (c ++ (t ∷ []))) i 0 ≡ get_or (0 ∷ c) i 0 = get_or-append (0 ∷ c) (t ∷ []) 0 i (omega arith) in
      ⊎_elim
      (λ (e : i ≡ length c).
      let a : get_or (c ++ (t ∷ [])) i 0 ≡ t = rw e (get_or-append_seam c t [] 0) in
      let d : get_or (0 ∷ (c ++ (t ∷ []))) i 0 ≡ last_tier z img s = b ∙ rw e (last-met z img s hs) in
      subst₂ (StandsAt z img' s i) (sym a) (sym d) (record { segment_is = j.segment_new; order_is = j.order_new ∙ sym e; previous_is = j.previous_new }))
      (λ (e : i ≢ length c).
      let k : i < length c = omega arith in
      subst₂ (StandsAt z img' s i) (sym (get_or-append c (t ∷ []) 0 i k)) (sym b) (stood i k))
      (same_or i (length c))

  -- ---- the rules

  extras-new : Every (drop 1 (chain z img s ++ (free_head z img ∷ []))) (IsExtra z)
  extras-new =
      rw (drop-append (chain z img s) (free_head z img ∷ []) (chain-some z img s hs))
      (λ u m.
      ⊎_elim
      (λ k. (fits.segments_fit s hs).extras u k)
      (λ k. subst (IsExtra z) (sym (mathlib.Core.List.Memᴰ.eq_of_singleton k)) (new-extra z img s hs fits ne))
      (mathlib.Core.List.Memᴰ.append_cases (drop 1 (chain z img s)) m))

  fits-joined : ChainFits z img' s
  fits-joined =
      let e : chain z img' s ≡ chain z img s ++ (free_head z img ∷ []) = longer-chain z img s hs fits ne img' j in
      record { extras = rw e extras-new; standing = rw e stands-new; ends = longer-ends z img s hs fits ne img' j }

  once-again : (u : ℕ) → Once z img u → Once z img' u
  once-again u w =
      let t : ℕ = free_head z img in
      let rest : List ℕ = others z img s hs fits ne in
      omega (
        arith,
        w,
        how_many-append (eqb u) (chained_extra z img) (free_chain z img),
        how_many-append (eqb u) (chained_extra z img') (free_chain z img'),
        extras-longer (λ xs. how_many xs (eqb u)) (how_many-append (eqb u)),
        ap (λ (r : List ℕ). how_many r (eqb u)) (shorter-free z img s hs fits ne img' j),
        ap (λ (r : List ℕ). how_many r (eqb u)) (free-cons z img s hs fits ne),
        how_many-append (eqb u) (t ∷ []) rest,
      )

  pub chains-again : ChainsFit z img'
  chains-again =
      record {
        segments_fit = λ q hq. ⊎_elim (λ (e : q ≡ s). rw e fits-joined) (λ e. other_fits z img s hs fits ne img' j q hq e) (same_or q s);
        free_fits =
            record {
              extras = rw (shorter-free z img s hs fits ne img' j) (λ u m. fits.free_fits.extras u (others-free z img s hs fits ne u m));
              ends = free-ends z img s hs fits ne img' j;
            };
        once = λ u m. once-again u (fits.once u m);
        used_is = omega (arith, j.used, fits.used_is, extras-longer length length-append);
      }
