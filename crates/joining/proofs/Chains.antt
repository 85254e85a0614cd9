-- The chains after a free tier joined the end of one: that one is longer by the tier, the free chain is shorter, the others are as they were.
use Prim.Native.Nat.{ℕ, suc, ◌-◌, ◌<◌}
use mathlib.Core.List.{List, [], ◌∷◌, ◌++◌, Memᴰ}
use mathlib.Core.Path.{◌≡◌, sym, subst}
use mathlib.Core.Logic.{◌≢◌}
use native.Mathlib.Omega.{arith}
use lib.ListN.{length}
use Rattle.lists.specs.Quantify.{Every}
use Rattle.lists.proofs.Members.{every_more}
use Rattle.links.specs.Links.{Linked}
use Rattle.links.proofs.Runs.{run-from}
use Rattle.links.proofs.Edits.{linked-one, linked-append, linked-rest}
use Rattle.layout.specs.declared.Shape.{Shape}
use Rattle.layout.specs.Tiers.{tiers, IsTier}
use Rattle.layout.specs.declared.Counter.TheVariants.{Previous as previous, Segment as segment, Order as order}
use Rattle.chains.specs.Chains.{next_of, follow, end_of, chain, free_head, free_chain, ChainFits, ChainsFit, last_tier}
use Rattle.chains.proofs.Tiers.{chain-tiers, free-tiers}
use Rattle.chains.proofs.Linked.{linked-chain, chain-linked, free-linked, linked-ends}
use Rattle.chains.proofs.Chained.{chain-segment, free-not-chained}
use Rattle.chains.proofs.AgreeChains.{SameLink, link-chain, link-fit}
use Rattle.chains.proofs.Segments.{last-in}
use Rattle.joining.proofs.Ends.{last-next, free-cons, free-list, new-tier, not_new}
use Rattle.joining.proofs.Writes.{Joins}

module _ (z : Shape) (img : List ℕ) (s : ℕ) (hs : s < z.settings.segments) (fits : ChainsFit z img) (ne : free_head z img ≢ 0) where
  -- the free tiers after the first
  abbrev pub others : List ℕ
  others = follow z img (tiers z - 1) (next_of z img (free_head z img))

  pub others-free : (u : ℕ) → Memᴰ u others → Memᴰ u (free_chain z img)
  others-free u m = rw (free-cons z img s hs fits ne) (Memᴰ.tail m)

  others-tiers : Every others (IsTier z)
  others-tiers u m = free-tiers z img fits.free_fits u (others-free u m)

  module _ (img' : List ℕ) (j : Joins z img img' s (free_head z img) (last_tier z img s) (length (chain z img s))) where
    -- ---- another segment's chain

    module _ (q : ℕ) (hq : q < z.settings.segments) (nq : q ≢ s) where
      not_last : (u : ℕ) → Memᴰ u (chain z img q) → u ≢ last_tier z img s
      not_last u m e =
          nq (chain-segment z img fits q s u hq hs m (subst (λ (x : ℕ). Memᴰ x (chain z img s)) (sym e) (last-in z img s hs)))

      other-links : Every (chain z img q) (SameLink z z.bulks img img')
      other-links u m =
          let is : IsTier z u = chain-tiers z img fits q hq u m in
          let old : u ≢ free_head z img = not_new z img s hs fits ne q u hq m in
          record {
            next = j.next_other u is (not_last u m) old;
            previous = j.counters previous (omega arith) u is old;
            segment = j.counters segment (omega arith) u is old;
            order = j.counters order (omega arith) u is old;
          }

      pub other-chain : chain z img' q ≡ chain z img q
      other-chain = link-chain z z.bulks (omega arith) img img' q hq (fits.segments_fit q hq) other-links

      pub other_fits : ChainFits z img' q
      other_fits = link-fit z z.bulks (omega arith) img img' q hq (fits.segments_fit q hq) other-links

    -- ---- the chain that the tier joined

    joined-tiers : Every (chain z img s ++ (free_head z img ∷ [])) (IsTier z)
    joined-tiers = every_more (chain z img s) (free_head z img) (chain-tiers z img fits s hs) (new-tier z img s hs fits ne)

    joined-linked : Linked (next_of z img') (suc s) (chain z img s ++ (free_head z img ∷ []))
    joined-linked =
        linked-append (linked-chain z img s (fits.segments_fit s hs)) (last-in z img s hs) (last-next z img s hs fits)
        (λ u m nl. j.next_other u (chain-tiers z img fits s hs u m) nl (not_new z img s hs fits ne s u hs m))
        j.next_last (linked-one ne j.next_new)

    pub longer-chain : chain z img' s ≡ chain z img s ++ (free_head z img ∷ [])
    longer-chain = chain-linked z img' s joined-tiers joined-linked

    pub longer-ends : end_of z img' (tiers z) (suc s) ≡ 0
    longer-ends = linked-ends z img' joined-tiers joined-linked

    -- ---- the free chain

    others-linked : Linked (next_of z img') (free_head z img') others
    others-linked =
        run-from j.head
        (linked-rest (free-list z img s hs fits ne)
        (λ u m nt.
        j.next_other u (others-tiers u m)
        (free-not-chained z img fits s (last_tier z img s) u hs (last-in z img s hs) (others-free u m)) nt))

    pub shorter-free : free_chain z img' ≡ others
    shorter-free = free-linked z img' others-tiers others-linked

    pub free-ends : end_of z img' (tiers z) (free_head z img') ≡ 0
    free-ends = linked-ends z img' others-tiers others-linked
