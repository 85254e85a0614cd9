-- Two images that agree on what makes the chains: one segment's chain, where there may be more bulks than before; all segments'; all chains.
use Prim.Native.Nat.{ℕ, suc, ◌≤◌, ◌<◌}
use mathlib.Core.List.{List, ◌∷◌}
use mathlib.Core.Path.{◌≡◌, ap, sym, ◌∙◌, subst}
use native.Mathlib.Omega.{arith}
use native.Mathlib.Nat.{mul-le-mul_right}
use lib.ListN.{length, get_or, drop}
use Rattle.lists.specs.Lists.{below}
use Rattle.lists.specs.Quantify.{Below, Every}
use Rattle.lists.proofs.Lists.{member, span_in}
use Rattle.lists.proofs.SameLists.{same_flat_map}
use Rattle.links.specs.Links.{Linked}
use Rattle.links.proofs.Runs.{run-from, run-same}
use Rattle.layout.specs.declared.Shape.{Shape}
use Rattle.layout.specs.Tiers.{tiers, IsTier, IsExtra}
use Rattle.layout.specs.declared.Global.TheVariants.{UsedTiers as usedTiers}
use Rattle.layout.specs.declared.Counter.TheVariants.{Previous as previous, Segment as segment, Order as order}
use Rattle.layout.specs.Places.{get, global, tier, counter}
use Rattle.chains.specs.Chains.{next_of, chain, free_head, free_chain, chained, chained_extra, StandsAt, ChainFits, FreeChainFits, ChainsFit}
use Rattle.chains.proofs.Tiers.{chain-from-extras, chain-tiers, free-tiers}
use Rattle.chains.proofs.Linked.{linked-chain, linked-free, chain-linked, free-linked, linked-ends}

-- the shape with another number of bulks
abbrev pub with_bulks : Shape → ℕ → Shape
with_bulks z b = record { settings = z.settings; headers = z.headers; bulks = b }

-- ---- one segment's chain

-- tier u has the same next and says the same of where it stands
pub record SameLink (z : Shape) (b : ℕ) (img img' : List ℕ) (u : ℕ) : Type 0 where
  pub next : next_of (with_bulks z b) img' u ≡ next_of z img u
  pub previous : get (with_bulks z b) img' (tier u (counter previous)) ≡ get z img (tier u (counter previous))
  pub segment : get (with_bulks z b) img' (tier u (counter segment)) ≡ get z img (tier u (counter segment))
  pub order : get (with_bulks z b) img' (tier u (counter order)) ≡ get z img (tier u (counter order))

module _ (z : Shape) (b : ℕ) (more : z.bulks ≤ b) where
  tiers-more : tiers z ≤ tiers (with_bulks z b)
  unfolding tiers
  tiers-more = omega (arith, mul-le-mul_right z.settings.bulkTiers more)

  pub tier-more : (u : ℕ) → IsTier z u → IsTier (with_bulks z b) u
  tier-more u h = omega (arith, tiers-more)

  pub extra-more : (u : ℕ) → IsExtra z u → IsExtra (with_bulks z b) u
  extra-more u h = omega (arith, tiers-more)

  module _ (img img' : List ℕ) (s : ℕ) (hs : s < z.settings.segments) (f : ChainFits z img s)
      (same : Every (chain z img s) (SameLink z b img img')) where
    abbrev z' : Shape
    z' = with_bulks z b

    were_tiers : Every (chain z img s) (IsTier z)
    were_tiers = chain-from-extras z img s hs f.extras

    still-tiers : Every (chain z img s) (IsTier z')
    still-tiers u m = tier-more u (were_tiers u m)

    chain-now : Linked (next_of z' img') (suc s) (chain z img s)
    chain-now = run-same (λ u m. (same u m).next) (linked-chain z img s f)

    pub link-chain : chain (with_bulks z b) img' s ≡ chain z img s
    link-chain = chain-linked z' img' s still-tiers chain-now

    -- a tier says the same of where it stands
    still-stands : (i t u : ℕ) → SameLink z b img img' t → StandsAt z img s i t u → StandsAt z' img' s i t u
    still-stands i t u l w =
        record { segment_is = l.segment ∙ w.segment_is; order_is = l.order ∙ w.order_is; previous_is = l.previous ∙ w.previous_is }

    pub link-fit : ChainFits (with_bulks z b) img' s
    link-fit =
        let e : chain z img s ≡ chain z' img' s = sym link-chain in
        let stands : Below (length (chain z img s)) (λ i. StandsAt z' img' s i (get_or (chain z img s) i 0) (get_or (0 ∷ chain z img s) i 0)) =
        λ i l. still-stands i _ _ (same _ (member (chain z img s) i l)) (f.standing i l) in
        record {
          extras = subst (λ (l : List ℕ). Every (drop 1 l) (IsExtra z')) e (λ u m. extra-more u (f.extras u m));
          standing = subst (λ (l : List ℕ). Below (length l) (λ i. StandsAt z' img' s i (get_or l i 0) (get_or (0 ∷ l) i 0))) e stands;
          ends = linked-ends z' img' still-tiers chain-now;
        }

-- ---- the segments' chains

abbrev pub SameLinks : Shape → ℕ → List ℕ → List ℕ → Type 0
SameLinks z b img img' = (u : ℕ) → IsTier z u → SameLink z b img img' u

module _ (z : Shape) (b : ℕ) (more : z.bulks ≤ b) (img img' : List ℕ) (fits : ChainsFit z img) (same : SameLinks z b img img') where
  open z use {settings}
  open settings use {segments}

  along : (s : ℕ) → s < segments → Every (chain z img s) (SameLink z b img img')
  along s h u m = same u (chain-tiers z img fits s h u m)

  pub links-chain : (s : ℕ) → s < z.settings.segments → chain (with_bulks z b) img' s ≡ chain z img s
  links-chain s h = link-chain z b more img img' s h (fits.segments_fit s h) (along s h)

  pub links-chained : chained (with_bulks z b) img' ≡ chained z img
  unfolding chained
  links-chained =
      same_flat_map (chain (with_bulks z b) img') (chain z img) (below segments) (λ s m. links-chain s (omega (arith, span_in 0 segments s m)))

  pub links-extras : chained_extra (with_bulks z b) img' ≡ chained_extra z img
  unfolding chained_extra
  links-extras =
      same_flat_map (λ s. drop 1 (chain (with_bulks z b) img' s)) (λ s. drop 1 (chain z img s)) (below segments)
      (λ s m. ap (drop 1) (links-chain s (omega (arith, span_in 0 segments s m))))

  pub links-fit : (s : ℕ) → s < z.settings.segments → ChainFits (with_bulks z b) img' s
  links-fit s h = link-fit z b more img img' s h (fits.segments_fit s h) (along s h)

-- ---- all chains, of one shape

pub record SameChains (z : Shape) (img img' : List ℕ) : Type 0 where
  pub nexts : (u : ℕ) → IsTier z u → next_of z img' u ≡ next_of z img u
  pub previous : (u : ℕ) → IsTier z u → get z img' (tier u (counter previous)) ≡ get z img (tier u (counter previous))
  pub segment : (u : ℕ) → IsTier z u → get z img' (tier u (counter segment)) ≡ get z img (tier u (counter segment))
  pub order : (u : ℕ) → IsTier z u → get z img' (tier u (counter order)) ≡ get z img (tier u (counter order))
  pub head : free_head z img' ≡ free_head z img
  pub used : get z img' (global usedTiers) ≡ get z img (global usedTiers)

module _ (z : Shape) (img img' : List ℕ) (fits : ChainsFit z img) (same : SameChains z img img') where
  links : SameLinks z z.bulks img img'
  links u is = record { next = same.nexts u is; previous = same.previous u is; segment = same.segment u is; order = same.order u is }

  free-now : Linked (next_of z img') (free_head z img') (free_chain z img)
  free-now = run-from same.head (run-same (λ u m. same.nexts u (free-tiers z img fits.free_fits u m)) (linked-free z img fits.free_fits))

  pub same-chain : (s : ℕ) → s < z.settings.segments → chain z img' s ≡ chain z img s
  same-chain = links-chain z z.bulks (omega arith) img img' fits links

  pub same-free_chain : free_chain z img' ≡ free_chain z img
  same-free_chain = free-linked z img' (free-tiers z img fits.free_fits) free-now

  pub same-chained : chained z img' ≡ chained z img
  same-chained = links-chained z z.bulks (omega arith) img img' fits links

  free-still : FreeChainFits z img → FreeChainFits z img'
  free-still f =
      record {
        extras = subst (λ (l : List ℕ). Every l (IsExtra z)) (sym same-free_chain) f.extras;
        ends = linked-ends z img' (free-tiers z img fits.free_fits) free-now;
      }

  pub same-chains-fit : ChainsFit z img'
  same-chains-fit =
      let same-extras : chained_extra z img' ≡ chained_extra z img = links-extras z z.bulks (omega arith) img img' fits links in
      record {
        segments_fit = links-fit z z.bulks (omega arith) img img' fits links;
        free_fits = free-still fits.free_fits;
        once = λ t m. rw (same-extras, same-free_chain) (fits.once t m);
        used_is = same.used ∙ fits.used_is ∙ ap length (sym same-extras);
      }
