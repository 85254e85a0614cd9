-- The last tier of a chain and the first of the free chain, and that joining does what its writes say.
use Prim.Native.Nat.{ℕ, suc, ◌-◌, ◌≤◌, ◌<◌}
use mathlib.Core.List.{List, ◌∷◌, Memᴰ}
use mathlib.Core.Path.{◌≡◌, refl, ap, sym, ◌∙◌}
use mathlib.Core.Logic.{◌≢◌}
use native.Mathlib.Omega.{arith}
use lib.ListN.{length, length-append}
use Rattle.links.specs.Links.{Linked}
use Rattle.links.proofs.Runs.{run-last, linked-start}
use Rattle.links.proofs.Follow.{follow-more, length-follow}
use Rattle.links.proofs.Edits.{linked-rest}
use Rattle.layout.specs.declared.Shape.{Shape}
use Rattle.layout.specs.Tiers.{tiers, IsTier, IsExtra}
use Rattle.layout.specs.declared.Global.TheVariants.{UsedTiers as usedTiers}
use Rattle.layout.specs.Places.{get, global}
use Rattle.layout.specs.Frame.{Image}
use Rattle.chains.specs.Chains.{next_of, follow, chain, free_head, free_chain, chained_extra, ChainsFit, last_tier}
use Rattle.chains.proofs.Segments.{segments-le, chain-some, last-in}
use Rattle.chains.proofs.Tiers.{chain-tiers, free-tiers}
use Rattle.chains.proofs.Linked.{linked-chain, linked-free}
use Rattle.chains.proofs.Chained.{free-not-chained}
use Rattle.chains.proofs.Counts.{extras-number}
use Rattle.joining.specs.Joining.{join}
use Rattle.joining.proofs.Writes.{Joins, joins}

module _ (z : Shape) (img : List ℕ) (s : ℕ) (hs : s < z.settings.segments) (fits : ChainsFit z img) where
  -- ---- the last tier of the chain

  pub last-next : next_of z img (last_tier z img s) ≡ 0
  last-next = run-last (linked-chain z img s (fits.segments_fit s hs)) (chain-some z img s hs)

  module _ (ne : free_head z img ≢ 0) where
    -- ---- the first tier of the free chain, and the others

    pub free-cons : free_chain z img ≡ free_head z img ∷ follow z img (tiers z - 1) (next_of z img (free_head z img))
    unfolding free_chain
    free-cons =
        let some : tiers z ≡ suc (tiers z - 1) = omega (arith, segments-le z img) in
        ap (λ (n : ℕ). follow z img n (free_head z img)) some ∙ follow-more (next_of z img) (tiers z - 1) (free_head z img) ne

    pub free-list : Linked (next_of z img) (free_head z img) (free_head z img ∷ follow z img (tiers z - 1) (next_of z img (free_head z img)))
    free-list = rw free-cons at (linked-free z img fits.free_fits)

    pub new_in : Memᴰ (free_head z img) (free_chain z img)
    new_in = rw free-cons (Memᴰ.head refl)

    pub new-extra : IsExtra z (free_head z img)
    new-extra = fits.free_fits.extras (free_head z img) new_in

    pub new-tier : IsTier z (free_head z img)
    new-tier = free-tiers z img fits.free_fits (free_head z img) new_in

    pub not_new : (s' u : ℕ) → s' < z.settings.segments → Memᴰ u (chain z img s') → u ≢ free_head z img
    not_new s' u h m e = free-not-chained z img fits s' u (free_head z img) h m new_in (sym e)

    next_small : next_of z img (free_head z img) ≤ tiers z
    next_small =
        linked-start (linked-rest free-list (λ u m nt. refl)) (λ u m. (free-tiers z img fits.free_fits u (rw free-cons (Memᴰ.tail m))).1)

    pub used-small : get z img (global usedTiers) < tiers z
    unfolding tiers
    used-small =
        omega (arith, hs, fits.used_is, extras-number z img fits, length-append (chained_extra z img) (free_chain z img), ap length free-cons)

    -- ---- what joining does

    pub join-joins : Image z img → Joins z img (join z img s) s (free_head z img) (last_tier z img s) (length (chain z img s))
    unfolding join chain
    join-joins im =
        let c : tiers z ≤ 1024 = im.framed.tier_count in
        let t : IsTier z (free_head z img) = new-tier in
        let last-is : IsTier z (last_tier z img s) = chain-tiers z img fits s hs (last_tier z img s) (last-in z img s hs) in
        let g : z.settings.segments ≤ tiers z = segments-le z img in
        let n : length (chain z img s) ≤ tiers z = length-follow (next_of z img) (tiers z) (suc s) in
        joins im s (free_head z img) (last_tier z img s) (next_of z img (free_head z img)) (suc (get z img (global usedTiers))) (length (chain z img s))
        new-tier last-is (not_new s (last_tier z img s) hs (last-in z img s hs)) refl refl
        (omega arith) (omega (arith, next_small)) (omega (arith, used-small)) (omega arith) (omega arith) (omega arith)
