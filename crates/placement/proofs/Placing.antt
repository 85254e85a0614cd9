-- An entry that is placed: the image is sound but for the tier's counters, and has one key and record more; the tier is not empty.
use Prim.Native.Nat.{ℕ, ◌+◌, ◌<◌}
use mathlib.Core.List.{List, ◌∷◌}
use mathlib.Core.Path.{◌≡◌, ap, ◌∙◌}
use mathlib.Core.Logic.{◌≢◌}
use native.Mathlib.Omega.{arith}
use lib.ListN.{length}
use Rattle.lists.specs.Lists.{total}
use Rattle.layout.specs.declared.Shape.{Shape}
use Rattle.chains.specs.Chains.{chain}
use Rattle.entries.specs.Live.{full_slots}
use Rattle.entries.specs.Pairs.{Pair, pairs_of}
use Rattle.sound.specs.Sound.{SoundBut}
use Rattle.placement.specs.Placement.{place_at}
use Rattle.sound.proofs.Values.{pair_for, weigh}
use Rattle.sound.proofs.Empty.{none-slots, empty-weigh}
use Rattle.sound.proofs.Replaced.{OnlyTier, tier-replaced, pairs-replaced}
use Rattle.chains.proofs.AgreeChains.{same-chain}
pub use Rattle.placement.proofs.Before.{Places}
use Rattle.placement.proofs.Before.{number_for}
use Rattle.placement.proofs.Writing.{filled-only}
use Rattle.placement.proofs.Inserting.{place, after, writes, after_is, place_in, after-total}
use Rattle.placement.proofs.Kept.{pair-kept}
use Rattle.placement.proofs.Refilled.{pair-here, tier-again}

module _ {z : Shape} {img but : List ℕ} {s t c : ℕ} {key value : List ℕ} (p : Places z img but s t c key value) where
  abbrev m : List ℕ
  m = after z img t c key value

  place_is : place_at z img t c key value ≡ m
  unfolding place_at
  place_is = after_is p

  only : OnlyTier z img m t
  only = filled-only z img t c _ _ (writes p) (place z img t c key value) (number_for z key c) (place_in p)

  -- the tier's own sum grows by the new key and record
  weighs : (F : Pair → ℕ) → weigh z m F t ≡ weigh z img F t + F (record { key = key; value = value })
  unfolding weigh
  weighs F =
      after-total p (λ v. F (pair_for z img t v)) (λ v. F (pair_for z m t v)) (λ j h f. ap F (pair-kept p j h f))
      ∙ ap (λ (x : Pair). weigh z img F t + F x) (pair-here p)

  pub place-only : OnlyTier z img (place_at z img t c key value) t
  place-only = rw place_is only

  pub place-sound : SoundBut z (place_at z img t c key value) (t ∷ but)
  place-sound = rw place_is (tier-replaced z img s t p.segment_in p.sound p.tier_in m only (tier-again p))

  -- every chain stays
  pub place-chain : (q : ℕ) → q < z.settings.segments → chain z (place_at z img t c key value) q ≡ chain z img q
  place-chain q h = ap (λ (x : List ℕ). chain z x q) place_is ∙ same-chain z img m p.sound.fits.chains only.chains q h

  pub place-pairs : (F : Pair → ℕ)
      → total (pairs_of z (place_at z img t c key value)) F ≡ total (pairs_of z img) F + F (record { key = key; value = value })
  place-pairs F =
      rw place_is (omega (arith, pairs-replaced z img s t p.segment_in p.sound p.tier_in m only F, weighs F))

  -- the tier has an entry now
  pub place-full : length (full_slots z (place_at z img t c key value) t) ≢ 0
  place-full none =
      let empty : length (full_slots z m t) ≡ 0 = rw place_is at none in
      omega (arith, weighs (λ _. 1), empty-weigh z m t (none-slots z m t empty) (λ _. 1))
