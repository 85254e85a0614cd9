-- The seven writes of `join`, one after the other.
use Prim.Native.Nat.{ℕ, suc, ◌+◌}
use mathlib.Core.List.{List}
use mathlib.Core.Path.{◌≡◌}
use native.Mathlib.Omega.{arith}
use lib.ListN.{length}
use Rattle.layout.specs.declared.Shape.{Shape}
use Rattle.layout.specs.declared.Global.TheVariants.{FirstFree as firstFree, UsedTiers as usedTiers}
use Rattle.layout.specs.declared.Counter.TheVariants.{Previous as previous, Segment as segment, Order as order}
use Rattle.layout.specs.Places.{get, put, puts, global, tier, counter, next_place}
use Rattle.chains.specs.Chains.{chain, next_of, free_head, last_tier}
use Rattle.joining.specs.Joining.{join}

module _ (z : Shape) (img : List ℕ) (s : ℕ) where
  -- what is read before the first write
  pub record Found (free next used last count : ℕ) : Type 0 where
    pub free_is : free ≡ free_head z img
    pub next_is : next ≡ next_of z img free
    pub used_is : used ≡ get z img (global usedTiers)
    pub last_is : last ≡ last_tier z img s
    pub count_is : count ≡ length (chain z img s)

  pub joined : {free next used last count : ℕ} → Found free next used last count
      → {i₁ i₂ i₃ i₄ i₅ i₆ i₇ : List ℕ}
      → i₁ ≡ put z img (next_place z last) free
      → i₂ ≡ put z i₁ (global firstFree) next
      → i₃ ≡ put z i₂ (global usedTiers) (used + 1)
      → i₄ ≡ put z i₃ (next_place z free) 0
      → i₅ ≡ put z i₄ (tier free (counter previous)) last
      → i₆ ≡ put z i₅ (tier free (counter segment)) s
      → i₇ ≡ put z i₆ (tier free (counter order)) count
      → i₇ ≡ join z img s
  unfolding join puts
  joined {free} {next} {used} {last} {count} f p₁ p₂ p₃ p₄ p₅ p₆ p₇ =
      let u : used + 1 ≡ suc (get z img (global usedTiers)) = omega (arith, f.used_is) in
      let a : free ≡ free_head z img = f.free_is in
      let b : next ≡ next_of z img free = f.next_is in
      let l : last ≡ last_tier z img s = f.last_is in
      let m : count ≡ length (chain z img s) = f.count_is in
      cc
