-- Every tier of a chain is one.
use Prim.Native.Nat.{ℕ, suc, ◌<◌}
use mathlib.Core.List.{List}
use native.Mathlib.Omega.{arith}
use Rattle.lists.specs.Quantify.{Below, Every, every-cons}
use Rattle.layout.specs.declared.Shape.{Shape}
use Rattle.layout.specs.Tiers.{IsTier, IsExtra}
use Rattle.chains.specs.Chains.{chain, free_chain, FreeChainFits, ChainsFit}
use Rattle.chains.specs.Walk.{extras_of}
use Rattle.chains.proofs.Segments.{segments-le, chain-cons, extras-of}

module _ (z : Shape) (img : List ℕ) where
  -- the main tier is one, and so are the extra ones after it
  pub chain-from-extras : (s : ℕ) → s < z.settings.segments → Every (extras_of z img s) (IsExtra z) → Every (chain z img s) (IsTier z)
  chain-from-extras s h x =
      rw (chain-cons z img s h)
      (every-cons (IsTier z) (suc s) _ (omega (arith, segments-le z img))
      (λ t m. let y : IsExtra z t = rw (extras-of z img s h) at x t m in omega arith))

  pub chain-tiers : ChainsFit z img → Below z.settings.segments (λ s. Every (chain z img s) (IsTier z))
  chain-tiers fits s h = chain-from-extras s h (fits.segments_fit s h).extras

  pub free-tiers : FreeChainFits z img → Every (free_chain z img) (IsTier z)
  free-tiers f t m = let x : IsExtra z t = f.extras t m in omega arith
