-- A segment's chain and the free chain are linked lists of tiers.
use Prim.Native.Nat.{ℕ, suc}
use mathlib.Core.List.{List}
use mathlib.Core.Path.{◌≡◌}
use Rattle.lists.specs.Quantify.{Every}
use Rattle.links.specs.Links.{Linked}
use Rattle.links.proofs.Follow.{linked-follow, follow-linked, end-linked}
use Rattle.layout.specs.declared.Shape.{Shape}
use Rattle.layout.specs.Tiers.{tiers, IsTier}
use Rattle.chains.specs.Chains.{next_of, end_of, chain, free_head, free_chain, ChainFits, FreeChainFits}

module _ (z : Shape) (img : List ℕ) where
  -- ---- chains that fit are linked

  pub linked-chain : (s : ℕ) → ChainFits z img s → Linked (next_of z img) (suc s) (chain z img s)
  unfolding chain
  linked-chain s f = linked-follow (next_of z img) (tiers z) (suc s) f.ends

  pub linked-free : FreeChainFits z img → Linked (next_of z img) (free_head z img) (free_chain z img)
  unfolding free_chain
  linked-free f = linked-follow (next_of z img) (tiers z) (free_head z img) f.ends

  -- ---- and tiers that are linked are the chain

  pub chain-linked : (s : ℕ) {l : List ℕ} → Every l (IsTier z) → Linked (next_of z img) (suc s) l → chain z img s ≡ l
  unfolding chain
  chain-linked s is r = follow-linked (tiers z) r (λ u m. (is u m).1)

  pub free-linked : {l : List ℕ} → Every l (IsTier z) → Linked (next_of z img) (free_head z img) l → free_chain z img ≡ l
  unfolding free_chain
  free-linked is r = follow-linked (tiers z) r (λ u m. (is u m).1)

  pub linked-ends : {t : ℕ} {l : List ℕ} → Every l (IsTier z) → Linked (next_of z img) t l → end_of z img (tiers z) t ≡ 0
  linked-ends is r = end-linked (tiers z) r (λ u m. (is u m).1)
