-- What an edit does to the chains: nothing, or one extra tier leaves its chain and becomes the first free tier.
use Rattle.std.specs.Prelude.{ℕ, List, ◌∷◌, ◌++◌, ◌≡◌, ◌≢◌}
use Rattle.lists.specs.Quantify.{Below}
use Rattle.layout.specs.declared.Shape.{Shape}
use Rattle.chains.specs.Chains.{chain, free_chain}

module _ (z : Shape) (img after : List ℕ) where
  pub record ChainsStay : Type 0 where
    pub segments : Below z.settings.segments (λ q. chain z after q ≡ chain z img q)
    pub free : free_chain z after ≡ free_chain z img

  -- tier t stood in segment s's chain behind the tiers xs and before ys
  pub record GoneHome (s t : ℕ) (xs ys : List ℕ) : Type 0 where
    pub was : chain z img s ≡ xs ++ (t ∷ ys)
    pub is : chain z after s ≡ xs ++ ys
    pub others : Below z.settings.segments (λ q. q ≢ s → chain z after q ≡ chain z img q)
    pub free : free_chain z after ≡ t ∷ free_chain z img
