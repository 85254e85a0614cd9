-- The loop along the free chain: each of the tiers that it has met fits.
use Prim.Native.Nat.{ℕ, ◌<◌}
use mathlib.Core.List.{List, [], ◌∷◌, ◌++◌}
use mathlib.Core.Path.{◌≡◌}
use mathlib.Core.Logic.{◌≢◌}
use lib.ListN.{length}
use Rattle.lists.specs.Quantify.{Every}
use Rattle.lists.proofs.Members.{every_more}
use Rattle.links.proofs.Along.{Along, along-ends, along_in, along-turns, along-goes, along-less}
use Rattle.layout.specs.declared.Shape.{Shape}
use Rattle.layout.specs.Tiers.{tiers, IsTier}
use Rattle.chains.specs.Chains.{next_of, follow, free_head, free_chain, FreeChainFits}
use Rattle.chains.proofs.Tiers.{free-tiers}
use Rattle.chunks.specs.Chunks.{FreeTierFits}

pub record Freeing (z : Shape) (img : List ℕ) (t : ℕ) : Type 0 where
  pub done : List ℕ
  pub along : Along (next_of z img) (tiers z) (free_head z img) done t
  pub held : Every done (FreeTierFits z img)

module _ (z : Shape) (img : List ℕ) (fits : FreeChainFits z img) where
  module _ {t : ℕ} (w : Freeing z img t) where
    pub free-ends : t ≡ 0 → Every (free_chain z img) (FreeTierFits z img)
    unfolding free_chain
    free-ends e = rw (along-ends w.along e) at w.held

    module _ (ne : t ≢ 0) where
      low : length w.done < tiers z
      low = along-goes w.along fits.ends ne

      pub free-tier : IsTier z t
      unfolding free_chain
      free-tier = free-tiers z img fits t (along_in w.along low ne)

      -- the one at t does not fit
      pub free-lost : (FreeTierFits z img t → ⊥) → Every (free_chain z img) (FreeTierFits z img) → ⊥
      unfolding free_chain
      free-lost n f = n (f t (along_in w.along low ne))

      module _ {u : ℕ} (e : u ≡ next_of z img t) where
        pub free-less : length (follow z img (tiers z) u) < length (follow z img (tiers z) t)
        free-less = along-less w.along fits.ends ne e

        pub free-turns : FreeTierFits z img t → Freeing z img u
        free-turns p =
            record { done = w.done ++ (t ∷ []); along = along-turns w.along low ne e; held = every_more w.done t w.held p }
