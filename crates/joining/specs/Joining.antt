-- A free tier joins the end of a segment's chain, with next 0 and with previous, segment and order filled; the global fields follow.
use Rattle.std.specs.Prelude.{ℕ, suc, List, [], ◌∷◌, length}
use Rattle.layout.specs.declared.Shape.{Shape}
use Rattle.layout.specs.declared.Global.TheVariants.{FirstFree as firstFree, UsedTiers as usedTiers}
use Rattle.layout.specs.declared.Counter.TheVariants.{Previous as previous, Segment as segment, Order as order}
use Rattle.layout.specs.Places.{get, ◌≔◌, puts, global, tier, counter, next_place}
use Rattle.chains.specs.Chains.{chain, last_tier, next_of, free_head}

module _ (z : Shape) (img : List ℕ) where
  -- the first free tier joins segment s's chain
  unfoldable pub join : ℕ → List ℕ
  join s =
      puts z img (
      next_place z (last_tier z img s) ≔ free_head z img
      ∷ global firstFree ≔ next_of z img (free_head z img)
      ∷ global usedTiers ≔ suc (get z img (global usedTiers))
      ∷ next_place z (free_head z img) ≔ 0
      ∷ tier (free_head z img) (counter previous) ≔ last_tier z img s
      ∷ tier (free_head z img) (counter segment) ≔ s
      ∷ tier (free_head z img) (counter order) ≔ length (chain z img s)
      ∷ []
      )
