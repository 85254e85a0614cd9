-- The bytes of no place that growing writes stay.
use Prim.Native.Nat.{ℕ, zero, suc, ◌≤◌, ◌<◌}
use mathlib.Core.List.{List}
use mathlib.Core.Path.{◌≡◌, refl, ◌∙◌}
use native.Mathlib.Omega.{arith}
use lib.ListN.{get_or}
use Rattle.lists.specs.Quantify.{every-cons, every-none}
use Rattle.words.specs.Bytes.{Apart}
use Rattle.layout.specs.declared.Shape.{Shape}
use Rattle.layout.specs.declared.Global.TheVariants.{BulkCount as bulkCount, FirstFree as firstFree, StoreSize as storeSize}
use Rattle.layout.specs.Places.{slot, counter, free, Place, global, tier, at, wide}
use Rattle.layout.proofs.Places.{get_or-puts-out}
use Rattle.growing.specs.Growing.{grown, new_tier, new_tiers, grow_image, IsNew, GrowWrites}
use Rattle.growing.proofs.Emptying.{Untouched, get_or-empty_tier-out}
use Rattle.growing.proofs.Reshaped.{tiers-grown}
use Rattle.growing.proofs.NewTiers.{new_next}

module _ (z : Shape) (img : List ℕ) (i : ℕ) (off : (p : Place) → GrowWrites z p → Apart i 1 (at (grown z) p) (wide (grown z) p)) where
  untouched : (k : ℕ) → k < z.settings.bulkTiers → Untouched (grown z) (new_tier z k) i
  untouched k h =
      let new : IsNew z (new_tier z k) = omega (arith, tiers-grown z) in
      record {
        slots = λ j l. off (tier (new_tier z k) (slot j)) (new, l);
        counters = λ f. off (tier (new_tier z k) (counter f)) new;
        marks = λ b l. off (tier (new_tier z k) (free b)) (new, l);
      }

  get_or-new_tiers-out : (n : ℕ) → n ≤ z.settings.bulkTiers → get_or (new_tiers z img n) i 0 ≡ get_or img i 0
  unfolding new_tiers
  get_or-new_tiers-out zero h = refl
  get_or-new_tiers-out (suc n) h =
      get_or-empty_tier-out (grown z) (new_tiers z img n) (new_tier z n) (new_next z img n) i (untouched n (omega arith)) ∙ get_or-new_tiers-out n (omega arith)

  pub get_or-grow-out : get_or (grow_image z img) i 0 ≡ get_or img i 0
  unfolding grow_image
  get_or-grow-out =
      get_or-puts-out (grown z) _ _ i
      (every-cons _ _ _ (off (global bulkCount) tt)
      (every-cons _ _ _ (off (global firstFree) tt)
      (every-cons _ _ _ (off (global storeSize) tt)
      (every-none _))))
      ∙ get_or-new_tiers-out z.settings.bulkTiers (omega arith)
