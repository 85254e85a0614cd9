-- What is claimed of the quick lookup.
use Rattle.std.specs.Prelude.{ℕ, ◌+◌, ◌≤◌, ◌≡◌, ◌≢◌, length, take, drop, Result, Ok}
use mathlib.Core.List.{List, [], ◌∷◌, Memᴰ}
use Rattle.layout.specs.declared.Shape.{Shape}
use Rattle.layout.specs.Tiers.{IsTier}
use Rattle.entries.specs.Live.{entry_at}
use Rattle.search.specs.Rules.{keyAt}
use Rattle.image.specs.declared.Stage.{Stage}
use Rattle.chronicle_map.specs.declared.RecordPlace.{RecordPlace}
use Rattle.chronicle_map.specs.declared.Located.{Located}
use Rattle.chronicle_map.specs.declared.Located.TheVariants as looked
use Rattle.chronicle_map.specs.Calls.{number_of, lookup, lookup_numbers}
use Rattle.chronicle_map.specs.Demands.{shape, Accepted}
use Rattle.quick.specs.Quick.{quick_lookup}

-- a found record stands under the whole key, at the place that the slot names, within the image
pub record StandsUnder (z : Shape) (img key : List ℕ) (p : RecordPlace) : Type 0 where
  pub tier_in : IsTier z p.tier
  pub key_is : keyAt z img p.tier p.slot ≡ key
  pub offset_is : p.offset ≡ (entry_at z img p.tier p.slot).valueAt
  pub length_is : p.length ≡ (entry_at z img p.tier p.slot).valueLength
  pub within : p.offset + p.length ≤ length img

-- whatever the image holds: the numbers, with zeros where the checked lookup has them, and what is found
pub record QuickAnswers (block img key : List ℕ) (l : Result Located Stage) : Type 0 where
  pub allowed : Memᴰ (number_of (lookup_numbers l)) (0 ∷ 1 ∷ 2 ∷ 3 ∷ 4 ∷ 8 ∷ 18 ∷ [])
  pub no_record : number_of (lookup_numbers l) ≢ 0 → take 2 (drop 1 (lookup_numbers l)) ≡ 0 ∷ 0 ∷ []
  pub no_end : number_of (lookup_numbers l) ≢ 0 → number_of (lookup_numbers l) ≢ 1 → drop 3 (lookup_numbers l) ≡ 0 ∷ 0 ∷ []
  pub found : (p : RecordPlace) → l ≡ Ok (looked.Found p) → StandsUnder (shape block img) img key p

pub record QuickLookups (block img : List ℕ) : Type 0 where
  pub answers : (key : List ℕ) → QuickAnswers block img key (quick_lookup block img key)
  -- on an accepted image it answers as the checked lookup
  pub as_checked : Accepted block img → (key : List ℕ) → quick_lookup block img key ≡ lookup block img key
