-- The lowest free chunk fields after an edit that takes or frees chunks in some tiers.
use Rattle.std.specs.Prelude.{ℕ, ◌≡◌}
use mathlib.Core.List.{List, Memᴰ}
use Rattle.lists.specs.Quantify.{Below, Every}
use Rattle.layout.specs.declared.Shape.{Shape}
use Rattle.layout.specs.Tiers.{IsTier}
use Rattle.layout.specs.Places.{mark}
use Rattle.chunks.specs.Chunks.{lowest_clear, low_field}

-- the bits and the lowest free chunk field of a tier are as they were
pub record LowKept (z : Shape) (img img' : List ℕ) (t : ℕ) : Type 0 where
  pub bits : Below z.settings.chunks (λ i. mark z img' t i ≡ mark z img t i)
  pub field : low_field z img' t ≡ low_field z img t

-- the changed tiers have the exact number there, and all others are as they were
pub record LowMarks (z : Shape) (img img' changed : List ℕ) : Type 0 where
  pub exact : Every changed (λ t. low_field z img' t ≡ lowest_clear z img' t)
  pub others : (t : ℕ) → IsTier z t → (Memᴰ t changed → ⊥) → LowKept z img img' t
