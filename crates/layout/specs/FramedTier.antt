-- A tier of an image that holds the store, and a slot of it: what functions over one tier ask for.
use Rattle.std.specs.Prelude.{ℕ, ◌<◌, List, length}
use Rattle.layout.specs.declared.Shape.{Shape}
use Rattle.layout.specs.Tiers.{IsTier}
use Rattle.layout.specs.Frame.{Framed}

pub record FramedTier (z : Shape) (img : List ℕ) (t : ℕ) : Type 0 where
  pub framed : Framed z (length img)
  pub tier_in : IsTier z t

pub record FramedSlot (z : Shape) (img : List ℕ) (t j : ℕ) : Type 0 where
  pub tier : FramedTier z img t
  pub slot_in : j < z.settings.slots
