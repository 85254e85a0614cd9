-- What the functions ask for. The definition serves contracts alone.
use Rattle.std.specs.Prelude.{ℕ, Option, IfSome}
use Rattle.layout.specs.declared.Shape.{Shape}
use Rattle.layout.specs.Tiers.{IsTier}
use Rattle.layout.specs.Frame.{Framed}

-- tier t, and another if there is one
pub record Settles (z : Shape) (len t : ℕ) (other : Option ℕ) : Type 0 where
  pub framed : Framed z len
  pub tier_in : IsTier z t
  pub other_in : IfSome other (IsTier z)
