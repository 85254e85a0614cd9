-- What the functions ask for. The definitions serve contracts alone.
use Rattle.std.specs.Prelude.{ℕ, List, length}
use Rattle.layout.specs.declared.Shape.{Shape}
use Rattle.layout.specs.Tiers.{IsExtra}
use Rattle.layout.specs.Frame.{Framed}

-- a tier of a bulk in an image that holds the store
pub record FramedExtra (z : Shape) (img : List ℕ) (t : ℕ) : Type 0 where
  pub framed : Framed z (length img)
  pub extra_in : IsExtra z t
