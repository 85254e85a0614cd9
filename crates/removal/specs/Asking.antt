-- What the functions ask for. The definition serves contracts alone.
use Rattle.std.specs.Prelude.{ℕ, ◌+◌, ◌≤◌, List}
use Rattle.layout.specs.declared.Shape.{Shape}
use Rattle.layout.specs.FramedTier.{FramedSlot}

-- slot j of tier t, with the n chunks from c on
pub record CanRemove (z : Shape) (img : List ℕ) (t j c n : ℕ) : Type 0 where
  pub slot : FramedSlot z img t j
  pub range_ends : c + n ≤ z.settings.chunks
