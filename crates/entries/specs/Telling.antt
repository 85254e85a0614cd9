-- What a function over stored entries answers. The definition serves contracts alone.
use Rattle.std.specs.Prelude.{ℕ, List, ◌≡◌}
use Rattle.layout.specs.declared.Shape.{Shape}
use Rattle.entries.specs.declared.Part.{Part}
use Rattle.entries.specs.Stored.{stored, entry_of}

-- where the key of what stands at chunk c begins, and how long it is
pub record KeyPart (z : Shape) (img : List ℕ) (t c : ℕ) (r : Part) : Type 0 where
  pub at_is : r.at ≡ (entry_of (stored z img t c)).keyAt
  pub length_is : r.length ≡ (entry_of (stored z img t c)).keyLength
