-- The map that an image reads as: the keys and records of its live entries.
use Rattle.std.specs.Prelude.{List, map, ℕ}
use Rattle.layout.specs.declared.Shape.{Shape}
use Rattle.entries.specs.declared.Live.{Live}
use Rattle.entries.specs.Stored.{key_of, value_of}
use Rattle.entries.specs.Live.{live}

-- a key and its record
pub record Pair : Type 0 where
  pub key : List ℕ
  pub value : List ℕ

-- those of a live entry; those of the whole image
abbrev pub pair_of : List ℕ → Live → Pair
pair_of img e = record { key = key_of img e.entry; value = value_of img e.entry }

unfoldable pub pairs_of : Shape → List ℕ → List Pair
pairs_of z img = map (pair_of img) (live z img)
