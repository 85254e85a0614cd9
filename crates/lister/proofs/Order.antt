-- What `reading` says of the listed inputs, by computing.
use mathlib.Core.Bool.{Bool}
use mathlib.Core.List.{List, map}
use mathlib.Core.Path.{◌≡◌, refl}
use Prim.Native.Nat.{ℕ}
use Rattle.std.specs.Prelude.{Result}
use Rattle.image.specs.declared.Stage.{Stage}
use Rattle.settings.specs.Worked.{fields_x, block_with}
use Rattle.image.specs.Everything.{everything}
use Rattle.lister.specs.declared.input.Input.{Input}
use Rattle.lister.specs.Input.{needed, reading_image, reading_length, from_parsed, reading_block, reading_fields, reading}
use Rattle.lister.specs.Order.{cases}

pub order : map (λ (c : List ℕ × Bool × Result Input Stage). reading c.0 c.1) cases ≡ map (λ (c : List ℕ × Bool × Result Input Stage). c.2) cases
unfolding everything needed reading_image reading_length from_parsed reading_block reading_fields reading cases fields_x block_with
order = refl
