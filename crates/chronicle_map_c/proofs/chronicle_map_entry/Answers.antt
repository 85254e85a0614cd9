use Prim.Native.Nat.{ℕ}
use mathlib.Core.Path.{refl, ap, ◌∙◌}
use mathlib.Core.List.{List, ◌∷◌}
use Rattle.std.specs.Prelude.{Ok}
use Rattle.image.specs.List.{listed_numbers}
use Rattle.chronicle_map_c.proofs.Telling.{told, told_part, told-first}
use Rattle.chronicle_map_c.proofs.chronicle_map_entry.Goals as goal

pub returns-in-Ok-Some : goal.returns-in-Ok-Some
returns-in-Ok-Some c =
    told_part listed_numbers (c.in-Ok-Some.is ∙ ap Ok c.in-Ok-Some.field-0-is) c.entry.ensures (λ (row : List ℕ). 0 ∷ row) refl c.row_numbers.ensures

pub returns-in-Ok-None : goal.returns-in-Ok-None
returns-in-Ok-None c = told listed_numbers (c.in-Ok-None.is ∙ ap Ok c.in-Ok-None.field-0-is) c.entry.ensures

pub returns-in-Err : goal.returns-in-Err
returns-in-Err c = told-first listed_numbers c.in-Err.is c.entry.ensures refl c.from.ensures
