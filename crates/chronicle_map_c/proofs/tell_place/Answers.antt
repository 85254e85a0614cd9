use mathlib.Core.Path.{◌≡◌, refl, ap, ◌∙◌}
use Rattle.std.specs.Prelude.{Result, Ok}
use Rattle.image.specs.declared.Stage.{Stage}
use Rattle.chronicle_map.specs.declared.Located.{Located}
use Rattle.chronicle_map.specs.declared.Located.TheVariants as looked
use Rattle.chronicle_map.specs.Calls.{lookup_numbers}
use Rattle.chronicle_map_c.proofs.Telling.{told, told-first}
use Rattle.chronicle_map_c.proofs.tell_place.Goals as goal

pub returns-in-Ok-Found : goal.returns-in-Ok-Found
returns-in-Ok-Found c =
    let outer : ◌≡◌ {A = Result Located Stage} c.args.located (Ok c.in-Ok-Found.field-0) = c.in-Ok-Found.is in
    let inner : c.in-Ok-Found.field-0 ≡ looked.Found c.in-Ok-Found.p = rw outer at c.in-Ok-Found.field-0-is in
    let is : ◌≡◌ {A = Result Located Stage} c.args.located (Ok (looked.Found c.in-Ok-Found.p)) = outer ∙ ap (λ (l : Located). Ok l) inner in
    told lookup_numbers is refl

pub returns-in-Ok-Absent : goal.returns-in-Ok-Absent
returns-in-Ok-Absent c =
    let outer : ◌≡◌ {A = Result Located Stage} c.args.located (Ok c.in-Ok-Absent.field-0) = c.in-Ok-Absent.is in
    let inner : c.in-Ok-Absent.field-0 ≡ looked.Absent c.in-Ok-Absent.e = rw outer at c.in-Ok-Absent.field-0-is in
    let is : ◌≡◌ {A = Result Located Stage} c.args.located (Ok (looked.Absent c.in-Ok-Absent.e)) = outer ∙ ap (λ (l : Located). Ok l) inner in
    told lookup_numbers is refl

pub returns-in-Err : goal.returns-in-Err
returns-in-Err c = told-first lookup_numbers c.in-Err.is refl refl c.from.ensures
