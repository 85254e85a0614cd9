use Prim.Native.Nat.{ℕ}
use mathlib.Core.Path.{◌≡◌, refl, ap, ◌∙◌}
use lib.IntN.{ℤ, pos}
use Rattle.std.specs.Prelude.{Option, Some, None, Ok}
use Rattle.pairs.specs.Delays.{Asked, asked_reply}
use Rattle.chronicle_map_c.proofs.Telling.{told, told_part}
use borrow.Author.Rules.{rules}
use Rattle.chronicle_map_c.proofs.tell_delay.Goals as goal

pub returns-in-Ok-Some : goal.returns-in-Ok-Some
returns-in-Ok-Some c =
    let outer : ◌≡◌ {A = Asked} c.args.asked (Ok c.in-Ok-Some.field-0) = c.in-Ok-Some.is in
    let inner : ◌≡◌ {A = Option ℤ} c.in-Ok-Some.field-0 (Some c.in-Ok-Some.d) = rw outer at c.in-Ok-Some.field-0-is in
    let is : ◌≡◌ {A = Asked} c.args.asked (Ok (Some c.in-Ok-Some.d)) = outer ∙ ap (λ (o : Option ℤ). Ok o) inner in
    told_part asked_reply is refl (λ (d : ℤ). record { number = 0; delay = d }) refl (search rules)

pub returns-in-Ok-None : goal.returns-in-Ok-None
returns-in-Ok-None c =
    let outer : ◌≡◌ {A = Asked} c.args.asked (Ok c.in-Ok-None.field-0) = c.in-Ok-None.is in
    let inner : ◌≡◌ {A = Option ℤ} c.in-Ok-None.field-0 (None) = rw outer at c.in-Ok-None.field-0-is in
    let is : ◌≡◌ {A = Asked} c.args.asked (Ok None) = outer ∙ ap (λ (o : Option ℤ). Ok o) inner in
    told asked_reply is refl

pub returns-in-Err : goal.returns-in-Err
returns-in-Err c = told_part asked_reply c.in-Err.is refl (λ (n : ℕ). record { number = n; delay = pos 0 }) refl c.from.ensures
