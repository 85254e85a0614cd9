use mathlib.Core.Path.{refl, ap}
use Rattle.image.specs.declared.Verdict.{Verdict}
use Rattle.image.specs.Check.{outcome_numbers}
use Rattle.chronicle_map_c.proofs.Telling.{told, told-first}
use Rattle.chronicle_map_c.proofs.chronicle_map_check.Goals as goal

pub returns-in-Accepted : goal.returns-in-Accepted
returns-in-Accepted c = told outcome_numbers c.in-Accepted.is (ap (λ (v : Verdict). v.outcome) c.check-verdict.ensures)

pub returns-in-Refused : goal.returns-in-Refused
returns-in-Refused c = told-first outcome_numbers c.in-Refused.is (ap (λ (v : Verdict). v.outcome) c.check-verdict.ensures) refl c.from.ensures
