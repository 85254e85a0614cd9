use mathlib.Core.Path.{ap, sym, ◌∙◌}
use Rattle.image.specs.declared.Verdict.{Verdict}
use Rattle.pairs.specs.Delays.{unless_refused}
use Rattle.pairs.proofs.unless_refused.Goals as goal

pub returns-in-Refused : goal.returns-in-Refused
returns-in-Refused c =
    ap
    (unless_refused c.args.other)
    (sym c.in-Refused.is ∙ ap (λ (v : Verdict). v.outcome) c.check-verdict.ensures)

pub returns-in-Accepted : goal.returns-in-Accepted
returns-in-Accepted c =
    ap
    (unless_refused c.args.other)
    (sym c.in-Accepted.is ∙ ap (λ (v : Verdict). v.outcome) c.check-verdict.ensures)
