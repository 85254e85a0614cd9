use mathlib.Core.Path.{ap, sym, ◌∙◌}
use Rattle.image.specs.Check.{verdict_of, check}
use Rattle.image.proofs.check.Goals as goal

pub returns-in-Ok : goal.returns-in-Ok
unfolding check verdict_of
returns-in-Ok c = sym (ap verdict_of (sym c.examine.ensures ∙ c.in-Ok.is))

pub returns-in-Err : goal.returns-in-Err
unfolding check verdict_of
returns-in-Err c = sym (ap verdict_of (sym c.examine.ensures ∙ c.in-Err.is))
