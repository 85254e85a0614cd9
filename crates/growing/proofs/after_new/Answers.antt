use mathlib.Core.Path.{sym, ◌∙◌}
use native.Mathlib.Numerals.{add-one}
use Rattle.growing.proofs.NewTiers.{after_last, after-other}
use Rattle.growing.proofs.after_new.Goals as goal

pub returns-then-t-last : goal.returns-then-t-last
returns-then-t-last c = sym (after_last _ _ _ c.if-t-last.true)

pub returns : goal.returns
returns c = add-one _ ∙ sym (after-other _ _ _ c.if-t-last.false)
