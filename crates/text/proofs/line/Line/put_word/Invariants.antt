use mathlib.Core.List.{[], ◌∷◌}
use Rattle.text.proofs.Adding.{Adding}
use Rattle.text.proofs.line.Line.put_word.Given as goal

abbrev pub invariant-loop-b : goal.invariant-loop-b
invariant-loop-b l = Adding (λ b. b ∷ []) 1 l.w l.initial.l l.l l.b-index
