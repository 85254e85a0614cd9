use mathlib.Core.List.{◌∷◌}
use Rattle.text.specs.Text.{decimal}
use Rattle.text.proofs.Adding.{Adding}
use Rattle.text.proofs.line.Line.put_numbers.Given as goal

abbrev pub invariant-loop-n : goal.invariant-loop-n
invariant-loop-n l = Adding (λ n. 32 ∷ decimal n) 21 l.ns l.initial.l l.l l.n-index
