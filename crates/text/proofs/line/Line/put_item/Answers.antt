use native.Mathlib.Omega.{arith}
use Rattle.text.proofs.Adding.{added_then}
use Rattle.text.proofs.line.Line.put_item.Goals as goal

pub returns : goal.returns
returns c =
    record { added = added_then c.put_word.ensures c.put_spaced.ensures.added; within = omega (arith, c.put_word.ensures.len, c.put_spaced.ensures.within) }
