use native.Mathlib.Omega.{arith}
use Rattle.text.proofs.Adding.{added_then}
use Rattle.text.proofs.line.Line.put_spaced.Goals as goal

pub returns : goal.returns
returns c =
    record { added = added_then c.put_byte.ensures c.put_number.ensures.added; within = omega (arith, c.put_byte.ensures.len, c.put_number.ensures.within) }
