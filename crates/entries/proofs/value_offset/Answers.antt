use Rattle.leb128.proofs.Encode.{length-encode}
use Rattle.entries.specs.Stored.{value_offset}
use native.Mathlib.Omega.{arith}
use borrow.Author.Rules.{rules}
use Rattle.entries.proofs.value_offset.Goals as goal

pub overflow_add-result : goal.overflow_add-result
overflow_add-result c = omega (arith, length-encode c.args.k (search rules))

pub overflow_add-result-2 : goal.overflow_add-result-2
overflow_add-result-2 c = omega (arith, length-encode c.args.k (search rules), length-encode c.args.v (search rules))

pub returns : goal.returns
unfolding value_offset
returns c = omega (arith, length-encode c.args.k (search rules), length-encode c.args.v (search rules))
