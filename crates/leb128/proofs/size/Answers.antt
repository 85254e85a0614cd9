use borrow.Author.Rules.{rules}
use lib.Count.{leading_le}
use native.Mathlib.Nat.{lt_of_le_of_lt}
use native.Mathlib.Omega.{arith}
use Rattle.leb128.proofs.Digits.{leading_zeros_encode}
use Rattle.leb128.proofs.size.Goals as goal

pub overflow_cast-result : goal.overflow_cast-result
overflow_cast-result c = record { fits = lt_of_le_of_lt (leading_le 64 _) (omega arith) }

pub overflow_sub-result : goal.overflow_sub-result
overflow_sub-result c = omega (arith, (leading_zeros_encode c.args.n (search rules)).0)

pub returns : goal.returns
returns c = omega (arith, (leading_zeros_encode c.args.n (search rules)).1)
