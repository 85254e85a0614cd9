use native.Mathlib.Omega.{arith}
use Rattle.once.proofs.share_out.Goals as goal
use Rattle.once.proofs.share_out.Goals.{then-n-le-IN_A_SMALL_PASS, else-n-le-IN_A_SMALL_PASS}

pub overflow_add-result : goal.overflow_add-result
overflow_add-result c = elim c.if-n-le-IN_A_SMALL_PASS.branch [
  | then-n-le-IN_A_SMALL_PASS w ↦ omega (arith, w.place-is, c.pass_bits-bits.ensures)
  | else-n-le-IN_A_SMALL_PASS w ↦ omega (arith, w.place-is, c.pass_bits-bits.ensures)
]
