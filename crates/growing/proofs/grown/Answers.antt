use native.Mathlib.Omega.{arith}
use Rattle.layout.proofs.Bounds.{framed-bounded}
use Rattle.growing.proofs.grown.Goals as goal

pub overflow_add-result : goal.overflow_add-result
overflow_add-result c = omega (arith, (framed-bounded c.requires).bulks)
