use mathlib.Core.Path.{refl}
use Rattle.layout.proofs.Bounds.{products}
use Rattle.layout.specs.Tiers.{mains}
use native.Mathlib.Omega.{arith}
use Rattle.layout.proofs.mains.Goals as goal

pub overflow_mul-result : goal.overflow_mul-result
overflow_mul-result c = omega (arith, (products c.requires).headers)

pub overflow_add-result : goal.overflow_add-result
overflow_add-result c = omega (arith, (products c.requires).headers, c.requires.headers)

pub returns : goal.returns
unfolding mains
returns c = refl
