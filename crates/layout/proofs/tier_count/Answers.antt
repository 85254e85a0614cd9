use mathlib.Core.Path.{refl}
use Rattle.layout.proofs.Bounds.{products}
use Rattle.layout.specs.Tiers.{tiers}
use native.Mathlib.Omega.{arith}
use Rattle.layout.proofs.tier_count.Goals as goal

pub overflow_mul-result : goal.overflow_mul-result
overflow_mul-result c = omega (arith, (products c.requires).extras)

pub overflow_add-result : goal.overflow_add-result
overflow_add-result c = omega (arith, (products c.requires).extras, c.requires.valid.segments.1)

pub returns : goal.returns
unfolding tiers
returns c = refl
