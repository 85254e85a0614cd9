use Rattle.layout.proofs.Bounds.{products, mains-small}
use Rattle.layout.specs.Tiers.{bulks_at}
use native.Mathlib.Omega.{arith}
use Rattle.layout.proofs.bulks_at.Goals as goal

pub overflow_mul-result : goal.overflow_mul-result
overflow_mul-result c = omega (arith, (products c.requires).mains)

pub overflow_add-result : goal.overflow_add-result
overflow_add-result c = omega (arith, (products c.requires).mains, mains-small c.requires, c.mains.ensures)

pub returns : goal.returns
unfolding bulks_at
returns c = cc
