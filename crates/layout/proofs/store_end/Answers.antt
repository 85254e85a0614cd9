use Rattle.layout.proofs.Bounds.{products, bulks-small}
use Rattle.layout.specs.Tiers.{store_end}
use native.Mathlib.Omega.{arith}
use Rattle.layout.proofs.store_end.Goals as goal

pub overflow_mul-result : goal.overflow_mul-result
overflow_mul-result c = omega (arith, (products c.requires).bulks)

pub overflow_add-result : goal.overflow_add-result
overflow_add-result c = omega (arith, (products c.requires).bulks, bulks-small c.requires, c.bulks_at.ensures)

pub returns : goal.returns
unfolding store_end
returns c = cc
