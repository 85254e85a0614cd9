use Rattle.layout.specs.Places.{counters_at}
use Rattle.layout.proofs.Bounds.{tier-room}
use native.Mathlib.Omega.{arith}
use Rattle.layout.proofs.counters_at.Goals as goal

pub overflow_add-result : goal.overflow_add-result
overflow_add-result c = omega (arith, tier-room c.requires.0 c.args.t c.requires.1, c.tier_at.ensures)

pub returns : goal.returns
unfolding counters_at
returns c = omega (arith, c.tier_at.ensures)
