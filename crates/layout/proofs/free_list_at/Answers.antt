use Rattle.layout.specs.Places.{counters_at, free_list_at, at, part_at}
use Rattle.layout.proofs.Bounds.{tier-room}
use native.Mathlib.Omega.{arith}
use Rattle.layout.proofs.free_list_at.Goals as goal

pub overflow_add-result : goal.overflow_add-result
unfolding counters_at
overflow_add-result c = omega (arith, tier-room c.requires.0 c.args.t c.requires.1, c.counters_at.ensures)

pub returns : goal.returns
unfolding free_list_at at part_at counters_at
returns c = omega (arith, c.counters_at.ensures)
