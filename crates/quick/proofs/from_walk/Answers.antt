use Rattle.std.proofs.Common.{rules}
use Rattle.quick.specs.Quick.{from_walk}
use Rattle.quick.proofs.from_walk.Goals as goal

pub returns-in-Ok-Found : goal.returns-in-Ok-Found
unfolding from_walk
returns-in-Ok-Found c = search rules

pub returns-in-Ok-Absent : goal.returns-in-Ok-Absent
unfolding from_walk
returns-in-Ok-Absent c = search rules

pub returns-in-Err : goal.returns-in-Err
unfolding from_walk
returns-in-Err c = search rules
