use mathlib.Core.Path.{sym}
use native.Mathlib.Omega.{arith}
use Rattle.probe.proofs.Ring.{dist-up, dist-wrap}
use Rattle.probe.proofs.distance.Goals as goal

pub returns-then-a-b : goal.returns-then-a-b
returns-then-a-b c = sym (dist-up _ _ _ (omega arith))

pub returns-else-a-b : goal.returns-else-a-b
returns-else-a-b c = sym (dist-wrap _ _ _ (omega arith))
