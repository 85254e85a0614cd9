use Prim.Native.Nat.{◌≤◌}
use mathlib.Core.Path.{◌≡◌}
use lib.ListN.{length}
use Rattle.lister.specs.Input.{longest}
use Rattle.lister.proofs.Reading.{turns}
use Rattle.lister.proofs.input.read.Given as goal

abbrev pub invariant-loop-end : goal.invariant-loop-end
invariant-loop-end g l = (length l.buf ≡ longest) × (l.got ≤ longest)

abbrev pub decreases-loop-end : goal.decreases-loop-end
decreases-loop-end g l = turns l.got l.ended
