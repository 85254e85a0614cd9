use Rattle.placement.specs.Runs.{full_but, clear_but}
use Rattle.placement.proofs.LowestRun.{Running}
use Rattle.placement.proofs.runs.lowest_run.Given as goal

abbrev pub invariant-loop-i : goal.invariant-loop-i
invariant-loop-i l = Running l.z (full_but l.z l.img l.old) (clear_but l.z l.img l.old) l.t l.n l.have l.i
