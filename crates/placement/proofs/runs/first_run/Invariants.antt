use Rattle.placement.specs.Runs.{first_run, full_but, clear_but}
use Rattle.placement.specs.Asking.{rest_from}
use Rattle.placement.proofs.FirstRun.{Seeking}
use Rattle.placement.proofs.runs.first_run.Given as goal

abbrev pub invariant-loop : goal.invariant-loop
invariant-loop l = Seeking l.z (full_but l.z l.img l.old) (clear_but l.z l.img l.old) l.img l.n
    (first_run l.z (full_but l.z l.img l.old) (clear_but l.z l.img l.old) (rest_from l.z l.img l.old l.passed) l.n) l.most l.t l.counter
