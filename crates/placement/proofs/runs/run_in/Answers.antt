use native.Mathlib.Omega.{arith}
use mathlib.Core.Path.{◌∙◌}
use Rattle.placement.specs.Runs.{full_but, clear_but}
use Rattle.placement.proofs.OldEntry.{full_but-le}
use Rattle.placement.proofs.FirstRun.{run-full, run-lowest}
use Rattle.placement.proofs.runs.run_in.Goals as goal

pub overflow_add-full : goal.overflow_add-full
overflow_add-full c = omega (arith, full_but-le c.args.z c.args.img.now c.args.old c.args.t, c.full_but-full.ensures, c.requires.tier.framed.valid.slots.1.1)

pub returns-then-z-full : goal.returns-then-z-full
returns-then-z-full c =
    run-full c.args.z (full_but c.args.z c.args.img.now c.args.old)
    (clear_but c.args.z c.args.img.now c.args.old) c.args.t c.args.n
    (omega (arith, c.full_but-full.ensures, c.if-z-full.true))

pub returns : goal.returns
returns c =
    c.lowest_run.ensures ∙
    run-lowest c.args.z (full_but c.args.z c.args.img.now c.args.old)
    (clear_but c.args.z c.args.img.now c.args.old) c.args.t c.args.n
    (omega (arith, c.full_but-full.ensures, c.if-z-full.false))
