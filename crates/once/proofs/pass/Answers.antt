use mathlib.Core.Path.{ap, ◌∙◌}
use native.Mathlib.Omega.{arith}
use Rattle.std.specs.Prelude.{Err}
use Rattle.gather.specs.declared.Stopped.TheVariants.{Again}
use Rattle.layout.specs.Frame.{Image}
use Rattle.once.specs.Walk.{MetAll}
use Rattle.once.proofs.Walking.{says-fresh, says-stopped}
use Rattle.once.proofs.Passes.{landed}
use Rattle.once.proofs.pass.Goals as goal

pub returns-in-Ok : goal.returns-in-Ok
returns-in-Ok c =
    (says-fresh c.args.z c.args.img.now c.args.by c.args.s (MetAll c.args.z c.args.img.now c.args.by c.args.p c.args.s) _
    c.pass_chain.result c.pass_chain.ensures _ c.in-Ok.is).once

pub returns-in-Err-Again : goal.returns-in-Err-Again
returns-in-Err-Again c =
    says-stopped c.args.z c.args.img.now c.args.by c.args.s _ _ c.pass_chain.result c.pass_chain.ensures Again
    (c.in-Err-Again.is ∙ ap Err c.in-Err-Again.field-0-is)

pub returns-in-Err-Full : goal.returns-in-Err-Full
returns-in-Err-Full c =
    let image : Image c.args.z c.args.img.now =
    record { bytes = λ i. omega (arith, c.type_inv.img i); framed = c.requires.pass.reads.fitting.chains.framed } in
    landed c.args.z c.args.img.now c.args.by c.args.s c.args.p image c.requires.pass.reads c.chain_lands.result c.chain_lands.ensures
