use mathlib.Core.Path.{ap}
use native.Mathlib.Omega.{arith}
use lib.ListN.{length}
use Rattle.layout.proofs.Bounds.{framed-largest}
use Rattle.image.proofs.Rest.{step-at}
use Rattle.lister.proofs.rows.all.Goals as goal

pub first-c-requires : goal.first-c-requires
first-c-requires g c = framed-largest c.requires.0

pub loop-e-init : goal.loop-e-init
loop-e-init g c = (c.first-c.ensures c.args.img.now c.requires.1).in_chain

pub step-requires : goal.step-requires
step-requires g c = record { chains = record { framed = c.requires.0; chain_tiers = c.requires.1 }; in_chain = c.loop-e.invariant }

pub loop-e-smaller : goal.loop-e-smaller
loop-e-smaller g c =
    let at = step-at c.args.z c.args.img.now c.step.ensures c.in-Some.is in
    omega (arith, ap length at.1)

pub loop-e-preserved : goal.loop-e-preserved
loop-e-preserved g c = (step-at c.args.z c.args.img.now c.step.ensures c.in-Some.is).0
