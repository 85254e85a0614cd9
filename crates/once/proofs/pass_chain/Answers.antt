use mathlib.Core.Path.{◌∙◌}
use native.Mathlib.Omega.{arith}
use Rattle.std.proofs.lemmas.Result.{err_from_is_err_and}
use Rattle.once.specs.Walk.{MetThrough}
use Rattle.once.proofs.Reading.{chain-tier}
use Rattle.once.proofs.Tiers.{tiers_in_lem, tiers-less}
use Rattle.once.proofs.Walking.{chaining-starts, chaining-ends, chaining-walks, chaining-turns, says-fresh, says-stopped}
use Rattle.once.proofs.pass_chain.Goals as goal

pub loop-t-init : goal.loop-t-init
loop-t-init c = chaining-starts c.args.z c.args.img.now c.args.by c.args.p c.args.s (c.requires) (omega (arith, c.requires.places.two))

pub pass_tier-requires : goal.pass_tier-requires
pass_tier-requires c =
    chaining-walks c.args.z c.args.img.now c.args.by c.args.p c.args.s c.requires.pass c.loop-t.invariant c.loop-t-test.true c.requires.places

pub shape_of-table-in_err-rest : goal.shape_of-table-in_err-rest
shape_of-table-in_err-rest c = c.pass_tier.auto.table ∙ c.loop-t.invariant.long

pub returns-in_err-rest : goal.returns-in_err-rest
returns-in_err-rest c =
    let p = err_from_is_err_and c.from_residual.result c.from_residual.ensures.1 in
    rw (p.1, p.2) (says-stopped c.args.z c.args.img.now c.args.by c.args.s _ _ c.pass_tier.result c.pass_tier.ensures _ c.in_err-rest.was)

pub shared-t-requires : goal.shared-t-requires
shared-t-requires c = (
  c.requires.pass.reads.fitting.chains.framed,
  chain-tier c.requires.pass.reads.fitting (tiers_in_lem c.args.z c.args.img.now c.args.s c.requires.pass.reads.fitting.fits c.loop-t.invariant.along
      c.loop-t-test.true),
)

pub loop-t-smaller : goal.loop-t-smaller
loop-t-smaller c =
    tiers-less c.args.z c.args.img.now c.args.s c.requires.pass.reads.fitting.fits c.loop-t.invariant.along c.loop-t-test.true c.shared-t.ensures

pub loop-t-preserved : goal.loop-t-preserved
loop-t-preserved c =
    chaining-turns c.args.z c.args.img.now c.args.by c.args.p c.args.s c.requires.pass c.loop-t.invariant c.loop-t-test.true
    c.pass_tier.auto.table
    (says-fresh c.args.z c.args.img.now c.args.by c.args.s
    (MetThrough c.args.z c.args.img.now c.args.by c.args.p c.args.s c.loop-t.t) _ c.pass_tier.result c.pass_tier.ensures
    _ c.in_ok-rest.was) c.shared-t.ensures

pub shape_of-table : goal.shape_of-table
shape_of-table c = c.loop-t.invariant.long

pub returns : goal.returns
returns c = chaining-ends c.args.z c.args.img.now c.args.by c.args.p c.args.s c.requires.pass c.loop-t.invariant c.loop-t-test.false
