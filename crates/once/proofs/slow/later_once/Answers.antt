use mathlib.Core.Path.{refl}
use native.Mathlib.Omega.{arith}
use Rattle.lists.proofs.Decides.{decided_true, decided-false}
use Rattle.layout.specs.Frame.{Image}
use Rattle.once.specs.Walk.{PassLands}
use Rattle.once.proofs.Reading.{chain-tier}
use Rattle.once.proofs.Tiers.{tiers-start, tiers_in_lem, tiers-less}
use Rattle.once.proofs.Searching.{hold-starts, hold-ends, hold_in, hold-turns}
use Rattle.once.proofs.Passes.{LaterLands, first-lands, later-once, later-twice}
use Rattle.once.proofs.slow.later_once.Invariants.{all}
use Rattle.once.proofs.slow.later_once.Goals as goal

pub shared-t-requires : goal.shared-t-requires
shared-t-requires c = (
  c.requires.reads.fitting.chains.framed,
  chain-tier c.requires.reads.fitting (tiers_in_lem c.args.z c.args.img.now c.args.s c.requires.reads.fitting.fits
      (tiers-start c.args.z c.args.img.now c.args.s) (omega arith)),
)

pub loop-t-init : goal.loop-t-init
loop-t-init c =
    let P = LaterLands c.args.z c.args.img.now c.args.s all in
    hold-turns c.args.z c.args.img.now c.args.s P c.requires.reads.fitting.fits (hold-starts c.args.z c.args.img.now c.args.s P)
    (omega arith) (first-lands c.args.z c.args.img.now c.args.s all) c.shared-t.ensures

pub tier_lands-requires : goal.tier_lands-requires
tier_lands-requires c =
    record {
      pass = record { reads = c.requires.reads; few = omega arith };
      tier_in = hold_in c.args.z c.args.img.now c.args.s _ c.requires.reads.fitting.fits c.loop-t.invariant c.loop-t-test.true;
    }

pub returns-then-not-tier_lands : goal.returns-then-not-tier_lands
returns-then-not-tier_lands c =
    let image : Image c.args.z c.args.img.now =
    record { bytes = λ i. omega (arith, c.type_inv.img i); framed = c.requires.reads.fitting.chains.framed } in
    later-twice c.args.z c.args.img.now c.args.s image (c.requires) all c.loop-t.t
    (hold_in c.args.z c.args.img.now c.args.s _ c.requires.reads.fitting.fits c.loop-t.invariant c.loop-t-test.true)
    (decided-false {P = PassLands c.args.z c.args.img.now all 0 c.loop-t.t} c.tier_lands.result c.tier_lands.ensures
    c.if-not-tier_lands.true)

pub shared-t-requires-in-loop-t : goal.shared-t-requires-in-loop-t
shared-t-requires-in-loop-t c = (
  c.requires.reads.fitting.chains.framed,
  chain-tier c.requires.reads.fitting (hold_in c.args.z c.args.img.now c.args.s _ c.requires.reads.fitting.fits c.loop-t.invariant
      c.loop-t-test.true),
)

pub loop-t-smaller : goal.loop-t-smaller
loop-t-smaller c =
    tiers-less c.args.z c.args.img.now c.args.s c.requires.reads.fitting.fits c.loop-t.invariant.along c.loop-t-test.true c.shared-t-in-loop-t.ensures

pub loop-t-preserved : goal.loop-t-preserved
loop-t-preserved c =
    hold-turns c.args.z c.args.img.now c.args.s _ c.requires.reads.fitting.fits c.loop-t.invariant c.loop-t-test.true
    (λ _. decided_true {P = PassLands c.args.z c.args.img.now all 0 c.loop-t.t} c.tier_lands.result c.tier_lands.ensures
    c.if-not-tier_lands.false) c.shared-t-in-loop-t.ensures

pub returns : goal.returns
returns c =
    let image : Image c.args.z c.args.img.now =
    record { bytes = λ i. omega (arith, c.type_inv.img i); framed = c.requires.reads.fitting.chains.framed } in
    later-once c.args.z c.args.img.now c.args.s image (c.requires) all refl
    (hold-ends c.args.z c.args.img.now c.args.s _ c.requires.reads.fitting.fits c.loop-t.invariant c.loop-t-test.false)
