use Rattle.lists.proofs.Decides.{decided_true, decided-false}
use Rattle.once.specs.Walk.{PassLands}
use Rattle.once.proofs.Reading.{chain-tier}
use Rattle.once.proofs.Tiers.{tiers-less}
use Rattle.once.proofs.Searching.{hold-starts, hold-ends, hold_in, hold-turns, hold-lost}
use Rattle.once.proofs.slow.chain_lands.Goals as goal

pub loop-t-init : goal.loop-t-init
loop-t-init c = hold-starts c.args.z c.args.img.now c.args.s (PassLands c.args.z c.args.img.now c.args.by c.args.p)

pub tier_lands-requires : goal.tier_lands-requires
tier_lands-requires c =
    record {
      pass = c.requires;
      tier_in = hold_in c.args.z c.args.img.now c.args.s (PassLands c.args.z c.args.img.now c.args.by c.args.p)
          c.requires.reads.fitting.fits c.loop-t.invariant c.loop-t-test.true;
    }

pub returns-then-not-tier_lands : goal.returns-then-not-tier_lands
returns-then-not-tier_lands c =
    hold-lost c.args.z c.args.img.now c.args.s (PassLands c.args.z c.args.img.now c.args.by c.args.p) c.requires.reads.fitting.fits
    c.loop-t.invariant c.loop-t-test.true
    (decided-false {P = PassLands c.args.z c.args.img.now c.args.by c.args.p c.loop-t.t} c.tier_lands.result c.tier_lands.ensures
    c.if-not-tier_lands.true)

pub shared-t-requires : goal.shared-t-requires
shared-t-requires c = (
  c.requires.reads.fitting.chains.framed,
  chain-tier c.requires.reads.fitting (hold_in c.args.z c.args.img.now c.args.s
      (PassLands c.args.z c.args.img.now c.args.by c.args.p) c.requires.reads.fitting.fits c.loop-t.invariant c.loop-t-test.true),
)

pub loop-t-smaller : goal.loop-t-smaller
loop-t-smaller c = tiers-less c.args.z c.args.img.now c.args.s c.requires.reads.fitting.fits c.loop-t.invariant.along c.loop-t-test.true c.shared-t.ensures

pub loop-t-preserved : goal.loop-t-preserved
loop-t-preserved c =
    hold-turns c.args.z c.args.img.now c.args.s (PassLands c.args.z c.args.img.now c.args.by c.args.p) c.requires.reads.fitting.fits
    c.loop-t.invariant c.loop-t-test.true
    (decided_true {P = PassLands c.args.z c.args.img.now c.args.by c.args.p c.loop-t.t} c.tier_lands.result c.tier_lands.ensures
    c.if-not-tier_lands.false) c.shared-t.ensures

pub returns : goal.returns
returns c =
    hold-ends c.args.z c.args.img.now c.args.s (PassLands c.args.z c.args.img.now c.args.by c.args.p) c.requires.reads.fitting.fits
    c.loop-t.invariant c.loop-t-test.false
