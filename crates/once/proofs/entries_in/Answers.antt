use native.Mathlib.Omega.{arith}
use Rattle.entries.proofs.FullSlots.{full-few}
use Rattle.once.proofs.Reading.{framed-tier, chain-tier}
use Rattle.once.proofs.Tiers.{counting-starts, counting-small, counting-turns, tiers_in_lem, tiers-less}
use Rattle.once.proofs.entries_in.Goals as goal

pub loop-t-init : goal.loop-t-init
loop-t-init c = counting-starts c.args.z c.args.img.now c.args.s

pub full_slots-n-requires : goal.full_slots-n-requires
full_slots-n-requires c = framed-tier (c.requires) (tiers_in_lem c.args.z c.args.img.now c.args.s c.requires.fits c.loop-t.invariant.along c.loop-t-test.true)

pub overflow_add-n : goal.overflow_add-n
overflow_add-n c =
    omega (
      arith,
      c.full_slots-n.ensures,
      full-few c.args.z c.args.img.now c.loop-t.t,
      counting-small c.args.z c.args.img.now c.args.s c.requires.chains.framed.tier_count c.loop-t.invariant,
      c.requires.chains.framed.valid.slots,
    )

pub shared-t-requires : goal.shared-t-requires
shared-t-requires c = (
  c.requires.chains.framed,
  chain-tier (c.requires)
      (tiers_in_lem c.args.z c.args.img.now c.args.s c.requires.fits c.loop-t.invariant.along c.loop-t-test.true),
)

pub loop-t-smaller : goal.loop-t-smaller
loop-t-smaller c = tiers-less c.args.z c.args.img.now c.args.s c.requires.fits c.loop-t.invariant.along c.loop-t-test.true c.shared-t.ensures

pub loop-t-preserved : goal.loop-t-preserved
loop-t-preserved c =
    counting-turns c.args.z c.args.img.now c.args.s c.requires.fits c.loop-t.invariant c.loop-t-test.true
    (omega (arith, c.full_slots-n.ensures, full-few c.args.z c.args.img.now c.loop-t.t, c.requires.chains.framed.valid.slots)) c.shared-t.ensures

pub returns : goal.returns
returns c = counting-small c.args.z c.args.img.now c.args.s c.requires.chains.framed.tier_count c.loop-t.invariant
