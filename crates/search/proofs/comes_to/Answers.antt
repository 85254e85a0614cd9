use mathlib.Core.Path.{refl, sym, ◌∙◌}
use Rattle.layout.proofs.Bounds.{framed-bounded}
use Rattle.search.proofs.Ending.{reaching-starts, reaching-ends, reaching-out, reaching-here, reaching-tier, reaching-wrong, reaching-turns}
use Rattle.search.proofs.comes_to.Goals as goal

pub tier_count-most-requires : goal.tier_count-most-requires
tier_count-most-requires c = framed-bounded c.requires.tier.chains.framed

pub loop-init : goal.loop-init
loop-init c =
    reaching-starts c.args.z c.args.img.now c.args.key.now c.args.t c.tier_count-most.result _
    c.args.s c.tier_count-most.ensures refl c.requires.segment_is c.requires.tier.segment_in
    c.requires.tier.chains.chain_tiers

pub returns-then-u-t : goal.returns-then-u-t
returns-then-u-t c =
    reaching-here c.args.z c.args.img.now c.args.key.now c.args.t c.loop.invariant
    c.loop-test.true c.requires.tier.tier_in c.requires.holds c.if-u-t.true

pub returns-then-u-eq0 : goal.returns-then-u-eq0
returns-then-u-eq0 c = reaching-ends c.args.z c.args.img.now c.args.key.now c.args.t c.loop.invariant c.if-u-eq0.true _

pub seek-requires : goal.seek-requires
seek-requires c =
    record {
      tier = record {
        framed = c.requires.tier.chains.framed;
        tier_in = reaching-tier c.args.z c.args.img.now c.args.key.now c.args.t c.loop.invariant
            c.loop-test.true c.if-u-eq0.false;
      };
      lookup_is = c.requires.lookup_is;
    }

pub returns-in_default : goal.returns-in_default
returns-in_default c =
    reaching-wrong c.args.z c.args.img.now c.args.key.now c.args.t c.loop.invariant c.loop-test.true
    c.if-u-eq0.false c.in_default.field-0 (sym c.seek.ensures ∙ c.in_default.is) c.if-u-t.false _

pub shared-u-requires : goal.shared-u-requires
shared-u-requires c = (
  c.requires.tier.chains.framed,
  reaching-tier c.args.z c.args.img.now c.args.key.now c.args.t c.loop.invariant
      c.loop-test.true c.if-u-eq0.false,
)

pub loop-preserved : goal.loop-preserved
loop-preserved c =
    reaching-turns c.args.z c.args.img.now c.args.key.now c.args.t c.loop.invariant c.loop-test.true
    c.if-u-eq0.false c.in-Empty.field-0 (sym c.seek.ensures ∙ c.in-Empty.is) c.shared-u.result c.shared-u.ensures

pub returns : goal.returns
returns c =
    reaching-out c.args.z c.args.img.now c.args.key.now c.args.t c.loop.invariant
    c.loop-test.false _
