use Rattle.contents.proofs.Sums.{chain-small, all-starts, all_small, all-turns, all-ends}
use native.Mathlib.Omega.{arith}
use Rattle.contents.proofs.chained_contents.Goals as goal

pub loop-s-init : goal.loop-s-init
loop-s-init c = all-starts c.args.z c.args.img.now

pub chain_contents-requires : goal.chain_contents-requires
chain_contents-requires c =
    record {
      chains = c.requires.chains;
      segment_in = c.loop-s-test.true;
      fits = c.requires.fits.segments_fit c.loop-s.s c.loop-s-test.true;
    }

pub joined-sum-requires : goal.joined-sum-requires
joined-sum-requires c =
    record {
      left = all_small c.args.z c.args.img.now c.loop-s.invariant c.requires.chains.framed.valid.segments.1.1;
      right = chain-small c.args.z c.args.img.now c.requires.chains.framed.valid.slots.1.1 c.requires.chains.framed.valid.chunks.1
          c.requires.chains.framed.tier_count c.loop-s.s c.chain_contents.result c.chain_contents.ensures;
    }

pub loop-s-preserved : goal.loop-s-preserved
loop-s-preserved c =
    all-turns c.args.z c.args.img.now c.loop-s.invariant c.requires.chains.framed.valid.slots.1.1 c.requires.chains.framed.valid.chunks.1
    c.requires.chains.framed.tier_count c.loop-s-test.true c.chain_contents.ensures c.joined-sum.ensures

pub returns : goal.returns
returns c = (
  all-ends c.args.z c.args.img.now c.loop-s.invariant (omega (arith, c.loop-s-test.false)),
  all_small c.args.z
      c.args.img.now c.loop-s.invariant c.requires.chains.framed.valid.segments.1.1,
)
