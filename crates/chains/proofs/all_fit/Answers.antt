use Rattle.chains.proofs.Segments.{all-long, all-counting, all_short}
use native.Mathlib.Omega.{arith}
use Rattle.chains.proofs.Walking.{told-ended, told-lost}
use borrow.Author.Rules.{rules}
use Rattle.chains.proofs.Segments.{all-starts, all-turns, all-lost, all-ends}
use Rattle.chains.proofs.all_fit.Goals as goal

pub loop-s-init : goal.loop-s-init
loop-s-init c = all-starts _ _ _

pub chain_fits-requires : goal.chain_fits-requires
chain_fits-requires c =
    record {
      counting = all-counting c.args.z c.args.img.now c.loop-s.invariant c.requires;
      segment_in = search rules;
    }

pub returns-in_err-total : goal.returns-in_err-total
returns-in_err-total c =
    rw c.from_residual.ensures (all-lost c.args.z c.args.img.now (omega arith)
    (told-lost c.chain_fits.ensures c.in_err-total.was))

pub overflow_add-total : goal.overflow_add-total
overflow_add-total c =
    omega (
      arith,
      all_short c.args.z c.args.img.now
          (all-turns c.args.z c.args.img.now c.loop-s.invariant c.loop-s-test.true
          (told-ended c.chain_fits.ensures c.in_ok-total.was))
          c.requires.framed.valid.segments.1.1 c.requires.framed.tier_count,
    )

pub loop-s-preserved : goal.loop-s-preserved
loop-s-preserved c =
    all-turns c.args.z c.args.img.now c.loop-s.invariant c.loop-s-test.true
    (told-ended c.chain_fits.ensures c.in_ok-total.was)

pub shape_of-times : goal.shape_of-times
shape_of-times c = all-long c.args.z c.args.img.now c.loop-s.invariant

pub returns : goal.returns
returns c = all-ends c.args.z c.args.img.now c.loop-s.invariant (omega arith)
