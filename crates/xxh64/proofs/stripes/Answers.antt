use Rattle.std.proofs.Common.{◌≡◌, ◌/◌, length, arith}
use Rattle.xxh64.specs.Hash.{lanes_of}
use Rattle.xxh64.proofs.Laws.{lanes_of_more}
use Rattle.xxh64.proofs.stripes.Goals as goal

pub loop-init : goal.loop-init
unfolding lanes_of
loop-init c = (omega arith, c.start-st.ensures.0, c.start-st.ensures.2)

pub stripe-st-requires : goal.stripe-st-requires
stripe-st-requires c = omega arith

pub loop-preserved : goal.loop-preserved
loop-preserved c = (omega arith, cc (lanes_of_more c.args.s.now c.loop.counter), cc)

pub returns : goal.returns
returns c =
    let e : c.loop.counter ≡ length c.args.s.now / 32 = omega arith in
    record { lanes = cc; position = omega arith; total = cc }
