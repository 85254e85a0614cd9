use Rattle.chains.proofs.FromMain.{main-lost, main-few, main-asks, main-refutes, main-fits}
use native.Mathlib.Omega.{arith}
use Rattle.layout.proofs.Bounds.{framed-bounded}
use Rattle.chains.proofs.Segments.{segments-le}
use Rattle.lists.proofs.Decides.{decided_true, decided-false}
use Rattle.chains.proofs.chain_fits.Goals as goal

pub shared-first-requires : goal.shared-first-requires
shared-first-requires c = (c.requires.counting.framed, omega (arith, segments-le c.args.z c.args.img.now, c.requires.segment_in))

pub tier_count-requires : goal.tier_count-requires
tier_count-requires c = framed-bounded c.requires.counting.framed

pub overflow_sub-tier_count : goal.overflow_sub-tier_count
overflow_sub-tier_count c = omega (arith, segments-le c.args.z c.args.img.now, c.requires.segment_in)

pub returns-in_err-k : goal.returns-in_err-k
returns-in_err-k c = rw c.from_residual.ensures (main-lost c.requires c.tier_count.ensures c.shared-first.ensures c.walk.ensures c.in_err-k.was)

pub overflow_add-k : goal.overflow_add-k
overflow_add-k c = omega (arith, main-few c.requires c.tier_count.ensures c.shared-first.ensures c.walk.ensures c.in_ok-k.was)

pub all_stand-requires : goal.all_stand-requires
all_stand-requires c = main-asks c.requires c.tier_count.ensures c.shared-first.ensures c.walk.ensures c.in_ok-k.was

pub returns-then-not-all_stand : goal.returns-then-not-all_stand
returns-then-not-all_stand c =
    main-refutes c.requires c.tier_count.ensures c.shared-first.ensures c.walk.ensures c.in_ok-k.was
    (decided-false c.all_stand.result c.all_stand.ensures c.if-not-all_stand.true)

pub returns : goal.returns
returns c =
    main-fits c.requires c.tier_count.ensures c.shared-first.ensures c.walk.ensures c.in_ok-k.was
    (decided_true c.all_stand.result c.all_stand.ensures c.if-not-all_stand.false)
