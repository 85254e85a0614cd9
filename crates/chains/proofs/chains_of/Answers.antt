use native.Mathlib.Omega.{arith}
use mathlib.Core.Path.{sym}
use Rattle.layout.specs.Tiers.{tiers}
use Rattle.layout.proofs.Bounds.{framed-bounded, products}
use Rattle.lists.proofs.Decides.{decided_true, decided-false}
use Rattle.chains.proofs.FromWalks.{counting-starts, first-lost, first-counting, first-few, free-lost, second-long, met-wrong, used-wrong, all_right}
use Rattle.chains.proofs.chains_of.Goals as goal

pub all_fit-requires : goal.all_fit-requires
all_fit-requires c = counting-starts c.requires

pub returns-in_err-used : goal.returns-in_err-used
returns-in_err-used c = cc (first-lost c.requires c.all_fit.ensures c.in_err-used.was)

pub tier_count-requires : goal.tier_count-requires
tier_count-requires c = framed-bounded c.requires

pub walk-requires : goal.walk-requires
walk-requires c =
    record {
      counting = first-counting c.requires c.all_fit.ensures c.in_ok-used.was;
      few = omega (arith, c.tier_count.ensures, c.requires.tier_count);
    }

pub returns-in_err-free : goal.returns-in_err-free
returns-in_err-free c =
    cc (free-lost c.requires c.all_fit.ensures c.in_ok-used.was c.tier_count.ensures c.global-head.ensures c.walk.ensures
    c.in_err-free.was)

pub overflow_mul-z : goal.overflow_mul-z
overflow_mul-z c = omega (arith, (products (framed-bounded c.requires)).extras)

pub met_once-requires : goal.met_once-requires
unfolding tiers
met_once-requires c =
    omega (
      arith,
      second-long c.requires c.all_fit.ensures c.in_ok-used.was c.tier_count.ensures c.global-head.ensures c.walk.ensures c.in_ok-free.was,
      c.requires.tier_count,
    )

pub returns-then-not-met_once : goal.returns-then-not-met_once
returns-then-not-met_once c =
    sym (met-wrong c.requires c.all_fit.ensures c.in_ok-used.was c.tier_count.ensures c.global-head.ensures c.walk.ensures
    c.in_ok-free.was
    (decided-false c.met_once.result c.met_once.ensures c.if-not-met_once.true))

pub returns-then-global-used : goal.returns-then-global-used
returns-then-global-used c =
    sym (used-wrong c.requires c.all_fit.ensures c.in_ok-used.was c.tier_count.ensures c.global-head.ensures c.walk.ensures
    c.in_ok-free.was c.global.ensures c.if-global-used.true)

pub overflow_add-result : goal.overflow_add-result
overflow_add-result c = omega (arith, first-few c.requires c.all_fit.ensures c.in_ok-used.was, c.requires.valid.segments.1.1)

pub returns : goal.returns
returns c =
    sym (all_right c.requires c.all_fit.ensures c.in_ok-used.was c.tier_count.ensures c.global-head.ensures c.walk.ensures
    c.in_ok-free.was c.global.ensures
    (decided_true c.met_once.result c.met_once.ensures c.if-not-met_once.false) c.if-global-used.false)
