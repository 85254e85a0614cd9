use native.Mathlib.Omega.{arith}
use mathlib.Core.Path.{refl, ap, ◌∙◌}
use Rattle.std.specs.Prelude.{Ok}
use Rattle.std.proofs.lemmas.Result.{err_from_is_err_and}
use Rattle.layout.proofs.Bounds.{framed-bounded}
use Rattle.entries.specs.Keys.{segment_of_hash, segment_of, lookup_of_hash, lookup_key}
use Rattle.walk.proofs.Walking.{walk-starts, walk-out, walk-found, walk-broken, walk_ends, walk_astray, walk-turns}
use Rattle.walk.proofs.walk.Goals as goal

pub tier_count-most-requires : goal.tier_count-most-requires
tier_count-most-requires c = framed-bounded c.requires.framed

pub loop-tiers-init : goal.loop-tiers-init
unfolding segment_of
loop-tiers-init c =
    walk-starts c.args.z c.args.img.now c.args.key.now c.tier_count-most.result _ c.segment_of_hash-t.result
    c.tier_count-most.ensures refl (c.segment_of_hash-t.ensures.0 ∙ ap (segment_of_hash c.args.z.settings) c.requires.hash_is)
    c.segment_of_hash-t.ensures.1 refl

pub in_tier-requires : goal.in_tier-requires
unfolding lookup_key
in_tier-requires c =
    record {
      tier = record { framed = c.requires.framed; tier_in = c.loop-tiers.invariant.tier_in };
      lookup_is = c.lookup_of_hash-lookup.ensures.0 ∙ ap (lookup_of_hash c.args.z.settings) c.requires.hash_is;
    }

pub returns-in-Holds : goal.returns-in-Holds
returns-in-Holds c =
    walk-found c.args.z c.args.img.now c.args.key.now c.loop-tiers.invariant c.loop-tiers-test.true c.in_tier.ensures
    c.in-Holds.j c.in-Holds.e (c.in_ok-j.was ∙ ap Ok c.in-Holds.is)

pub returns-in_err-j : goal.returns-in_err-j
returns-in_err-j c =
    let p = err_from_is_err_and c.from_residual.result c.from_residual.ensures.1 in
    rw p.1 (walk-broken c.args.z c.args.img.now c.args.key.now c.loop-tiers.invariant c.loop-tiers-test.true c.in_tier.ensures c.in_err-j.was)

pub shared-next-requires : goal.shared-next-requires
shared-next-requires c = (c.requires.framed, c.loop-tiers.invariant.tier_in)

pub returns-then-next-eq0 : goal.returns-then-next-eq0
returns-then-next-eq0 c =
    walk_ends c.args.z c.args.img.now c.args.key.now c.loop-tiers.invariant c.loop-tiers-test.true c.in_tier.ensures
    c.in-Empty.j (c.in_ok-j.was ∙ ap Ok c.in-Empty.is) c.shared-next.result c.shared-next.ensures c.if-next-eq0.true

pub returns-then-next-z : goal.returns-then-next-z
returns-then-next-z c =
    walk_astray c.args.z c.args.img.now c.args.key.now c.loop-tiers.invariant c.loop-tiers-test.true c.in_tier.ensures
    c.in-Empty.j (c.in_ok-j.was ∙ ap Ok c.in-Empty.is) c.shared-next.result c.shared-next.ensures c.if-next-eq0.false (λ x. omega (arith, c.if-next-z.true))

pub returns-then-most-next : goal.returns-then-most-next
returns-then-most-next c =
    walk_astray c.args.z c.args.img.now c.args.key.now c.loop-tiers.invariant c.loop-tiers-test.true c.in_tier.ensures
    c.in-Empty.j (c.in_ok-j.was ∙ ap Ok c.in-Empty.is) c.shared-next.result c.shared-next.ensures c.if-next-eq0.false
    (λ x. omega (arith, c.if-most-next.true, c.tier_count-most.ensures))

pub loop-tiers-preserved : goal.loop-tiers-preserved
loop-tiers-preserved c =
    walk-turns c.args.z c.args.img.now c.args.key.now c.loop-tiers.invariant c.loop-tiers-test.true c.in_tier.ensures
    c.in-Empty.j (c.in_ok-j.was ∙ ap Ok c.in-Empty.is) c.shared-next.result c.shared-next.ensures c.if-next-eq0.false
    (omega (arith, c.if-next-z.false), omega (arith, c.if-most-next.false, c.tier_count-most.ensures)) refl

pub returns : goal.returns
returns c = walk-out c.args.z c.args.img.now c.args.key.now c.loop-tiers.invariant c.loop-tiers-test.false
