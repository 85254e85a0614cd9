use mathlib.Core.Path.{sym, subst}
use native.Mathlib.Omega.{arith}
use lib.ListN.{length}
use Rattle.layout.specs.declared.Shape.{Shape}
use Rattle.layout.specs.Frame.{Bounded, Framed}
use Rattle.layout.proofs.Bounds.{framed-bounded, framed-largest}
use Rattle.growing.proofs.Reshaped.{tiers-grown, framed-less}
use Rattle.growing.proofs.Loops.{BulkRead, new_tiers-starts, new_tiers-long, new_tiers-ends, new-within, last-few, new-framed, new_tiers-turns}
use Rattle.growing.proofs.new_tiers.Goals as goal
use Rattle.growing.proofs.new_tiers.Goals.{After-tier_count-first}

-- what is read before the first write
bulk-read : (c : After-tier_count-first)
    → BulkRead c.args.z c.args.img.now c.grown-more.result c.tier_count-last.result c.global-head.result c.tier_count-first.result
bulk-read c =
    record {
      more_is = c.grown-more.ensures;
      last_is = c.tier_count-last.ensures;
      head_is = c.global-head.ensures;
      count_is = c.tier_count-first.ensures;
    }

pub grown-more-requires : goal.grown-more-requires
grown-more-requires c = framed-largest (framed-less _ c.requires)

pub tier_count-last-requires : goal.tier_count-last-requires
tier_count-last-requires c = subst Bounded (sym c.grown-more.ensures) (framed-bounded c.requires)

pub global-head-requires : goal.global-head-requires
global-head-requires c = subst (λ (z : Shape). Framed z (length c.args.img.now)) (sym c.grown-more.ensures) c.requires

pub tier_count-first-requires : goal.tier_count-first-requires
tier_count-first-requires c = framed-bounded (framed-less _ c.requires)

pub overflow_add-first : goal.overflow_add-first
overflow_add-first c = omega (arith, c.tier_count-first.ensures, (framed-less _ c.requires).tier_count)

pub loop-k-init : goal.loop-k-init
loop-k-init c = new_tiers-starts _ _

pub overflow_add-t : goal.overflow_add-t
overflow_add-t c = omega (arith, c.tier_count-first.ensures, c.requires.tier_count, tiers-grown c.args.z)

pub after_new-requires : goal.after_new-requires
after_new-requires c =
    let read = bulk-read (goal.at.after_new-requires c).After-tier_count-first in
    (new-within _ _ c.loop-k.invariant read (omega arith), last-few _ _ c.loop-k.invariant read (omega arith) c.requires)

pub empty_tier-requires : goal.empty_tier-requires
empty_tier-requires c =
    let read = bulk-read (goal.at.empty_tier-requires c).After-tier_count-first in
    new-framed _ _ c.loop-k.invariant read (omega arith) c.requires

pub loop-k-preserved : goal.loop-k-preserved
loop-k-preserved c =
    let read = bulk-read (goal.at.loop-k-preserved c).After-tier_count-first in
    new_tiers-turns _ _ c.loop-k.invariant read c.loop-k-test.true c.after_new.ensures c.empty_tier.ensures

pub shape_of-img : goal.shape_of-img
shape_of-img c = new_tiers-long _ _ c.loop-k.invariant

pub returns : goal.returns
returns c = new_tiers-ends _ _ c.loop-k.invariant (omega arith)
