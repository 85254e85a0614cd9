use mathlib.Core.Path.{refl, sym, ◌∙◌}
use Rattle.layout.proofs.Bounds.{framed-bounded}
use Rattle.placement.proofs.FirstRun.{first-none, seeking-ends, seeking-out, seeking-tier, seeking-found, seeking-turns}
use Rattle.placement.proofs.runs.first_run.Goals as goal

pub tier_count-most-requires : goal.tier_count-most-requires
tier_count-most-requires c = framed-bounded c.requires.framed

pub loop-init : goal.loop-init
loop-init c =
    record {
      most_is = c.tier_count-most.ensures;
      is = refl;
      tiers_of = rw c.in-Some.is at c.requires.tiers_of;
      low_marks = rw c.in-Some.is at c.requires.low_marks;
    }

pub returns-in_default : goal.returns-in_default
returns-in_default c = rw c.in_default.is (sym (first-none _ _ _ _))

pub returns-then-t-eq0 : goal.returns-then-t-eq0
returns-then-t-eq0 c = rw c.in-Some.is (seeking-ends _ _ _ _ _ c.loop.invariant c.if-t-eq0.true)

pub run_in-requires : goal.run_in-requires
run_in-requires c =
    let is = seeking-tier _ _ _ _ _ c.loop.invariant c.loop-test.true c.if-t-eq0.false in
    record {
      tier = record { framed = c.requires.framed; tier_in = is.0 };
      low_mark = is.1;
      some = c.requires.some;
      old_ends = rw c.in-Some.is at c.requires.old_ends;
    }

pub returns-in-At : goal.returns-in-At
returns-in-At c =
    rw c.in-Some.is
    (seeking-found _ _ _ _ _ c.loop.invariant c.loop-test.true c.if-t-eq0.false c.in-At.t c.in-At.c (sym c.run_in.ensures ∙ c.in-At.is))

pub shared-t-requires : goal.shared-t-requires
shared-t-requires c = (c.requires.framed, (seeking-tier _ _ _ _ _ c.loop.invariant c.loop-test.true c.if-t-eq0.false).0)

pub loop-preserved : goal.loop-preserved
loop-preserved c =
    seeking-turns _ _ _ _ _ c.loop.invariant c.loop-test.true c.if-t-eq0.false (sym c.run_in.ensures ∙ c.in_default-run_in.is) c.shared-t.ensures

pub returns : goal.returns
returns c = rw c.in-Some.is (seeking-out _ _ _ _ _ c.loop.invariant c.loop-test.false)
