use mathlib.Core.Path.{refl, sym, ◌∙◌}
use Rattle.layout.proofs.Bounds.{framed-bounded}
use Rattle.placement.proofs.Written.{segment-made, lookup-made}
use Rattle.placement.proofs.Walking.{walking_starts, walking_ends, walking_out, walking_in, walking_slot, walking_found, walking_turns}
use Rattle.placement.proofs.walk.walk_chain.Goals as goal

pub tier_count-most-requires : goal.tier_count-most-requires
tier_count-most-requires c = framed-bounded c.requires.framed

pub loop-k-init : goal.loop-k-init
loop-k-init c =
    walking_starts c.args.z c.args.img.now c.args.key.now c.args.n c.tier_count-most.ensures
    (segment-made c.args.z.settings c.args.key.now c.xxh64-h.ensures c.segment_of_hash-t.ensures.0) refl

pub returns-then-t-eq0 : goal.returns-then-t-eq0
returns-then-t-eq0 c =
    walking_ends _ _ _ _ c.loop-k.invariant c.if-t-eq0.true

pub seek-requires : goal.seek-requires
seek-requires c =
    record {
      tier = record {
        framed = c.requires.framed;
        tier_in = c.requires.tiers_of _ (walking_in _ _ _ _ c.loop-k.invariant c.loop-k-test.true c.if-t-eq0.false);
      };
      lookup_is = lookup-made c.args.z.settings c.args.key.now c.xxh64-h.ensures c.lookup_of_hash-lookup.ensures.0;
    }

pub at-requires : goal.at-requires
at-requires c =
    record {
      tier = record {
        framed = c.requires.framed;
        tier_in = c.requires.tiers_of _ (walking_in _ _ _ _ c.loop-k.invariant c.loop-k-test.true c.if-t-eq0.false);
      };
      slot_in =
          walking_slot _ _ _ _ c.loop-k.invariant c.loop-k-test.true
          c.if-t-eq0.false (sym c.seek.ensures ∙ c.in-Holds.is) c.requires.framed;
    }

pub returns-in-Holds : goal.returns-in-Holds
returns-in-Holds c =
    walking_found _ _ _ _ c.loop-k.invariant c.loop-k-test.true
    c.if-t-eq0.false (sym c.seek.ensures ∙ c.in-Holds.is) c.at.ensures

pub or_tier-candidate-requires : goal.or_tier-candidate-requires
or_tier-candidate-requires c =
    let here = walking_in _ _ _ _ c.loop-k.invariant c.loop-k-test.true c.if-t-eq0.false in
    record {
      tier = record { framed = c.requires.framed; tier_in = c.requires.tiers_of _ here };
      low_mark = c.requires.low_marks _ here;
      some = c.requires.some;
      old_ends = tt;
    }

pub shared-t-requires : goal.shared-t-requires
shared-t-requires c = (c.requires.framed, c.requires.tiers_of _ (walking_in _ _ _ _ c.loop-k.invariant c.loop-k-test.true c.if-t-eq0.false))

pub loop-k-preserved : goal.loop-k-preserved
loop-k-preserved c =
    walking_turns _ _ _ _ c.loop-k.invariant c.loop-k-test.true
    c.if-t-eq0.false (sym c.seek.ensures ∙ c.in-Empty.is) c.or_tier-candidate.ensures c.shared-t.ensures

pub returns : goal.returns
returns c =
    walking_out _ _ _ _ c.loop-k.invariant c.loop-k-test.false
