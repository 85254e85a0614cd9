use native.Mathlib.Omega.{arith}
use mathlib.Core.Path.{refl, sym, ap, ◌∙◌}
use Rattle.layout.proofs.Bounds.{framed-bounded}
use Rattle.entries.specs.Keys.{segment_of_hash, segment_of, lookup_of_hash, lookup_key}
use Rattle.search.proofs.Seeking.{search-starts, searching-ends, searching-out, searching-tier, searching-found, searching-turns}
use Rattle.search.proofs.search.Goals as goal

pub tier_count-most-requires : goal.tier_count-most-requires
tier_count-most-requires c = framed-bounded c.requires.framed

pub loop-init : goal.loop-init
unfolding segment_of
loop-init c =
    search-starts c.args.z c.args.img.now c.args.key.now c.tier_count-most.result _ c.segment_of_hash-main.result
    c.tier_count-most.ensures refl (c.segment_of_hash-main.ensures.0 ∙ ap (segment_of_hash c.args.z.settings) c.xxh64-h.ensures)
    c.segment_of_hash-main.ensures.1 c.requires.chain_tiers

pub returns-then-t-eq0 : goal.returns-then-t-eq0
returns-then-t-eq0 c = searching-ends c.args.z c.args.img.now c.args.key.now c.loop.invariant c.if-t-eq0.true

pub seek-sought-requires : goal.seek-sought-requires
unfolding lookup_key
seek-sought-requires c =
    record {
      tier = record {
        framed = c.requires.framed;
        tier_in = searching-tier c.args.z c.args.img.now c.args.key.now c.loop.invariant
            (omega arith) c.if-t-eq0.false;
      };
      lookup_is = c.lookup_of_hash-lookup.ensures.0 ∙ ap (lookup_of_hash c.args.z.settings) c.xxh64-h.ensures;
    }

pub returns-in-Holds : goal.returns-in-Holds
returns-in-Holds c =
    searching-found c.args.z c.args.img.now c.args.key.now c.loop.invariant c.loop-test.true c.if-t-eq0.false
    c.in-Holds.j (sym c.seek-sought.ensures ∙ c.in-Holds.is)

pub shared-t-requires : goal.shared-t-requires
shared-t-requires c = (
  c.requires.framed,
  searching-tier c.args.z c.args.img.now c.args.key.now c.loop.invariant c.loop-test.true c.if-t-eq0.false,
)

pub loop-preserved : goal.loop-preserved
loop-preserved c =
    searching-turns c.args.z c.args.img.now c.args.key.now c.loop.invariant c.loop-test.true c.if-t-eq0.false
    c.in-Empty.j (sym c.seek-sought.ensures ∙ c.in-Empty.is) c.shared-t.result c.shared-t.ensures

pub returns : goal.returns
returns c = searching-out c.args.z c.args.img.now c.args.key.now c.loop.invariant (omega arith)
