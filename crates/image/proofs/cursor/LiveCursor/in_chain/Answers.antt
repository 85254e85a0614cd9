use mathlib.Core.Path.{refl, ◌∙◌}
use native.Mathlib.Omega.{arith}
use Rattle.image.proofs.Rest.{moves-starts, moves_more, moves-end, moves_next, tier-met, still-left, still-tier}
use Rattle.image.proofs.cursor.LiveCursor.in_chain.Goals as goal

pub loop-c-init : goal.loop-c-init
loop-c-init c = (moves-starts c.args.z c.args.img.now c.requires.1, refl)

pub returns-then-c-eq0 : goal.returns-then-c-eq0
returns-then-c-eq0 c = (
  moves_more c.args.z c.args.img.now c.loop-c.invariant.0 (moves-end c.args.z c.args.img.now c.loop-c.invariant.0.in_chain c.if-c-eq0.true),
  c.loop-c.invariant.1,
  λ some. absurd (some refl),
)

pub in_tier-c-requires : goal.in_tier-c-requires
in_tier-c-requires c = record { framed = c.requires.0; in_chain = c.loop-c.invariant.0.in_chain; some = c.loop-c-test.true; tier_is = c.if-c-eq0.false }

pub returns-then-c-z : goal.returns-then-c-z
returns-then-c-z c = (
  moves_more c.args.z c.args.img.now c.loop-c.invariant.0 c.in_tier-c.ensures.0.moves,
  c.in_tier-c.ensures.0.segment_is ∙ c.loop-c.invariant.1,
  λ _. c.in_tier-c.ensures.1 c.if-c-z.true,
)

pub shared-requires : goal.shared-requires
shared-requires c = (c.requires.0, tier-met c.args.z c.args.img.now c.loop-c-test.true c.if-c-eq0.false c.in_tier-c.ensures.0)

pub overflow_sub-c : goal.overflow_sub-c
overflow_sub-c c = omega (arith, c.in_tier-c.ensures.0.left_is, c.loop-c-test.true)

pub loop-c-smaller : goal.loop-c-smaller
loop-c-smaller c = omega (arith, c.in_tier-c.ensures.0.left_is, c.loop-c-test.true)

pub loop-c-preserved : goal.loop-c-preserved
loop-c-preserved c =
    let some = still-left c.args.z c.args.img.now c.loop-c-test.true c.if-c-eq0.false c.in_tier-c.ensures.0 in
    let ne = still-tier c.args.z c.args.img.now c.loop-c-test.true c.if-c-eq0.false c.in_tier-c.ensures.0 in
    let next = moves_next c.args.z c.args.img.now c.in_tier-c.ensures.0.moves.in_chain some ne c.if-c-z.false c.shared.ensures in (
      moves_more c.args.z c.args.img.now (moves_more c.args.z c.args.img.now c.loop-c.invariant.0 c.in_tier-c.ensures.0.moves) next,
      c.in_tier-c.ensures.0.segment_is ∙ c.loop-c.invariant.1,
    )

pub returns : goal.returns
returns c = (c.loop-c.invariant.0, c.loop-c.invariant.1, λ some. absurd (some c.loop-c-test.false))
