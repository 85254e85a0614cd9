use native.Mathlib.Omega.{arith}
use native.Mathlib.Numerals.{add-one}
use Rattle.lists.proofs.Decides.{decided_true, decided-false}
use Rattle.chains.proofs.Standing.{standing-starts, standing-tier, standing-turns, standing-ends}
use Rattle.chains.proofs.all_stand.Goals as goal

pub loop-i-init : goal.loop-i-init
loop-i-init c = rw add-one (standing-starts _ _ _ _ c.requires)

pub stands-requires : goal.stands-requires
stands-requires c = record { framed = c.requires.framed; is_tier = standing-tier _ _ _ _ c.requires c.loop-i.invariant (omega arith) }

pub returns-then-not-stands : goal.returns-then-not-stands
returns-then-not-stands c =
    λ f. decided-false c.stands.result c.stands.ensures c.if-not-stands.true
    (rw (c.loop-i.invariant.here (omega arith), c.loop-i.invariant.before) (f c.loop-i.i (omega arith)))

pub shared-t-requires : goal.shared-t-requires
shared-t-requires c = (c.requires.framed, standing-tier _ _ _ _ c.requires c.loop-i.invariant (omega arith))

pub loop-i-preserved : goal.loop-i-preserved
loop-i-preserved c =
    standing-turns c.args.z c.args.img.now c.args.s c.args.n c.requires c.loop-i.invariant (omega arith)
    (rw (← c.loop-i.invariant.here (omega arith), ← c.loop-i.invariant.before)
    (decided_true c.stands.result c.stands.ensures c.if-not-stands.false))
    c.shared-t.ensures

pub returns : goal.returns
returns c = standing-ends _ _ _ _ c.requires c.loop-i.invariant (omega arith)
