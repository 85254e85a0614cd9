use native.Mathlib.Omega.{arith}
use Rattle.removal.proofs.Emptying.{start-distance}
use Rattle.removal.proofs.stays.Goals as goal

pub returns-then-d-eq0 : goal.returns-then-d-eq0
returns-then-d-eq0 c =
    λ p.
    omega (
      arith,
      p.0,
      start-distance c.args.st c.args.v c.args.h c.slot_key.ensures
          c.start-from.ensures.0 c.distance-d.ensures,
    )

pub returns-then-distance-d : goal.returns-then-distance-d
returns-then-distance-d c =
    λ p.
    omega (
      arith,
      p.1,
      start-distance c.args.st c.args.v c.args.h c.slot_key.ensures
          c.start-from.ensures.0 c.distance-d.ensures,
    )

pub returns : goal.returns
returns c =
    let e =
    start-distance c.args.st c.args.v c.args.h c.slot_key.ensures
    c.start-from.ensures.0 c.distance-d.ensures in
    (omega (arith, e), omega (arith, e))
