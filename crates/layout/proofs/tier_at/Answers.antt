use Rattle.layout.specs.Tiers.{tiers}
use Rattle.layout.proofs.Tiers.{tier-main, tier-extra}
use Rattle.layout.proofs.Bounds.{framed-bounded, tier-room}
use native.Mathlib.Omega.{arith}
use Rattle.layout.proofs.tier_at.Goals as goal

pub mains-requires : goal.mains-requires
mains-requires c = framed-bounded c.requires.0

pub overflow_mul-result : goal.overflow_mul-result
overflow_mul-result c = omega (arith, tier-main c.args.z c.args.t c.if-t-z.true, tier-room c.requires.0 c.args.t c.requires.1)

pub overflow_add-result : goal.overflow_add-result
overflow_add-result c =
    omega (
      arith,
      tier-main c.args.z c.args.t c.if-t-z.true,
      tier-room c.requires.0 c.args.t c.requires.1,
      c.mains.ensures,
    )

pub bulks_at-requires : goal.bulks_at-requires
bulks_at-requires c = framed-bounded c.requires.0

pub extra_at-requires : goal.extra_at-requires
unfolding tiers
extra_at-requires c = (c.requires.0, omega (arith, c.requires.1.1, c.if-t-z.false))

pub overflow_add-result-else-t-z : goal.overflow_add-result-else-t-z
overflow_add-result-else-t-z c =
    omega (
      arith,
      tier-extra c.args.z c.args.t c.if-t-z.false,
      tier-room c.requires.0 c.args.t c.requires.1,
      c.bulks_at.ensures,
      c.extra_at.ensures,
    )

pub returns-then-t-z : goal.returns-then-t-z
returns-then-t-z c = omega (arith, tier-main c.args.z c.args.t c.if-t-z.true, c.mains.ensures)

pub returns-else-t-z : goal.returns-else-t-z
returns-else-t-z c = omega (arith, tier-extra c.args.z c.args.t c.if-t-z.false, c.bulks_at.ensures, c.extra_at.ensures)
