use Rattle.layout.specs.Tiers.{extra_at}
use Rattle.layout.proofs.Bounds.{extra-room}
use mathlib.Core.Path.{refl}
use native.Mathlib.Omega.{arith}
use Rattle.layout.proofs.extra_at.Goals as goal

pub overflow_mul-result : goal.overflow_mul-result
unfolding extra_at
overflow_mul-result c = omega (arith, extra-room c.requires.0 c.args.e c.requires.1)

pub overflow_add-result : goal.overflow_add-result
unfolding extra_at
overflow_add-result c = omega (arith, extra-room c.requires.0 c.args.e c.requires.1)

pub overflow_mul-result-2 : goal.overflow_mul-result-2
unfolding extra_at
overflow_mul-result-2 c = omega (arith, extra-room c.requires.0 c.args.e c.requires.1)

pub overflow_add-result-2 : goal.overflow_add-result-2
unfolding extra_at
overflow_add-result-2 c = omega (arith, extra-room c.requires.0 c.args.e c.requires.1)

pub returns : goal.returns
unfolding extra_at
returns c = refl
