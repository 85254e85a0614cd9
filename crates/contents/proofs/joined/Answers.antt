use mathlib.Core.Path.{sym}
use Rattle.contents.proofs.Saying.{can-add}
use Rattle.contents.specs.Counting.{joined}
use mathlib.Core.Path.{ap₂}
use native.Mathlib.Omega.{arith}
use Rattle.contents.proofs.joined.Goals as goal

pub overflow_add-result : goal.overflow_add-result
overflow_add-result c =
    omega (
      arith,
      can-add c.args.a c.args.b c.requires.left c.requires.right c.in-Ok.entries c.in-Ok.marked c.in-Ok.is
          c.in-Ok-b-2.n c.in-Ok-b-2.m c.in-Ok-b-2.is,
    )

pub overflow_add-result-in-Ok-b-2 : goal.overflow_add-result-in-Ok-b-2
overflow_add-result-in-Ok-b-2 c =
    omega (
      arith,
      can-add c.args.a c.args.b c.requires.left c.requires.right c.in-Ok.entries c.in-Ok.marked c.in-Ok.is
          c.in-Ok-b-2.n c.in-Ok-b-2.m c.in-Ok-b-2.is,
    )

pub returns-in-Ok-b-2 : goal.returns-in-Ok-b-2
returns-in-Ok-b-2 c = sym (ap₂ joined c.in-Ok.is c.in-Ok-b-2.is)
