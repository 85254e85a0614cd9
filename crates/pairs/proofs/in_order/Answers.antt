use mathlib.Core.Path.{sym, ◌∙◌}
use mir.Syntax.{w32}
use mir.ValLaws.{to_z-of_z}
use Rattle.pairs.proofs.Numbers.{held-not, less-is, less-not}
use Rattle.pairs.proofs.Orders.{sign-first, sign-last}
use Rattle.pairs.proofs.in_order.Goals as goal

pub returns-then-a-b : goal.returns-then-a-b
returns-then-a-b c = record {
  value = to_z-of_z w32 c.args.d c.ranges.d ∙ sym (sign-first c.args.a c.args.b c.args.d c.if-a-b.true);
  is_delay = held-not c.ranges.d c.requires;
}

pub returns : goal.returns
returns c = record {
  value = less-is c.ranges.d c.requires ∙ sym (sign-last c.args.a c.args.b c.args.d c.if-a-b.false);
  is_delay = less-not c.ranges.d c.requires;
}
