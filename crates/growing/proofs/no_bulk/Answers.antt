use mathlib.Core.Path.{sym, subst}
use Rattle.layout.specs.Frame.{Bounded}
use Rattle.growing.proofs.Reshaped.{bounded-grown, too_many, by_length}
use Rattle.growing.proofs.no_bulk.Goals as goal

pub tier_count-requires : goal.tier_count-requires
tier_count-requires c = subst Bounded (sym c.grown-more.ensures) (bounded-grown c.args.z c.requires)

pub returns-then-tier_count-gt-MOST_TIERS : goal.returns-then-tier_count-gt-MOST_TIERS
returns-then-tier_count-gt-MOST_TIERS c = too_many c.args.z _ c.grown-more.ensures c.tier_count.ensures c.if-tier_count-gt-MOST_TIERS.true

pub store_end-requires : goal.store_end-requires
store_end-requires c = subst Bounded (sym c.grown-more.ensures) (bounded-grown c.args.z c.requires)

pub returns : goal.returns
returns c = by_length c.args.z _ c.grown-more.ensures c.tier_count.ensures c.if-tier_count-gt-MOST_TIERS.false c.store_end.ensures
