use mathlib.Core.Path.{◌∙◌}
use Rattle.layout.specs.declared.Counter.TheVariants.{Previous as previous, Segment as segment, Order as order}
use Rattle.layout.specs.Places.{counters_of}
use Rattle.layout.proofs.PlaceBytes.{le-place, counter-bytes}
use native.Mathlib.Omega.{arith}
use Rattle.layout.proofs.Counters.read.Goals as goal

pub overflow_add-at : goal.overflow_add-at
overflow_add-at c = omega (arith, (counter-bytes c.requires previous c.counters_at-at.ensures).small)

pub read_le8-requires : goal.read_le8-requires
read_le8-requires c = (counter-bytes c.requires previous c.counters_at-at.ensures).within

pub overflow_add-at-2 : goal.overflow_add-at-2
overflow_add-at-2 c = omega (arith, (counter-bytes c.requires segment c.counters_at-at.ensures).small)

pub read_le4-requires : goal.read_le4-requires
read_le4-requires c = (counter-bytes c.requires segment c.counters_at-at.ensures).within

pub overflow_add-at-3 : goal.overflow_add-at-3
overflow_add-at-3 c = omega (arith, (counter-bytes c.requires order c.counters_at-at.ensures).small)

pub read_le4-requires-2 : goal.read_le4-requires-2
read_le4-requires-2 c = (counter-bytes c.requires order c.counters_at-at.ensures).within

pub returns : goal.returns
unfolding counters_of
returns c =
    let previous-is = c.read_le8.ensures ∙ le-place (counter-bytes c.requires previous c.counters_at-at.ensures) _ in
    let segment-is = c.read_le4.ensures.0 ∙ le-place (counter-bytes c.requires segment c.counters_at-at.ensures) _ in
    let order_is = c.read_le4-2.ensures.0 ∙ le-place (counter-bytes c.requires order c.counters_at-at.ensures) _ in
    cc
