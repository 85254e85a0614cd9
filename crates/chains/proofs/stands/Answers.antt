use mathlib.Core.Path.{ap, sym, ◌∙◌}
use Rattle.layout.specs.declared.Counters.{Counters}
use Rattle.layout.specs.Places.{counters_of}
use Rattle.chains.proofs.stands.Goals as goal

pub returns-then-c-s : goal.returns-then-c-s
unfolding counters_of
returns-then-c-s c = λ v. c.if-c-s.true (ap (λ (r : Counters). r.segment) c.read-c.ensures ∙ v.segment_is)

pub returns-then-c-order : goal.returns-then-c-order
unfolding counters_of
returns-then-c-order c = λ v. c.if-c-order.true (ap (λ (r : Counters). r.order) c.read-c.ensures ∙ v.order_is)

pub returns-then-c-previous : goal.returns-then-c-previous
unfolding counters_of
returns-then-c-previous c = λ v. c.if-c-previous.true (ap (λ (r : Counters). r.previous) c.read-c.ensures ∙ v.previous_is)

pub returns : goal.returns
unfolding counters_of
returns c =
    record {
      segment_is = sym (ap (λ (r : Counters). r.segment) c.read-c.ensures) ∙ c.if-c-s.false;
      order_is = sym (ap (λ (r : Counters). r.order) c.read-c.ensures) ∙ c.if-c-order.false;
      previous_is = sym (ap (λ (r : Counters). r.previous) c.read-c.ensures) ∙ c.if-c-previous.false;
    }
