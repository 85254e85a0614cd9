use mathlib.Core.Path.{refl, sym, ◌∙◌}
use Rattle.layout.proofs.Bounds.{slot-eight}
use Rattle.layout.proofs.PlaceBytes.{le-place, slot-bytes}
use native.Mathlib.Omega.{arith}
use Rattle.layout.proofs.read.slot.Goals as goal

pub overflow_mul-at : goal.overflow_mul-at
overflow_mul-at c = omega (arith, (slot-bytes c.requires c.tier_at.ensures refl).small)

pub overflow_add-at : goal.overflow_add-at
overflow_add-at c = omega (arith, (slot-bytes c.requires c.tier_at.ensures refl).small)

pub read_le4-requires : goal.read_le4-requires
read_le4-requires c = (slot-bytes c.requires c.tier_at.ensures (sym c.if-z-eq4.true)).within

pub read_le8-requires : goal.read_le8-requires
read_le8-requires c = (slot-bytes c.requires c.tier_at.ensures (sym (slot-eight c.requires.tier.framed.valid.slotSize c.if-z-eq4.false))).within

pub returns-then-z-eq4 : goal.returns-then-z-eq4
returns-then-z-eq4 c = c.read_le4.ensures.0 ∙ le-place (slot-bytes c.requires c.tier_at.ensures (sym c.if-z-eq4.true)) _

pub returns-else-z-eq4 : goal.returns-else-z-eq4
returns-else-z-eq4 c =
    c.read_le8.ensures
    ∙ le-place (slot-bytes c.requires c.tier_at.ensures (sym (slot-eight c.requires.tier.framed.valid.slotSize c.if-z-eq4.false))) _
