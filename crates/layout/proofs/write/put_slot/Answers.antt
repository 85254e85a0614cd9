use mathlib.Core.Path.{refl, ◌∙◌}
use Rattle.layout.proofs.PlaceBytes.{put_le-place, slot-bytes}
use native.Mathlib.Omega.{arith}
use Rattle.layout.proofs.write.put_slot.Goals as goal

pub overflow_mul-at : goal.overflow_mul-at
overflow_mul-at c = omega (arith, (slot-bytes c.requires c.tier_at.ensures refl).small)

pub overflow_add-at : goal.overflow_add-at
overflow_add-at c = omega (arith, (slot-bytes c.requires c.tier_at.ensures refl).small)

pub write_le-requires : goal.write_le-requires
write_le-requires c = (slot-bytes c.requires c.tier_at.ensures refl).within

pub returns : goal.returns
returns c = c.write_le.ensures ∙ put_le-place (slot-bytes c.requires c.tier_at.ensures refl) _ _
