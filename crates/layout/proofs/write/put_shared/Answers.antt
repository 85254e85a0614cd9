use mathlib.Core.Path.{refl, ◌∙◌}
use Rattle.layout.proofs.PlaceBytes.{put_le-place, shared-bytes}
use Rattle.layout.proofs.write.put_shared.Goals as goal

pub write_le-requires : goal.write_le-requires
write_le-requires c = (shared-bytes c.requires c.args.field c.shared_bytes-at.ensures refl).within

pub returns : goal.returns
returns c = c.write_le.ensures ∙ put_le-place (shared-bytes c.requires c.args.field c.shared_bytes-at.ensures refl) _ _
