use mathlib.Core.Path.{◌∙◌}
use Rattle.layout.proofs.PlaceBytes.{put_le-place, global-bytes}
use Rattle.layout.proofs.write.put_global.Goals as goal

pub write_le-requires : goal.write_le-requires
write_le-requires c = rw c.bytes-at.ensures (global-bytes c.requires c.args.field).within

pub returns : goal.returns
returns c = (rw c.bytes-at.ensures at c.write_le.ensures) ∙ put_le-place (global-bytes c.requires c.args.field) _ _
