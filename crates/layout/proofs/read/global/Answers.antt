use mathlib.Core.Path.{◌∙◌}
use Rattle.layout.proofs.PlaceBytes.{le-place, global-bytes, global-wide}
use Rattle.layout.proofs.read.global.Goals as goal

pub read_le-requires : goal.read_le-requires
read_le-requires c = rw c.bytes-at.ensures ((global-bytes c.requires c.args.field).within, global-wide c.args.field)

pub returns : goal.returns
returns c = (rw c.bytes-at.ensures at c.read_le.ensures.0) ∙ le-place (global-bytes c.requires c.args.field) _
