use mathlib.Core.Path.{◌∙◌}
use Rattle.layout.proofs.PlaceBytes.{le-place, shared-bytes, shared-eight}
use Rattle.layout.proofs.read.shared.Goals as goal

pub read_le4-requires : goal.read_le4-requires
read_le4-requires c = (shared-bytes c.requires c.args.field c.shared_bytes-at.ensures c.if-wide-eq4.true).within

pub read_le8-requires : goal.read_le8-requires
read_le8-requires c =
    (shared-bytes c.requires c.args.field c.shared_bytes-at.ensures (shared-eight c.requires c.args.field c.shared_bytes-at.ensures c.if-wide-eq4.false)).within

pub returns-then-wide-eq4 : goal.returns-then-wide-eq4
returns-then-wide-eq4 c =
    c.read_le4.ensures.0 ∙ le-place (shared-bytes c.requires c.args.field c.shared_bytes-at.ensures c.if-wide-eq4.true) _

pub returns-else-wide-eq4 : goal.returns-else-wide-eq4
returns-else-wide-eq4 c =
    c.read_le8.ensures
    ∙ le-place
    (shared-bytes c.requires c.args.field c.shared_bytes-at.ensures (shared-eight c.requires c.args.field c.shared_bytes-at.ensures c.if-wide-eq4.false)) _
