use Rattle.layout.proofs.Bounds.{framed-bounded}
use Rattle.image.proofs.cursor.LiveCursor.start.Goals as goal

pub tier_count-requires : goal.tier_count-requires
tier_count-requires c = framed-bounded c.requires.0

pub returns : goal.returns
returns c = cc
