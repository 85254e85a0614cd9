use Rattle.layout.specs.Frame.{shape_of}
use Rattle.layout.proofs.shape_of.Goals as goal

pub returns : goal.returns
unfolding shape_of
returns c = (cc, record { valid = c.requires.0; headers = c.read_le4.ensures.1; bulks = c.read_le.ensures.1 })
