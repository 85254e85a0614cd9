use Rattle.settings.specs.Block.{field}
use Rattle.settings.proofs.field.Goals as goal

pub returns : goal.returns
unfolding field
returns c = c.read_be.ensures.0
