use Rattle.chunks.proofs.Marks.{lowest-other}
use Rattle.chunks.proofs.lowest_clear.Goals as goal

pub returns : goal.returns
returns c = lowest-other _ _ _ c.lowest_other.ensures
