use Rattle.xxh64.specs.Hash.{merge_of}
use Rattle.xxh64.proofs.merge.Goals as goal

pub returns : goal.returns
unfolding merge_of
returns c = cc
