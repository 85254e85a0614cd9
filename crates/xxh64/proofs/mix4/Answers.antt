use Rattle.xxh64.specs.Hash.{mix4_of}
use Rattle.xxh64.proofs.mix4.Goals as goal

pub returns : goal.returns
unfolding mix4_of
returns c = cc
