use Rattle.xxh64.specs.Hash.{mix1_of}
use Rattle.xxh64.proofs.mix1.Goals as goal

pub returns : goal.returns
unfolding mix1_of
returns c = cc
