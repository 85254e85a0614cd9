use Rattle.xxh64.specs.Hash.{avalanche_of}
use Rattle.xxh64.proofs.avalanche.Goals as goal

pub returns : goal.returns
unfolding avalanche_of
returns c = cc
