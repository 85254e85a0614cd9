use Rattle.xxh64.specs.Hash.{sum_of, converge_of}
use Rattle.xxh64.proofs.converge.Goals as goal

pub returns : goal.returns
unfolding converge_of sum_of
returns c = cc
