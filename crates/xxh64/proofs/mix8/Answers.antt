use Rattle.xxh64.specs.Hash.{mix8_of}
use Rattle.xxh64.proofs.mix8.Goals as goal

pub returns : goal.returns
unfolding mix8_of
returns c = cc
