use Rattle.xxh64.specs.Hash.{round_of}
use Rattle.xxh64.proofs.round.Goals as goal

pub returns : goal.returns
unfolding round_of
returns c = rw (c.mul-2.ensures, c.rotl.ensures, c.mul.ensures)
