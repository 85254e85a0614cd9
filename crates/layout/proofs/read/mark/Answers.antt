use Rattle.layout.specs.Places.{mark}
use Rattle.layout.proofs.Marks.{free-inside}
use native.Mathlib.Omega.{arith}
use Rattle.layout.proofs.read.mark.Goals as goal

pub bit-requires : goal.bit-requires
bit-requires c = omega (arith, free-inside c.requires.framed c.args.t c.requires.tier, c.requires.framed.within, c.requires.within, c.free_list_at.ensures)

pub returns : goal.returns
unfolding mark
returns c = (cc, c.bit.ensures.1)
