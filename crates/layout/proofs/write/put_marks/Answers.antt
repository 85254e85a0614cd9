use Rattle.layout.specs.Places.{put_marks}
use Rattle.layout.proofs.Marks.{free-inside}
use native.Mathlib.Omega.{arith}
use Rattle.layout.proofs.write.put_marks.Goals as goal

pub put_bits-requires : goal.put_bits-requires
put_bits-requires c =
    omega (
      arith,
      free-inside c.requires.0.framed c.args.t c.requires.0.tier,
      c.requires.0.framed.within,
      c.requires.0.framed.valid.chunks,
      c.requires.0.within,
      c.requires.1,
      c.free_list_at.ensures,
    )

pub returns : goal.returns
unfolding put_marks
returns c = cc
