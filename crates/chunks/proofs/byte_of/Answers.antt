use native.Mathlib.Omega.{arith}
use Rattle.layout.proofs.Marks.{free-inside}
use Rattle.chunks.proofs.Eights.{byte-bits}
use Rattle.chunks.proofs.byte_of.Goals as goal

pub overflow_add-result : goal.overflow_add-result
overflow_add-result c =
    omega (
      arith,
      free-inside c.requires.tier.framed c.args.t c.requires.tier.tier_in,
      c.requires.tier.framed.within,
      c.requires.tier.framed.small,
      c.requires.at_is,
      c.requires.ends,
    )

pub bounds-img-at : goal.bounds-img-at
bounds-img-at c =
    omega (
      arith,
      free-inside c.requires.tier.framed c.args.t c.requires.tier.tier_in,
      c.requires.tier.framed.within,
      c.requires.tier.framed.small,
      c.requires.at_is,
      c.requires.ends,
    )

pub returns : goal.returns
returns c = byte-bits c.args.z c.args.img.now c.args.t c.args.i c.requires.even _ c.requires.at_is
