use Rattle.layout.specs.Places.{chunk_at, free_list_at, at, part_at}
use Rattle.layout.proofs.Bounds.{tier-room}
use native.Mathlib.Nat.{mul-le-mul_right}
use native.Mathlib.Omega.{arith}
use Rattle.layout.proofs.chunk_at.Goals as goal

pub overflow_add-result : goal.overflow_add-result
unfolding free_list_at at part_at
overflow_add-result c = omega (arith, tier-room c.requires.framed c.args.t c.requires.tier, c.free_list_at.ensures)

pub overflow_add-result-2 : goal.overflow_add-result-2
unfolding free_list_at at part_at
overflow_add-result-2 c = omega (arith, tier-room c.requires.framed c.args.t c.requires.tier, c.free_list_at.ensures)

pub overflow_mul-result : goal.overflow_mul-result
overflow_mul-result c = omega (arith, tier-room c.requires.framed c.args.t c.requires.tier, mul-le-mul_right c.args.z.settings.chunkSize c.requires.within)

pub overflow_add-result-3 : goal.overflow_add-result-3
unfolding free_list_at at part_at
overflow_add-result-3 c =
    omega (
      arith,
      tier-room c.requires.framed c.args.t c.requires.tier,
      mul-le-mul_right c.args.z.settings.chunkSize c.requires.within,
      c.free_list_at.ensures,
    )

pub returns : goal.returns
unfolding chunk_at free_list_at at part_at
returns c = omega (arith, c.free_list_at.ensures)
