use Prim.Native.Nat.{◌≤◌}
use Rattle.settings.proofs.Laws.{slot_size-le, product_le}
use native.Mathlib.Omega.{arith}
use Rattle.settings.proofs.sizes_fit.Goals as goal

pub overflow_mul-st : goal.overflow_mul-st
overflow_mul-st c = omega (arith, product_le {m = 4096} {n = 8} c.requires.slots.1.1 (slot_size-le c.args.st c.requires.slotSize).1)

pub overflow_mul-st-2 : goal.overflow_mul-st-2
overflow_mul-st-2 c = omega (arith, product_le {m = 4096} {n = 4096} c.requires.chunks.1 c.requires.chunkSize.1)

pub overflow_add-st-5 : goal.overflow_add-st-5
overflow_add-st-5 c = omega (arith, c.requires, product_le {m = 4096} {n = 4096} c.requires.chunks.1 c.requires.chunkSize.1)

pub overflow_mul-st-3 : goal.overflow_mul-st-3
overflow_mul-st-3 c = let h : c.args.st.tierSize ≤ 16777216 = omega arith in omega (arith, product_le {m = 64} {n = 16777216} c.requires.bulkTiers.1 h)

pub overflow_add-st-6 : goal.overflow_add-st-6
overflow_add-st-6 c =
    let h : c.args.st.tierSize ≤ 16777216 = omega arith in
    omega (arith, c.requires, product_le {m = 64} {n = 16777216} c.requires.bulkTiers.1 h)
