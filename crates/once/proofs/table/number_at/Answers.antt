use Prim.Native.Nat.{ℕ, ◌/◌}
use mathlib.Core.Path.{◌∙◌, ap}
use native.Mathlib.Omega.{arith}
use borrow.Author.Tests.{not-true, not-false}
use Rattle.once.proofs.Reading.{number-lookup, holds-whole, part-inside, number-hash}
use Rattle.once.proofs.table.number_at.Goals as goal

pub returns-then-not-by : goal.returns-then-not-by
returns-then-not-by c = c.slot_key.ensures ∙ number-lookup (c.requires) c.args.by (not-true _ c.if-not-by.true)

pub key_part-key-requires : goal.key_part-key-requires
key_part-key-requires c = holds-whole (c.requires) c.slot_chunk.ensures

pub overflow_add-to : goal.overflow_add-to
overflow_add-to c = omega (arith, part-inside (c.requires) c.slot_chunk.ensures c.key_part-key.ensures, c.requires.slot.slot.tier.chains.framed.small)

pub slice_bounds-xxh64-end : goal.slice_bounds-xxh64-end
slice_bounds-xxh64-end c = omega (arith, part-inside (c.requires) c.slot_chunk.ensures c.key_part-key.ensures)

pub returns : goal.returns
returns c =
    ap (λ (h : ℕ). h / 256) c.xxh64.ensures ∙ number-hash (c.requires) c.slot_chunk.ensures c.key_part-key.ensures c.args.by (not-false _ c.if-not-by.false)
