use native.Mathlib.Omega.{arith}
use mathlib.Core.Path.{ap, ◌∙◌}
use Prim.Native.Nat.{ℕ}
use lib.Seq.{sets}
use Rattle.layout.proofs.Bounds.{framed-largest}
use Rattle.entries.specs.Stored.{entry_bytes}
use Rattle.placement.proofs.Written.{written-inside}
use Rattle.placement.proofs.place.write_from.Goals as goal

pub chunk_at-at-requires : goal.chunk_at-at-requires
chunk_at-at-requires c =
    record { framed = framed-largest c.requires.tier.framed; tier = c.requires.tier.tier_in; within = omega (arith, c.requires.range_ends) }

pub write_entry-requires : goal.write_entry-requires
write_entry-requires c = omega (arith, written-inside c.requires, c.chunk_at-at.ensures)

pub returns : goal.returns
returns c =
    c.write_entry.ensures
    ∙ ap (λ (k : ℕ). sets c.args.img.now k (entry_bytes c.args.z.settings c.args.key.now c.args.value.now))
    c.chunk_at-at.ensures
