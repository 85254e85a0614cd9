use native.Mathlib.Omega.{arith}
use lib.ListN.{length}
use Rattle.placement.proofs.Copying.{entry-room, entry-written}
use Rattle.placement.proofs.place.write_entry.Goals as goal

pub write-key_at-requires : goal.write-key_at-requires
write-key_at-requires c = omega (arith, entry-room c.args.st c.args.key.now c.args.value.now c.args.at (length c.args.img.now) c.requires)

pub write_bytes-requires : goal.write_bytes-requires
write_bytes-requires c =
    omega (
      arith,
      entry-room c.args.st c.args.key.now c.args.value.now c.args.at (length c.args.img.now) c.requires,
      c.write-key_at.ensures.0,
      c.write-key_at.auto.s,
    )

pub overflow_add-key_at : goal.overflow_add-key_at
overflow_add-key_at c =
    omega (
      arith,
      entry-room c.args.st c.args.key.now c.args.value.now c.args.at (length c.args.img.now) c.requires,
      c.write-key_at.ensures.0,
    )

pub write-value_at-requires : goal.write-value_at-requires
write-value_at-requires c =
    omega (
      arith,
      entry-room c.args.st c.args.key.now c.args.value.now c.args.at (length c.args.img.now) c.requires,
      c.write-key_at.ensures.0,
      c.write-key_at.auto.s,
      c.write_bytes.auto.s,
    )

pub write_bytes-requires-2 : goal.write_bytes-requires-2
write_bytes-requires-2 c =
    omega (
      arith,
      entry-room c.args.st c.args.key.now c.args.value.now c.args.at (length c.args.img.now) c.requires,
      c.write-key_at.ensures.0,
      c.write-key_at.auto.s,
      c.write_bytes.auto.s,
      c.write-value_at.ensures.0,
      c.write-value_at.auto.s,
    )

pub returns : goal.returns
returns c =
    entry-written c.args.st c.args.key.now c.args.value.now c.args.img.now c.args.at
    c.write-key_at.ensures.0
    c.write-key_at.ensures.1
    c.write_bytes.ensures
    c.write-value_at.ensures.0
    c.write-value_at.ensures.1 c.write_bytes-2.ensures
