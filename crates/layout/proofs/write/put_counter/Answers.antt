use mathlib.Core.Path.{◌∙◌}
use Rattle.layout.proofs.PlaceBytes.{put_le-place, counter-bytes}
use native.Mathlib.Omega.{arith}
use Rattle.layout.proofs.write.put_counter.Goals as goal

pub overflow_add-counters_at : goal.overflow_add-counters_at
overflow_add-counters_at c = rw c.bytes-at.ensures (omega (arith, (counter-bytes c.requires c.args.field c.counters_at.ensures).small))

pub write_le-requires : goal.write_le-requires
write_le-requires c = rw c.bytes-at.ensures (counter-bytes c.requires c.args.field c.counters_at.ensures).within

pub returns : goal.returns
returns c = (rw c.bytes-at.ensures at c.write_le.ensures) ∙ put_le-place (counter-bytes c.requires c.args.field c.counters_at.ensures) _ _
