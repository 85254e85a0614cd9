use Prim.Native.Nat.{◌-◌}
use Rattle.layout.specs.Places.{own_counter}
use Rattle.layout.proofs.Apart.{header-within}
use Rattle.layout.proofs.Bounds.{header-room}
use Rattle.layout.proofs.Places.{shared-bytes-main, shared-bytes-extra}
use Rattle.layout.proofs.PlaceBytes.{counter-bytes}
use native.Mathlib.Omega.{arith}
use Rattle.layout.proofs.shared_bytes.Goals as goal

pub overflow_add-result : goal.overflow_add-result
overflow_add-result c =
    rw (c.bytes-at.ensures, c.counter.ensures) (omega (arith, (counter-bytes c.requires (own_counter c.args.field) c.counters_at.ensures).small))

pub overflow_add-result-else-z-t : goal.overflow_add-result-else-z-t
overflow_add-result-else-z-t c = omega (arith, header-room c.requires.0 (c.args.t - 1) (omega (arith, c.if-z-t.false, c.requires.1)))

pub overflow_add-result-else-z-t-2 : goal.overflow_add-result-else-z-t-2
overflow_add-result-else-z-t-2 c =
    rw c.bytes-at-else-z-t.ensures
    (omega (arith, header-room c.requires.0 (c.args.t - 1) (omega (arith, c.if-z-t.false, c.requires.1)), header-within c.args.field))

pub returns-then-z-t : goal.returns-then-z-t
returns-then-z-t c =
    rw (c.counters_at.ensures, c.bytes-at.ensures, c.counter.ensures)
    (shared-bytes-extra c.args.z c.args.field (own_counter c.args.field) c.args.t c.if-z-t.true)

pub returns-else-z-t : goal.returns-else-z-t
returns-else-z-t c =
    rw c.bytes-at-else-z-t.ensures (shared-bytes-main c.args.z c.args.field (own_counter c.args.field) c.args.t c.if-z-t.false)
