use Prim.Native.Nat.{ℕ, ◌-◌}
use mathlib.Core.List.{List}
use mathlib.Core.Path.{◌≡◌}
use lib.ListN.{length}
use Rattle.layout.specs.declared.Shape.{Shape}
use Rattle.probe.proofs.Seeking.{Seeking}
use Rattle.gather.specs.Rows.{Place}
use Rattle.once.specs.declared.Sharing.{Sharing}
use Rattle.once.specs.Refs.{ref_table, meant}
use Rattle.once.proofs.table.seek.Given as goal

-- from a place on; which number of the keys chooses the place does not matter for the search itself
abbrev pub From : Shape → List ℕ → List ℕ → Place → ℕ → ℕ → ℕ → Type 0
From z img table a from i left =
    (by : Sharing) → Seeking (ref_table z img by (length table)) (meant z img a) table from i left

abbrev pub invariant-loop : goal.invariant-loop
invariant-loop l = From l.z l.img l.table (l.t, l.j) l.initial.cursor.slot l.cursor.slot (length l.table - l.counter) ×
    (l.cursor.slots ≡ length l.table)
