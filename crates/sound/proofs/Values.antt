-- A slot's number: the entry that it names, and sums over a tier's slots.
use Prim.Native.Nat.{ℕ}
use mathlib.Core.List.{List}
use mathlib.Core.Bool.{true, false}
use lib.Dec.{eqb}
use mathlib.Core.Path.{◌≡◌}
use mathlib.Core.Logic.{◌≢◌}
use borrow.Author.Tests.{eq-eqb, ne_eqb}
use Rattle.layout.specs.declared.Shape.{Shape}
use Rattle.probe.specs.Table.{slot_total}
use Rattle.entries.specs.declared.Entry.{Entry}
use Rattle.entries.specs.Keys.{slot_chunk}
use Rattle.entries.specs.Stored.{stored, entry_of, key_of, value_of}
use Rattle.search.specs.Search.{slots_of}
use Rattle.entries.specs.Pairs.{Pair}

-- the entry that a slot with v of tier t names, and its key and record
abbrev pub entry_for : Shape → List ℕ → ℕ → ℕ → Entry
entry_for z img t v = entry_of (stored z img t (slot_chunk z.settings v))

abbrev pub pair_for : Shape → List ℕ → ℕ → ℕ → Pair
pair_for z img t v = record { key = key_of img (entry_for z img t v); value = value_of img (entry_for z img t v) }

-- f of a full slot's number, 0 for an empty slot
unfoldable pub if_full : (ℕ → ℕ) → ℕ → ℕ
if_full f v = elim (eqb v 0) [ true ↦ 0 | false ↦ f v ]

pub full_is : (f : ℕ → ℕ) (v : ℕ) → v ≢ 0 → if_full f v ≡ f v
unfolding if_full
full_is f v h = rw (ne_eqb v 0 h, if_full)

pub empty-is : (f : ℕ → ℕ) (v : ℕ) → v ≡ 0 → if_full f v ≡ 0
unfolding if_full
empty-is f v h = rw (eq-eqb v 0 h, if_full)

-- the sum of F over the keys and records of tier t's full slots
unfoldable pub weigh : Shape → List ℕ → (Pair → ℕ) → ℕ → ℕ
weigh z img F t = slot_total (slots_of z t) (if_full (λ v. F (pair_for z img t v))) img z.settings.slots
