-- The versions of the settings block that are known: a table, a row to a version.
use Rattle.std.specs.Prelude.{ℕ, ◌+◌, ◌*◌, ◌<◌, List, [], ◌∷◌, true, false, eqb}

-- each version with the number of its fields
abbrev pub versions : List (ℕ × ℕ)
versions = (1, 17) ∷ []

-- the fewest and the most fields in the table
abbrev pub least_fields : ℕ
least_fields = 17

abbrev pub most_fields : ℕ
most_fields = 17

-- the fields of a version; 0 where no row has it
unfoldable pub fields_in : List (ℕ × ℕ) → ℕ → ℕ
fields_in [] v = 0
fields_in (row ∷ rows) v = elim (eqb v row.0) [ true ↦ row.1 | false ↦ fields_in rows v ]

abbrev pub fields_of : ℕ → ℕ
fields_of v = fields_in versions v

abbrev pub KnownVersion : ℕ → Type 0
KnownVersion v = 0 < fields_of v

-- a block: its length field in two bytes, its version in one, and four bytes a field. The length field says what comes after it:
-- 69 in version 1, whose block has 71 bytes in all.
abbrev pub head_size : ℕ
head_size = 3

abbrev pub block_size : ℕ → ℕ
block_size fields = head_size + 4 * fields

abbrev pub length_field : ℕ → ℕ
length_field fields = 1 + 4 * fields
