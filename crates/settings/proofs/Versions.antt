-- Laws of the table of versions.
use Prim.Native.Nat.{ℕ, ◌≤◌, ◌<◌}
use mathlib.Core.List.Memᴰ
use mathlib.Core.List.{List, [], ◌∷◌}
use mathlib.Core.Path.{◌≡◌, refl}
use mathlib.Core.Logic.{◌≢◌}
use native.Mathlib.Omega.{arith}
use lib.Dec.{eqb}
use lib.ListN.{length}
use borrow.Author.Tests.{eq-eqb, ne_eqb}
use Rattle.lists.specs.Cases.{by-test}
use Rattle.lists.specs.Quantify.{Every, every-cons, every-none}
use Rattle.settings.specs.Versions.{versions, least_fields, most_fields, fields_in, fields_of, KnownVersion, block_size}
use Rattle.settings.specs.Block.{BlockFits}

-- ---- row by row

pub fields-1 : {v : ℕ} → v ≡ 1 → 17 ≡ fields_of v
unfolding fields_in
fields-1 {v} e = rw (eq-eqb v 1 e, fields_in)

pub fields-other : {v : ℕ} → v ≢ 1 → 0 ≡ fields_of v
unfolding fields_in
fields-other {v} n = rw (ne_eqb v 1 n, fields_in)

-- ---- any version

-- what holds of each row, and of 0, holds of any version
fields-by : (P : ℕ → Type 0) (rows : List (ℕ × ℕ)) (v : ℕ) → P 0 → Every rows (λ row. P row.1) → P (fields_in rows v)
unfolding fields_in
fields-by P [] v z f = z
fields-by P (row ∷ rows) v z f =
    by-test (eqb v row.0)
    (λ t. rw (t, fields_in) (f row (Memᴰ.head refl)))
    (λ t. rw (t, fields_in) (fields-by P rows v z (λ x m. f x (Memᴰ.tail m))))

abbrev InTable : ℕ → Type 0
InTable n = (0 < n → least_fields ≤ n) × (n ≤ most_fields)

in_table : (v : ℕ) → InTable (fields_of v)
in_table v =
    fields-by InTable versions v (λ h. absurd (omega arith), omega arith)
    (every-cons (λ row. InTable row.1) (1, 17) [] (λ h. omega arith, omega arith) (every-none (λ row. InTable row.1)))

pub fields-least : (v : ℕ) → KnownVersion v → least_fields ≤ fields_of v
fields-least v = (in_table v).0

pub fields-most : (v : ℕ) → fields_of v ≤ most_fields
fields-most v = (in_table v).1

-- a block that fits has every field that is read
pub block-least : (block : List ℕ) → BlockFits block → block_size least_fields ≤ length block
block-least block f = omega (arith, f.whole, fields-least _ f.known_version)
