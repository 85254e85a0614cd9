-- Numbers of n bytes in a list of bytes, from place `at` on.
use Rattle.std.specs.Prelude.{ℕ, zero, suc, ◌+◌, ◌*◌, ◌/◌, ◌%◌, List, [], ◌∷◌, get_or}
use Rattle.std.proofs.lemmas.List.Edits.{sets}

-- little-endian: the lowest byte first
unfoldable pub le : List ℕ → ℕ → ℕ → ℕ
le l at zero = 0
le l at (suc n) = get_or l at 0 + 256 * le l (suc at) n

-- the n lowest bytes of v, the lowest first
unfoldable pub le_bytes : ℕ → ℕ → List ℕ
le_bytes zero v = []
le_bytes (suc n) v = v % 256 ∷ le_bytes n (v / 256)

-- l with v written as n bytes, little-endian
unfoldable pub put_le : List ℕ → ℕ → ℕ → ℕ → List ℕ
put_le l at n v = sets l at (le_bytes n v)

-- big-endian: the highest byte first
unfoldable pub be : List ℕ → ℕ → ℕ → ℕ
be l at zero = 0
be l at (suc n) = 256 * be l at n + get_or l (at + n) 0
