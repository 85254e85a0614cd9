-- Which pass takes a key, and where in a pass's table the search for it starts: by a number of the key.
use Rattle.std.specs.Prelude.{ℕ, ◌/◌, ◌%◌, ◌^◌, List, true, false}
use Rattle.settings.specs.declared.Settings.{Settings}
use Rattle.xxh64.specs.Hash.{xxh64}
use Rattle.entries.specs.Keys.{lookup_key}
use Rattle.once.specs.declared.Sharing.{Sharing}

-- of a number: the pass, by so many bits, and the place in a table of n
unfoldable pub pass_for : ℕ → ℕ → ℕ
pass_for bits number = number % 2 ^ bits

unfoldable pub place_for : ℕ → ℕ → ℕ → ℕ
place_for bits n number = number / 2 ^ bits % n

-- of a key: its lookup key, or its hash without the lowest bits
unfoldable pub number_of : Sharing → Settings → List ℕ → ℕ
number_of by st key = elim by.byHash [ true ↦ xxh64 key / 256 | false ↦ lookup_key st key ]
