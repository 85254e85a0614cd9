-- The lines that the programs print.
use Rattle.std.specs.Prelude.{ℕ, List, [], ◌∷◌, ◌++◌}
use Rattle.text.specs.Text.{bytes, decimal, spaced, item, ended}

-- numbers one space apart
unfoldable pub line : List ℕ → List ℕ
line [] = ended []
line (n ∷ ns) = ended (decimal n ++ spaced ns)

abbrev pub heading : List ℕ
heading = ended (bytes "segment tier slot chunk chunks key value")

-- of live entries, marked chunks, chained tiers and free tiers
abbrev pub totals : ℕ → ℕ → ℕ → ℕ → List ℕ
totals entries chunks tiers free = ended (item "entries" entries ++ item " chunks" chunks ++ item " tiers" tiers ++ item " free" free)

abbrev pub refused : ℕ → List ℕ
refused n = ended (item "refused" n)
