-- Lines, and what each reads: those that document 01 prints after p3, and a refusal.
use Rattle.std.specs.Prelude.{ℕ, List, [], ◌∷◌}
use Prim.Native.String.{String}
use Rattle.text.specs.Lines.{line, heading, totals, refused}

unfoldable pub samples : List (List ℕ × String)
samples =
    (heading, "segment tier slot chunk chunks key value\n")
    ∷ (line (0 ∷ 1 ∷ 1 ∷ 0 ∷ 1 ∷ 2 ∷ 4 ∷ []), "0 1 1 0 1 2 4\n")
    ∷ (line (0 ∷ 1 ∷ 2 ∷ 1 ∷ 1 ∷ 2 ∷ 4 ∷ []), "0 1 2 1 1 2 4\n")
    ∷ (totals 2 2 1 1, "entries 2 chunks 2 tiers 1 free 1\n")
    ∷ (refused 6, "refused 6\n")
    ∷ []
