-- The settings block of document 01's worked store X.
use Rattle.std.specs.Prelude.{ℕ}
use mathlib.Core.List.{List, [], ◌∷◌, flat_map}

unfoldable pub fields_x : List ℕ
fields_x = 0 ∷ 1 ∷ 32 ∷ 4 ∷ 4 ∷ 1 ∷ 4 ∷ 64 ∷ 8 ∷ 0 ∷ 8 ∷ 8 ∷ 200 ∷ 0 ∷ 1 ∷ 200 ∷ 4 ∷ []

-- a block of this version with these fields, each of which is below 256
unfoldable pub block_with : ℕ → List ℕ → List ℕ
unfolding flat_map
block_with version fields = 0 ∷ 69 ∷ version ∷ flat_map (λ n. 0 ∷ 0 ∷ 0 ∷ n ∷ []) fields
