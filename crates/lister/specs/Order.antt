-- The order of 2, 3 and 4 while the input is read: inputs and what is due.
use Rattle.std.specs.Prelude.{ℕ, Bool, true, false, List, [], ◌∷◌, ◌++◌, take, set, Result, Ok, Err}
use Rattle.settings.specs.Worked.{fields_x, block_with}
use Rattle.image.specs.declared.Stage.{Stage}
use Rattle.image.specs.declared.Stage.TheVariants.{Block, Field, Frame}
use Rattle.lister.specs.declared.input.Input.{Input}
use Rattle.lister.specs.declared.input.Input.TheVariants.{More, Whole}

-- the block of the worked store, and the same with a slot size of 3, which breaks its rule
abbrev pub good : List ℕ
good = block_with 1 fields_x

abbrev pub bad_field : ℕ → List ℕ
bad_field version = block_with version (set fields_x 3 3)

-- what was read, whether the input ended there, and what is due
unfoldable pub cases : List (List ℕ × Bool × Result Input Stage)
cases =
    ([], false, Ok (More 3))
    -- a version that is not known
    ∷ (take 3 (bad_field 2), false, Err Block)
    ∷ (take 3 good, false, Ok (More 71))
    ∷ (take 70 good, false, Ok (More 71))
    -- an early end in the block
    ∷ (take 70 good, true, Err Block)
    -- the block's own 2 before its 3, and that before an early end later
    ∷ (bad_field 2, true, Err Block)
    ∷ (bad_field 1, true, Err Field)
    ∷ (bad_field 1 ++ (255 ∷ []), true, Err Field)
    -- the length: an early end, the limit, one above it
    ∷ (good, false, Ok (More 75))
    ∷ (good ++ (0 ∷ 0 ∷ 0 ∷ []), true, Err Frame)
    ∷ (good ++ (0 ∷ 1 ∷ 0 ∷ 0 ∷ []), false, Ok (More 65611))
    ∷ (good ++ (0 ∷ 1 ∷ 0 ∷ 1 ∷ []), false, Err Frame)
    -- the image: an early end, and all of it
    ∷ (good ++ (0 ∷ 0 ∷ 0 ∷ 2 ∷ 7 ∷ []), true, Err Frame)
    ∷ (good ++ (0 ∷ 0 ∷ 0 ∷ 2 ∷ 7 ∷ 7 ∷ []), false, Ok (Whole 71 2))
    ∷ []
