-- The cases of request A9 on the worked store: the quick lookup and the quick ask for a pair.
use Rattle.std.specs.Prelude.{ℕ, List, [], ◌∷◌, ◌++◌}
use Rattle.words.specs.Numbers.{put_le}
use Rattle.edit.specs.declared.Policy.TheVariants.{OnTheSpot}
use Rattle.chronicle_map.specs.History.{stores, run}
use Rattle.worked.specs.Worked.{block_x, image_x, sized, pair, after3, after5, after6, after8}
use Rattle.worked.specs.Worked.{checks, finds_quickly, asks_quickly, Case, case}

-- ---- what keys answer after p3: number, offset, length, tier and slot

abbrev pub found12 : List ℕ
found12 = 0 ∷ 236 ∷ 4 ∷ 1 ∷ 1 ∷ []

abbrev pub found21 : List ℕ
found21 = 0 ∷ 244 ∷ 4 ∷ 1 ∷ 2 ∷ []

abbrev pub absent : List ℕ
absent = 1 ∷ 0 ∷ 0 ∷ 1 ∷ 3 ∷ []

-- what the walk met is broken
abbrev pub broken : List ℕ
broken = 18 ∷ 0 ∷ 0 ∷ 0 ∷ 0 ∷ []

-- ---- sound images, and the order of 4 and 8

unfoldable pub quick_sound : List Case
quick_sound =
    case image_x after3 (finds_quickly (pair 1 2)) found12
    ∷ case image_x after3 (finds_quickly (pair 2 1)) found21
    ∷ case image_x after3 (finds_quickly (pair 3 1)) absent
    ∷ case image_x after5 (finds_quickly (pair 1 3)) (0 ∷ 436 ∷ 4 ∷ 2 ∷ 1 ∷ [])
    ∷ case image_x after5 (finds_quickly (pair 6 1)) (1 ∷ 0 ∷ 0 ∷ 2 ∷ 2 ∷ [])
    -- slots 1, 2 and 3 are full, and the search wraps
    ∷ case image_x after6 (finds_quickly (pair 6 1)) (1 ∷ 0 ∷ 0 ∷ 2 ∷ 0 ∷ [])
    -- an empty key; a bad frame comes first
    ∷ case image_x after3 (finds_quickly []) (8 ∷ 0 ∷ 0 ∷ 0 ∷ 0 ∷ [])
    ∷ case (sized 495) [] (finds_quickly []) (4 ∷ 0 ∷ 0 ∷ 0 ∷ 0 ∷ [])
    ∷ []

-- ---- damaged images, each refused by the check

-- after p3 with n bytes at an offset that are another number
abbrev pub damaged3 : ℕ → ℕ → ℕ → List ℕ
damaged3 at n v = put_le (run block_x image_x after3) at n v

-- the value length of the first or second entry not in the shortest form: 84 00
abbrev pub long235 : List ℕ
long235 = damaged3 235 2 132

abbrev pub long243 : List ℕ
long243 = damaged3 243 2 132

-- the four slots hold 2, 1, 3 and 2
abbrev pub none_empty : List ℕ
none_empty = put_le (put_le (put_le (damaged3 96 4 2) 100 4 1) 104 4 3) 108 4 2

-- after p5, and tier 2 leads to itself
abbrev pub round5 : List ℕ
round5 = put_le (run block_x image_x after5) 360 1 2

-- an image: the check's number, and what 01 02, 02 01 and 03 01 answer
abbrev pub damage : List ℕ → ℕ → List ℕ → List ℕ → List ℕ → List Case
damage img number due12 due21 due31 =
    case img [] checks (number ∷ 0 ∷ 0 ∷ 0 ∷ 0 ∷ [])
    ∷ case img [] (finds_quickly (pair 1 2)) due12
    ∷ case img [] (finds_quickly (pair 2 1)) due21
    ∷ case img [] (finds_quickly (pair 3 1)) due31
    ∷ []

unfoldable pub quick_damaged : List Case
quick_damaged =
    -- the main tier's next: the free tier 2, a main tier, no such tier
    damage (damaged3 80 1 2) 5 found12 found21 (1 ∷ 0 ∷ 0 ∷ 2 ∷ 1 ∷ [])
    ++ damage (damaged3 80 1 1) 5 found12 found21 broken
    ++ damage (damaged3 80 1 3) 5 found12 found21 broken
    -- bits
    ++ damage (damaged3 224 1 0) 7 found12 found21 absent
    -- slot 1 names chunk 8; it has a bit above K + V
    ++ damage (damaged3 100 1 17) 6 broken broken broken
    ++ damage (damaged3 100 1 33) 6 found12 found21 absent
    -- a value length that is not in the shortest form, in the first entry and in the second
    ++ damage long235 6 broken broken broken
    ++ damage long243 6 found12 broken broken
    -- the value length is 29, five chunks; the value ends where the chunks end; one past it
    ++ damage (damaged3 235 1 29) 6 (0 ∷ 236 ∷ 29 ∷ 1 ∷ 1 ∷ []) found21 absent
    ++ damage (damaged3 235 1 60) 6 (0 ∷ 236 ∷ 60 ∷ 1 ∷ 1 ∷ []) found21 absent
    ++ damage (damaged3 235 1 61) 6 broken broken broken
    -- slot 2 names the first entry too
    ++ damage (damaged3 104 1 1) 6 found12 absent absent
    -- no slot is empty
    ++ damage none_empty 6 found12 found21 broken
    -- a tier that leads to itself
    ++ case round5 [] checks (5 ∷ 0 ∷ 0 ∷ 0 ∷ 0 ∷ [])
    ∷ case round5 [] (finds_quickly (pair 1 3)) (0 ∷ 436 ∷ 4 ∷ 2 ∷ 1 ∷ [])
    ∷ case round5 [] (finds_quickly (pair 6 1)) broken
    ∷ []

-- ---- quick asks for a pair: the number, and the delay

unfoldable pub quick_asks : List Case
quick_asks =
    -- absent
    case image_x after3 (asks_quickly 1 3) (1 ∷ 0 ∷ 0 ∷ [])
    -- no pair, which comes before what the walk meets and after a bad frame
    ∷ case image_x after3 (asks_quickly 1 1) (11 ∷ 0 ∷ 0 ∷ [])
    ∷ case long235 [] (asks_quickly 1 2) (18 ∷ 0 ∷ 0 ∷ [])
    ∷ case long235 [] (asks_quickly 1 1) (11 ∷ 0 ∷ 0 ∷ [])
    ∷ case (sized 495) [] (asks_quickly 1 1) (4 ∷ 0 ∷ 0 ∷ [])
    -- a record of five bytes is no delay
    ∷ case image_x after8 (asks_quickly 1 2) (12 ∷ 0 ∷ 0 ∷ [])
    ∷ []

-- records of four bytes: 16, in the other order minus 16, also where bits are wrong; and the number without an opposite is no delay
unfoldable pub quick_delays : List Case
quick_delays =
    case image_x after3 (asks_quickly 1 2) (0 ∷ 0 ∷ 16 ∷ [])
    ∷ case image_x after3 (asks_quickly 2 1) (0 ∷ 1 ∷ 16 ∷ [])
    ∷ case (damaged3 224 1 0) [] (asks_quickly 2 1) (0 ∷ 1 ∷ 16 ∷ [])
    ∷ case image_x (stores OnTheSpot (pair 1 2) (0 ∷ 0 ∷ 0 ∷ 128 ∷ []) ∷ []) (asks_quickly 1 2) (12 ∷ 0 ∷ 0 ∷ [])
    ∷ []

unfoldable pub quickly : List Case
quickly = quick_sound ++ quick_damaged ++ quick_asks ++ quick_delays
