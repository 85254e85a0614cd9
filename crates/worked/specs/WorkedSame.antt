-- The cases of request A14 on the worked store: two stores of one map, by different histories, and the same calls on both; and the one list of
-- all cases.
use Rattle.std.specs.Prelude.{ℕ, List, [], ◌∷◌, ◌++◌, replicate}
use Rattle.edit.specs.declared.Policy.TheVariants.{OnTheSpot, Tight}
use Rattle.chronicle_map.specs.History.{Call, looks_up, stores, removes, run}
use Rattle.worked.specs.Worked.{block_x, image_x, small_x, pair, four, after4, replaced, later, finds, compares, Case, case, earlier}
use Rattle.worked.specs.WorkedHome.{wide_x, going_home}
use Rattle.worked.specs.WorkedQuick.{quickly}

-- the map of p4 by another history: 05 01 was there, 01 02 had five bytes before, and 03 01 was stored first
abbrev pub other4 : List Call
other4 =
    stores OnTheSpot (pair 3 1) (four 31) ∷ stores OnTheSpot (pair 1 2) (1 ∷ 2 ∷ 3 ∷ 4 ∷ 5 ∷ []) ∷ stores OnTheSpot (pair 5 1) (four 51)
    ∷ stores OnTheSpot (pair 2 1) (240 ∷ 255 ∷ 255 ∷ 255 ∷ []) ∷ removes (pair 5 1) ∷ stores Tight (pair 1 2) (16 ∷ 0 ∷ 0 ∷ 0 ∷ []) ∷ []

-- X has two tiers, and wide X, of three bulks, four
abbrev pub wide4 : List ℕ
wide4 = run block_x wide_x other4

-- small X has one tier, which three entries fill; here they were stored the other way round
abbrev pub small4 : List ℕ
small4 =
    run block_x small_x
    (stores OnTheSpot (pair 3 1) (four 31) ∷ stores OnTheSpot (pair 2 1) (240 ∷ 255 ∷ 255 ∷ 255 ∷ [])
    ∷ stores OnTheSpot (pair 1 2) (16 ∷ 0 ∷ 0 ∷ 0 ∷ []) ∷ [])

-- lookups, edits and refusals
abbrev pub mixed : List Call
mixed =
    looks_up (pair 1 2) ∷ looks_up (pair 4 1) ∷ looks_up [] ∷ stores OnTheSpot (pair 1 2) (replicate 29 9)
    ∷ removes (pair 2 1) ∷ removes (pair 2 1)
    ∷ stores Tight (pair 3 1) (1 ∷ 2 ∷ 3 ∷ 4 ∷ 5 ∷ []) ∷ looks_up (pair 3 1)
    ∷ stores OnTheSpot (pair 4 1) (7 ∷ []) ∷ looks_up (pair 4 1) ∷ []

-- what they answer after p4: number and bytes of each
abbrev pub said_mixed : List ℕ
said_mixed =
    (0 ∷ 16 ∷ 0 ∷ 0 ∷ 0 ∷ []) ++ (1 ∷ 8 ∷ 9 ∷ 0 ∷ 1 ∷ 0 ∷ [])
    ++ (0 ∷ 1 ∷ 2 ∷ 3 ∷ 4 ∷ 5 ∷ []) ++ (0 ∷ 0 ∷ 7 ∷ [])

-- four new keys, and then a lookup of the last
abbrev pub four_more : List Call
four_more =
    stores OnTheSpot (pair 1 3) (four 13) ∷ stores Tight (pair 4 1) (four 41) ∷ stores OnTheSpot (pair 5 1) (four 51)
    ∷ stores OnTheSpot (pair 6 1) (four 61) ∷ looks_up (pair 6 1) ∷ []

-- what they answer in X after p4, and in small X
abbrev pub full_after3 : List ℕ
full_after3 = 0 ∷ 0 ∷ 0 ∷ 10 ∷ 1 ∷ []

abbrev pub full_at_once : List ℕ
full_at_once = 10 ∷ 10 ∷ 10 ∷ 10 ∷ 1 ∷ []

unfoldable pub same_map : List Case
same_map =
    -- the records stand at other offsets, in other slots, and one in another tier
    case image_x after4 (finds (pair 1 2)) (0 ∷ 236 ∷ 4 ∷ 1 ∷ 1 ∷ 16 ∷ 0 ∷ 0 ∷ 0 ∷ [])
    ∷ case wide4 [] (finds (pair 1 2)) (0 ∷ 244 ∷ 4 ∷ 1 ∷ 2 ∷ 16 ∷ 0 ∷ 0 ∷ 0 ∷ [])
    ∷ case image_x after4 (finds (pair 2 1)) (0 ∷ 244 ∷ 4 ∷ 1 ∷ 2 ∷ 240 ∷ 255 ∷ 255 ∷ 255 ∷ [])
    ∷ case wide4 [] (finds (pair 2 1)) (0 ∷ 436 ∷ 4 ∷ 2 ∷ 1 ∷ 240 ∷ 255 ∷ 255 ∷ 255 ∷ [])
    -- every call is answered alike
    ∷ case image_x after4 (compares wide4 mixed) (10 ∷ said_mixed ++ said_mixed)
    -- the first 10 in the one alone: X takes three more keys, wide X more
    ∷ case image_x after4 (compares wide4 four_more) (3 ∷ full_after3 ++ (0 ∷ 0 ∷ 0 ∷ 0 ∷ 0 ∷ four 61))
    -- in the other alone, and in both at once
    ∷ case image_x after4 (compares small4 four_more) (0 ∷ full_after3 ++ full_at_once)
    ∷ case small_x after4 (compares small4 four_more) (0 ∷ full_at_once ++ full_at_once)
    -- after a replacement on the spot and a tight one
    ∷ case small_x (replaced OnTheSpot) (compares (run block_x small_x (replaced Tight)) later) (1 ∷ 0 ∷ 10 ∷ 0 ∷ 0 ∷ [])
    ∷ []

-- ---- all of them

unfoldable pub cases : List Case
cases = earlier ++ going_home ++ quickly ++ same_map
