-- The cases of request A13 on the worked store: an emptied tier goes home.
use Rattle.std.specs.Prelude.{ℕ, List, [], ◌∷◌, ◌++◌, replicate}
use Rattle.words.specs.Numbers.{put_le}
use Rattle.edit.specs.declared.Policy.TheVariants.{OnTheSpot, Tight}
use Rattle.chronicle_map.specs.History.{Call, stores, removes, run}
use Rattle.worked.specs.Worked.{block_x, image_x, pair, four, after5, after6, checks, finds, bytes, changes, Case, case}

-- X with three bulks: tiers 2, 3 and 4 are free, in this order
abbrev pub wide_x : List ℕ
wide_x = put_le (put_le (put_le (put_le (put_le (put_le (replicate 896 0) 8 3 3) 11 5 2) 21 4 64) 25 8 896) 360 8 3) 560 8 4

-- after p6 three tiers are chained there; then tier 2 has its third entry alone
abbrev pub last_of2 : List Call
last_of2 = after6 ++ (removes (pair 1 3) ∷ removes (pair 4 1) ∷ [])

-- a removal in tier 1 after p5, so that it takes two chunks more
abbrev pub room5 : List Call
room5 = after5 ++ (removes (pair 2 1) ∷ [])

-- 01 03 with five bytes
abbrev pub five13 : List Call
five13 = stores OnTheSpot (pair 1 3) (1 ∷ 2 ∷ 3 ∷ 4 ∷ 5 ∷ []) ∷ []

-- after p5 with tier 2 emptied by hand: it stays chained
abbrev pub empty5 : List ℕ
empty5 = put_le (put_le (put_le (put_le (run block_x image_x after5) 300 4 0) 376 8 0) 392 4 0) 424 1 0

unfoldable pub going_home : List Case
going_home =
    -- a removal that empties tier 2 sends it home; its next was 0, the old head, and its previous and order stay
    case image_x after5 (changes (removes (pair 1 3) ∷ [])) (11 ∷ 2 ∷ 16 ∷ 0 ∷ 80 ∷ 0 ∷ 300 ∷ 0 ∷ 376 ∷ 0 ∷ 392 ∷ 0 ∷ 424 ∷ 0 ∷ [])
    ∷ case image_x (after5 ++ (removes (pair 1 3) ∷ [])) checks (0 ∷ 3 ∷ 3 ∷ 1 ∷ 1 ∷ [])
    -- a replacement that tier 1 takes in chunks 3 and 4, slot 3: tier 2, emptied, goes home
    ∷ case image_x room5 (bytes 96 16) (0 ∷ 0 ∷ 0 ∷ 0 ∷ 1 ∷ 0 ∷ 0 ∷ 0 ∷ 5 ∷ 0 ∷ 0 ∷ 0 ∷ 0 ∷ 0 ∷ 0 ∷ 0 ∷ [])
    ∷ case image_x room5 (changes five13)
    (11 ∷ 2 ∷ 16 ∷ 0 ∷ 72 ∷ 3 ∷ 80 ∷ 0 ∷ 108 ∷ 7 ∷ 224 ∷ 29
    ∷ 256 ∷ 2 ∷ 257 ∷ 1 ∷ 258 ∷ 3 ∷ 259 ∷ 5 ∷ 260 ∷ 1 ∷ 261 ∷ 2 ∷ 262 ∷ 3 ∷ 263 ∷ 4 ∷ 264 ∷ 5
    ∷ 300 ∷ 0 ∷ 376 ∷ 0 ∷ 392 ∷ 0 ∷ 424 ∷ 0 ∷ [])
    ∷ case image_x (room5 ++ five13) checks (0 ∷ 3 ∷ 4 ∷ 1 ∷ 1 ∷ [])
    -- one that tier 1 does not take: tier 2 receives it again, in slot 1 and from chunk 0 on, and no link changes
    ∷ case image_x after5 (changes five13) (376 ∷ 2 ∷ 424 ∷ 3 ∷ 435 ∷ 5 ∷ 436 ∷ 1 ∷ 437 ∷ 2 ∷ 438 ∷ 3 ∷ 439 ∷ 4 ∷ 440 ∷ 5 ∷ [])
    -- on the spot tier 2 keeps its only entry, though tier 1 has room; tight it goes home
    ∷ case image_x room5 (changes (stores OnTheSpot (pair 1 3) (13 ∷ 13 ∷ 13 ∷ 14 ∷ []) ∷ [])) (439 ∷ 14 ∷ [])
    ∷ case image_x (room5 ++ (stores Tight (pair 1 3) (four 14) ∷ [])) checks (0 ∷ 3 ∷ 3 ∷ 1 ∷ 1 ∷ [])
    -- a tier that was empty before stays: the image is accepted, and removals of an absent key and in tier 1 leave it chained
    ∷ case empty5 [] checks (0 ∷ 3 ∷ 3 ∷ 2 ∷ 0 ∷ [])
    ∷ case empty5 [] (changes (removes (pair 1 3) ∷ [])) []
    ∷ case empty5 [] (changes (removes (pair 3 1) ∷ [])) (72 ∷ 2 ∷ 76 ∷ 2 ∷ 108 ∷ 0 ∷ 224 ∷ 3 ∷ [])
    -- the middle of three tiers goes home: tier 1 and tier 3 are joined, and tier 3's order is one less
    ∷ case wide_x after6 (finds (pair 6 1)) (0 ∷ 636 ∷ 4 ∷ 3 ∷ 1 ∷ four 61)
    ∷ case wide_x last_of2 (changes (removes (pair 5 1) ∷ []))
    (11 ∷ 2 ∷ 16 ∷ 1 ∷ 80 ∷ 3 ∷ 300 ∷ 0 ∷ 360 ∷ 4 ∷ 392 ∷ 0 ∷ 424 ∷ 0 ∷ 568 ∷ 1 ∷ 588 ∷ 1 ∷ [])
    ∷ case wide_x (last_of2 ++ (removes (pair 5 1) ∷ [])) checks (0 ∷ 4 ∷ 4 ∷ 2 ∷ 2 ∷ [])
    ∷ []
