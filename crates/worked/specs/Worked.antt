-- The worked store X: the cases p1 to p10 of the scope and those of the requests up to A4, each an image, the calls made on it, a question
-- and what is due. WorkedSame.antt has the one list of all cases.
use Rattle.std.specs.Prelude.{ℕ, suc, true, false, eqb, replicate, ℤ, pos, negsuc}
use mathlib.Core.List.{List, [], ◌∷◌, ◌++◌, map, flat_map}
use Rattle.words.specs.Bytes.{cut}
use Rattle.words.specs.Numbers.{put_le}
use Rattle.settings.specs.Worked.{fields_x, block_with}
use Rattle.image.specs.Check.{check, verdict_numbers}
use Rattle.image.specs.List.{entry, listed_numbers}
use Rattle.edit.specs.declared.Policy.{Policy}
use Rattle.edit.specs.declared.Policy.TheVariants.{OnTheSpot, Tight}
use Rattle.chronicle_map.specs.Calls.{lookup, lookup_numbers, record_bytes}
use Rattle.chronicle_map.specs.History.{Call, stores, removes, grows, Said, run, answers}
use Rattle.quick.specs.Quick.{quick_lookup}
use Rattle.pairs.specs.Delays.{Reply, asked_reply}
use Rattle.pairs.specs.Quick.{quick_delay}
use Rattle.same_map.specs.SameAnswers.{before_first10}

unfoldable pub block_x : List ℕ
block_x = block_with 1 fields_x

-- zero but for bulk count 1, first free tier 2, H 64 and the store size
abbrev pub sized : ℕ → List ℕ
sized size = put_le (put_le (put_le (put_le (replicate 496 0) 8 3 1) 11 5 2) 21 4 64) 25 8 size

abbrev pub image_x : List ℕ
image_x = sized 496

-- ---- the calls of the cases

abbrev pub pair : ℕ → ℕ → List ℕ
pair a b = a ∷ b ∷ []

-- a record of four bytes
abbrev pub four : ℕ → List ℕ
four n = n ∷ n ∷ n ∷ n ∷ []

abbrev pub after2 : List Call
after2 = stores OnTheSpot (pair 1 2) (16 ∷ 0 ∷ 0 ∷ 0 ∷ []) ∷ []

abbrev pub after3 : List Call
after3 = after2 ++ (stores OnTheSpot (pair 2 1) (240 ∷ 255 ∷ 255 ∷ 255 ∷ []) ∷ [])

abbrev pub after4 : List Call
after4 = after3 ++ (stores OnTheSpot (pair 3 1) (four 31) ∷ [])

abbrev pub store5 : List Call
store5 = stores OnTheSpot (pair 1 3) (four 13) ∷ []

abbrev pub after5 : List Call
after5 = after4 ++ store5

abbrev pub after6 : List Call
after6 = after5 ++ (stores OnTheSpot (pair 4 1) (four 41) ∷ stores OnTheSpot (pair 5 1) (four 51) ∷ stores OnTheSpot (pair 6 1) (four 61) ∷ [])

abbrev pub after7 : List Call
after7 = after4 ++ (removes (pair 1 2) ∷ [])

abbrev pub after8 : List Call
after8 = after4 ++ (stores OnTheSpot (pair 1 2) (1 ∷ 2 ∷ 3 ∷ 4 ∷ 5 ∷ []) ∷ [])

-- the image after some calls, and then another number in the first byte of the main tier's lowest free chunk field
abbrev pub with_low : List ℕ → List Call → ℕ → List ℕ
with_low img calls low = put_le (run block_x img calls) 76 1 low

-- that field is 0, though the lowest clear chunk is 3
abbrev pub lagging4 : List ℕ
lagging4 = with_low image_x after4 0

abbrev pub without21 : List Call
without21 = store5 ++ (removes (pair 2 1) ∷ [])

-- two entries of four chunks each: no chunk is clear
abbrev pub filled : List Call
filled = stores OnTheSpot (pair 1 2) (replicate 28 0) ∷ stores OnTheSpot (pair 2 1) (replicate 28 0) ∷ []

-- 01 02 with five bytes in chunks 0 and 1, then with four
abbrev pub shorter : List Call
shorter = stores OnTheSpot (pair 1 2) (1 ∷ 2 ∷ 3 ∷ 4 ∷ 5 ∷ []) ∷ stores OnTheSpot (pair 1 2) (four 12) ∷ []

-- 01 02 with 20 00 00 00, by a policy; and with the one byte 07
abbrev pub with20 : Policy → List Call
with20 policy = stores policy (pair 1 2) (32 ∷ 0 ∷ 0 ∷ 0 ∷ []) ∷ []

abbrev pub with7 : List Call
with7 = stores OnTheSpot (pair 1 2) (7 ∷ []) ∷ []

-- X without its bulk: no tier but the main one
abbrev pub small_x : List ℕ
small_x = put_le (put_le (replicate 296 0) 21 4 64) 25 8 296

-- 02 01 is left in chunk 2 with chunks 0 and 1 clear, and replaced by a policy
abbrev pub replaced : Policy → List Call
replaced policy =
    stores OnTheSpot (pair 1 2) (replicate 12 0) ∷ stores OnTheSpot (pair 2 1) (four 21) ∷ removes (pair 1 2)
    ∷ stores policy (pair 2 1) (four 22) ∷ []

-- after it a store of three chunks, and then one of four
abbrev pub three_chunks : List Call
three_chunks = stores OnTheSpot (pair 3 1) (replicate 20 0) ∷ []

abbrev pub later : List Call
later = three_chunks ++ (stores OnTheSpot (pair 1 3) (replicate 28 0) ∷ [])

-- X with n further bytes, all FF; one bulk takes 200
abbrev pub long_x : ℕ → List ℕ
long_x n = image_x ++ replicate n 255

-- calls that fill both tiers of X, and then a record that finds no room
abbrev pub grown6 : List Call
grown6 = after6 ++ (grows ∷ stores OnTheSpot (pair 6 1) (four 61) ∷ [])

-- ---- a case: calls made on an image, then a question, and what is due

pub data Asks : Type 0 where
  checks : Asks
  lists : ℕ → Asks
  -- a lookup's five numbers and the record's bytes
  finds : List ℕ → Asks
  -- a quick lookup's five numbers
  finds_quickly : List ℕ → Asks
  -- a quick ask for a pair of channels: its number and the delay
  asks_quickly : ℕ → ℕ → Asks
  -- n bytes at an offset
  bytes : ℕ → ℕ → Asks
  -- the numbers that the calls answered
  answered : Asks
  -- the offset and the new value of each byte that more calls change
  changes : List Call → Asks
  -- the same calls on this image and on another one: how many come before the first 10 in either, and what each run answered
  compares : List ℕ → List Call → Asks

-- where the second list has other bytes than the first, with those, from an offset on
abbrev pub changed : ℕ → List ℕ → List ℕ → List ℕ
changed at [] ys = []
changed at (x ∷ xs) [] = []
changed at (x ∷ xs) (y ∷ ys) = elim (eqb x y) [ true ↦ changed (suc at) xs ys | false ↦ at ∷ y ∷ changed (suc at) xs ys ]

-- a delay as two numbers: 1 where it is below 0 and else 0, and how far it is from 0
abbrev pub signed : ℤ → List ℕ
signed (pos n) = 0 ∷ n ∷ []
signed (negsuc n) = 1 ∷ suc n ∷ []

abbrev pub reply_numbers : Reply → List ℕ
reply_numbers r = r.number ∷ signed r.delay

-- what each call of a run answered: the number and a found record's bytes
abbrev pub said_of : List Said → List ℕ
said_of xs = flat_map (λ (s : Said). s.number ∷ s.bytes) xs

abbrev pub comparison : List Said → List Said → List ℕ
comparison xs ys = before_first10 (λ (s : Said). s.number) xs ys ∷ said_of xs ++ said_of ys

pub data Case : Type 0 where
  case : List ℕ → List Call → Asks → List ℕ → Case

abbrev pub reply : List ℕ → List ℕ → List Call → Asks → List ℕ
reply img now calls checks = verdict_numbers (check block_x now)
reply img now calls (lists n) = listed_numbers (entry block_x now n)
reply img now calls (finds key) = lookup_numbers (lookup block_x now key) ++ record_bytes now (lookup block_x now key)
reply img now calls (finds_quickly key) = lookup_numbers (quick_lookup block_x now key)
reply img now calls (asks_quickly a b) = reply_numbers (asked_reply (quick_delay block_x now a b))
reply img now calls (bytes at n) = cut now at n
reply img now calls answered = map (λ (s : Said). s.number) (answers block_x img calls)
reply img now calls (changes more) = changed 0 now (run block_x now more)
reply img now calls (compares other more) = comparison (answers block_x now more) (answers block_x other more)

abbrev pub got : Case → List ℕ
got (case img calls q d) = reply img (run block_x img calls) calls q

abbrev pub due : Case → List ℕ
due (case img calls q d) = d

unfoldable pub earlier : List Case
earlier =
    -- p1
    case image_x [] checks (0 ∷ 0 ∷ 0 ∷ 1 ∷ 1 ∷ [])
    ∷ case image_x [] (finds (pair 1 2)) (1 ∷ 0 ∷ 0 ∷ 1 ∷ 1 ∷ [])
    -- p2: the entry, slot 1, the free list, entry count, lowest free chunk
    ∷ case image_x after2 answered (0 ∷ [])
    ∷ case image_x after2 (bytes 232 8) (2 ∷ 1 ∷ 2 ∷ 4 ∷ 16 ∷ 0 ∷ 0 ∷ 0 ∷ [])
    ∷ case image_x after2 (bytes 100 4) (1 ∷ 0 ∷ 0 ∷ 0 ∷ [])
    ∷ case image_x after2 (bytes 224 1) (1 ∷ [])
    ∷ case image_x after2 (bytes 72 8) (1 ∷ 0 ∷ 0 ∷ 0 ∷ 1 ∷ 0 ∷ 0 ∷ 0 ∷ [])
    -- p3: slot 2, the free list, each key's own record
    ∷ case image_x after3 (bytes 104 4) (3 ∷ 0 ∷ 0 ∷ 0 ∷ [])
    ∷ case image_x after3 (bytes 224 1) (3 ∷ [])
    ∷ case image_x after3 (finds (pair 1 2)) (0 ∷ 236 ∷ 4 ∷ 1 ∷ 1 ∷ 16 ∷ 0 ∷ 0 ∷ 0 ∷ [])
    ∷ case image_x after3 (finds (pair 2 1)) (0 ∷ 244 ∷ 4 ∷ 1 ∷ 2 ∷ 240 ∷ 255 ∷ 255 ∷ 255 ∷ [])
    -- the lister's lines after p3
    ∷ case image_x after3 checks (0 ∷ 2 ∷ 2 ∷ 1 ∷ 1 ∷ [])
    ∷ case image_x after3 (lists 0) (0 ∷ 0 ∷ 1 ∷ 1 ∷ 0 ∷ 1 ∷ 2 ∷ 4 ∷ [])
    ∷ case image_x after3 (lists 1) (0 ∷ 0 ∷ 1 ∷ 2 ∷ 1 ∷ 1 ∷ 2 ∷ 4 ∷ [])
    ∷ case image_x after3 (lists 2) (1 ∷ 0 ∷ 0 ∷ 0 ∷ 0 ∷ 0 ∷ 0 ∷ 0 ∷ [])
    -- p4: slot 3, the free list
    ∷ case image_x after4 (bytes 108 4) (5 ∷ 0 ∷ 0 ∷ 0 ∷ [])
    ∷ case image_x after4 (bytes 224 1) (7 ∷ [])
    -- p5: slot 1 of tier 2, first free and used, the header's next, tier 2's previous and order
    ∷ case image_x after5 answered (0 ∷ 0 ∷ 0 ∷ 0 ∷ [])
    ∷ case image_x after5 (bytes 300 4) (1 ∷ 0 ∷ 0 ∷ 0 ∷ [])
    ∷ case image_x after5 (bytes 11 10) (0 ∷ 0 ∷ 0 ∷ 0 ∷ 0 ∷ 1 ∷ 0 ∷ 0 ∷ 0 ∷ 0 ∷ [])
    ∷ case image_x after5 (bytes 80 8) (2 ∷ 0 ∷ 0 ∷ 0 ∷ 0 ∷ 0 ∷ 0 ∷ 0 ∷ [])
    ∷ case image_x after5 (bytes 368 8) (1 ∷ 0 ∷ 0 ∷ 0 ∷ 0 ∷ 0 ∷ 0 ∷ 0 ∷ [])
    ∷ case image_x after5 (bytes 388 4) (1 ∷ 0 ∷ 0 ∷ 0 ∷ [])
    ∷ case image_x after5 (finds (pair 1 3)) (0 ∷ 436 ∷ 4 ∷ 2 ∷ 1 ∷ four 13)
    ∷ case image_x after5 (finds (pair 4 1)) (1 ∷ 0 ∷ 0 ∷ 2 ∷ 2 ∷ [])
    -- p6: the next two go to tier 2, the third finds no room; each key's own record
    ∷ case image_x after6 answered (0 ∷ 0 ∷ 0 ∷ 0 ∷ 0 ∷ 0 ∷ 10 ∷ [])
    ∷ case image_x after6 checks (0 ∷ 6 ∷ 6 ∷ 2 ∷ 0 ∷ [])
    ∷ case image_x after6 (lists 4) (0 ∷ 0 ∷ 2 ∷ 2 ∷ 1 ∷ 1 ∷ 2 ∷ 4 ∷ [])
    ∷ case image_x after6 (lists 5) (0 ∷ 0 ∷ 2 ∷ 3 ∷ 2 ∷ 1 ∷ 2 ∷ 4 ∷ [])
    ∷ case image_x after6 (finds (pair 1 3)) (0 ∷ 436 ∷ 4 ∷ 2 ∷ 1 ∷ four 13)
    ∷ case image_x after6 (finds (pair 4 1)) (0 ∷ 444 ∷ 4 ∷ 2 ∷ 2 ∷ four 41)
    ∷ case image_x after6 (finds (pair 5 1)) (0 ∷ 452 ∷ 4 ∷ 2 ∷ 3 ∷ four 51)
    ∷ case image_x after6 (finds (pair 6 1)) (1 ∷ 0 ∷ 0 ∷ 2 ∷ 0 ∷ [])
    -- p7: slots 1 to 3, the free list, the lowest free chunk
    ∷ case image_x after7 answered (0 ∷ 0 ∷ 0 ∷ 0 ∷ [])
    ∷ case image_x after7 (bytes 100 12) (3 ∷ 0 ∷ 0 ∷ 0 ∷ 5 ∷ 0 ∷ 0 ∷ 0 ∷ 0 ∷ 0 ∷ 0 ∷ 0 ∷ [])
    ∷ case image_x after7 (bytes 224 1) (6 ∷ [])
    ∷ case image_x after7 (bytes 76 4) (0 ∷ 0 ∷ 0 ∷ 0 ∷ [])
    ∷ case image_x after7 (finds (pair 1 2)) (1 ∷ 0 ∷ 0 ∷ 1 ∷ 3 ∷ [])
    ∷ case image_x after7 (finds (pair 3 1)) (0 ∷ 252 ∷ 4 ∷ 1 ∷ 2 ∷ four 31)
    -- p8: chunks 3 and 4, slot 3, the free list, the new record
    ∷ case image_x after8 (lists 2) (0 ∷ 0 ∷ 1 ∷ 3 ∷ 3 ∷ 2 ∷ 2 ∷ 5 ∷ [])
    ∷ case image_x after8 (bytes 108 4) (7 ∷ 0 ∷ 0 ∷ 0 ∷ [])
    ∷ case image_x after8 (bytes 224 1) (30 ∷ [])
    ∷ case image_x after8 (finds (pair 1 2)) (0 ∷ 260 ∷ 5 ∷ 1 ∷ 3 ∷ 1 ∷ 2 ∷ 3 ∷ 4 ∷ 5 ∷ [])
    ∷ case image_x after8 (finds (pair 2 1)) (0 ∷ 244 ∷ 4 ∷ 1 ∷ 1 ∷ 240 ∷ 255 ∷ 255 ∷ 255 ∷ [])
    -- p9: 28 bytes take 4 chunks, 29 are refused
    ∷ case image_x (stores OnTheSpot (pair 1 2) (replicate 28 9) ∷ []) (lists 0) (0 ∷ 0 ∷ 1 ∷ 1 ∷ 0 ∷ 4 ∷ 2 ∷ 28 ∷ [])
    ∷ case image_x (stores OnTheSpot (pair 1 2) (replicate 29 9) ∷ []) answered (9 ∷ [])
    -- p10
    ∷ case (sized 495) [] checks (4 ∷ 0 ∷ 0 ∷ 0 ∷ 0 ∷ [])
    ∷ case (put_le image_x 224 1 1) [] checks (7 ∷ 0 ∷ 0 ∷ 0 ∷ 0 ∷ [])
    -- A1: a field at most the lowest clear chunk is accepted, a higher one is not
    ∷ case image_x after4 (bytes 76 4) (3 ∷ 0 ∷ 0 ∷ 0 ∷ [])
    ∷ case lagging4 [] checks (0 ∷ 3 ∷ 3 ∷ 1 ∷ 1 ∷ [])
    ∷ case (with_low image_x after4 1) [] checks (0 ∷ 3 ∷ 3 ∷ 1 ∷ 1 ∷ [])
    ∷ case (with_low image_x after4 2) [] checks (0 ∷ 3 ∷ 3 ∷ 1 ∷ 1 ∷ [])
    ∷ case (with_low image_x after4 4) [] checks (7 ∷ 0 ∷ 0 ∷ 0 ∷ 0 ∷ [])
    -- a store in tier 2 leaves tier 1's field as it is
    ∷ case lagging4 store5 (bytes 76 4) (0 ∷ 0 ∷ 0 ∷ 0 ∷ [])
    ∷ case lagging4 store5 (bytes 376 8) (1 ∷ 0 ∷ 0 ∷ 0 ∷ 0 ∷ 0 ∷ 0 ∷ 0 ∷ [])
    -- a removal writes the lowest clear chunk: when chunk 1 is freed, and when it was clear before and the field was 0 again
    ∷ case lagging4 without21 (bytes 224 1) (5 ∷ [])
    ∷ case lagging4 without21 (bytes 76 4) (1 ∷ 0 ∷ 0 ∷ 0 ∷ [])
    ∷ case (with_low lagging4 without21 0) (removes (pair 3 1) ∷ []) (bytes 224 1) (1 ∷ [])
    ∷ case (with_low lagging4 without21 0) (removes (pair 3 1) ∷ []) (bytes 76 4) (1 ∷ 0 ∷ 0 ∷ 0 ∷ [])
    -- a full tier has 8 there and nothing else
    ∷ case image_x filled (bytes 224 1) (255 ∷ [])
    ∷ case image_x filled (bytes 76 4) (8 ∷ 0 ∷ 0 ∷ 0 ∷ [])
    ∷ case image_x filled checks (0 ∷ 2 ∷ 8 ∷ 1 ∷ 1 ∷ [])
    ∷ case (with_low image_x filled 7) [] checks (7 ∷ 0 ∷ 0 ∷ 0 ∷ 0 ∷ [])
    ∷ case (with_low image_x filled 0) [] checks (7 ∷ 0 ∷ 0 ∷ 0 ∷ 0 ∷ [])
    ∷ case (with_low image_x filled 9) [] checks (7 ∷ 0 ∷ 0 ∷ 0 ∷ 0 ∷ [])
    -- a tight replacement in the chunk that it frees writes the exact number
    ∷ case (with_low image_x after2 0) (stores Tight (pair 1 2) (four 12) ∷ []) (bytes 76 4) (1 ∷ 0 ∷ 0 ∷ 0 ∷ [])
    -- the old entry's chunks are below the field, and the new one goes there
    ∷ case image_x (after4 ++ (stores Tight (pair 1 2) (four 12) ∷ [])) (lists 2) (0 ∷ 0 ∷ 1 ∷ 3 ∷ 0 ∷ 1 ∷ 2 ∷ 4 ∷ [])
    ∷ case image_x shorter (lists 0) (0 ∷ 0 ∷ 1 ∷ 1 ∷ 0 ∷ 1 ∷ 2 ∷ 4 ∷ [])
    -- A6: tier and slot of an entry; of an absent key the last tier and the empty slot that ended the search, which may wrap
    ∷ case image_x after2 (finds (pair 1 2)) (0 ∷ 236 ∷ 4 ∷ 1 ∷ 1 ∷ 16 ∷ 0 ∷ 0 ∷ 0 ∷ [])
    ∷ case image_x after2 (finds (pair 2 1)) (1 ∷ 0 ∷ 0 ∷ 1 ∷ 2 ∷ [])
    ∷ case image_x after4 (finds (pair 3 1)) (0 ∷ 252 ∷ 4 ∷ 1 ∷ 3 ∷ four 31)
    ∷ case image_x after4 (finds (pair 1 3)) (1 ∷ 0 ∷ 0 ∷ 1 ∷ 0 ∷ [])
    -- a refusal has zeros there
    ∷ case image_x after5 (finds []) (8 ∷ 0 ∷ 0 ∷ 0 ∷ 0 ∷ [])
    ∷ case (put_le (run block_x image_x after5) 224 1 0) [] (finds (pair 1 3)) (7 ∷ 0 ∷ 0 ∷ 0 ∷ 0 ∷ [])
    ∷ case (put_le (run block_x image_x after5) 224 1 0) [] (finds (pair 4 1)) (7 ∷ 0 ∷ 0 ∷ 0 ∷ 0 ∷ [])
    -- A5: on the spot the record's first byte changes and nothing else; then the length and one byte, and the old record's tail stays
    ∷ case image_x after4 (changes (with20 OnTheSpot)) (236 ∷ 32 ∷ [])
    ∷ case image_x (after4 ++ with20 OnTheSpot ++ with7) answered (0 ∷ 0 ∷ 0 ∷ 0 ∷ 0 ∷ [])
    ∷ case image_x (after4 ++ with20 OnTheSpot ++ with7) (bytes 232 8) (2 ∷ 1 ∷ 2 ∷ 1 ∷ 7 ∷ 0 ∷ 0 ∷ 0 ∷ [])
    ∷ case image_x (after4 ++ with20 OnTheSpot ++ with7) (finds (pair 1 2)) (0 ∷ 236 ∷ 1 ∷ 1 ∷ 1 ∷ 7 ∷ [])
    -- tight, slots 1 to 3 change too: the entry moves to slot 3, and to the chunk that it freed
    ∷ case image_x after4 (changes (with20 Tight)) (100 ∷ 3 ∷ 104 ∷ 5 ∷ 108 ∷ 1 ∷ 236 ∷ 32 ∷ [])
    -- the lowest free chunk field is left on the spot, though it lags; a tight store writes it
    ∷ case lagging4 [] (changes (with20 OnTheSpot)) (236 ∷ 32 ∷ [])
    ∷ case (with_low image_x after2 0) (with20 Tight) (bytes 76 4) (1 ∷ 0 ∷ 0 ∷ 0 ∷ [])
    ∷ case (with_low image_x after2 0) (with20 Tight) (lists 0) (0 ∷ 0 ∷ 1 ∷ 1 ∷ 0 ∷ 1 ∷ 2 ∷ 4 ∷ [])
    -- a record of two chunks moves, one of one chunk moves back: chunks are compared, not bytes
    ∷ case image_x after8 (bytes 96 16) (0 ∷ 0 ∷ 0 ∷ 0 ∷ 3 ∷ 0 ∷ 0 ∷ 0 ∷ 5 ∷ 0 ∷ 0 ∷ 0 ∷ 7 ∷ 0 ∷ 0 ∷ 0 ∷ [])
    ∷ case image_x (after4 ++ shorter) (bytes 96 16) (0 ∷ 0 ∷ 0 ∷ 0 ∷ 3 ∷ 0 ∷ 0 ∷ 0 ∷ 5 ∷ 0 ∷ 0 ∷ 0 ∷ 1 ∷ 0 ∷ 0 ∷ 0 ∷ [])
    ∷ case image_x (after4 ++ shorter) (bytes 224 1) (7 ∷ [])
    ∷ case image_x (after4 ++ (stores OnTheSpot (pair 1 2) (replicate 9 9) ∷ [])) (lists 2) (0 ∷ 0 ∷ 1 ∷ 3 ∷ 3 ∷ 2 ∷ 2 ∷ 9 ∷ [])
    ∷ case image_x (after4 ++ (stores OnTheSpot (pair 1 2) (replicate 9 9) ∷ stores OnTheSpot (pair 1 2) (four 12) ∷ [])) (lists 2)
    (0 ∷ 0 ∷ 1 ∷ 3 ∷ 0 ∷ 1 ∷ 2 ∷ 4 ∷ [])
    -- after one such replacement later stores may differ in 10
    ∷ case small_x (replaced OnTheSpot) (bytes 224 1) (4 ∷ [])
    ∷ case small_x (replaced Tight) (bytes 224 1) (1 ∷ [])
    ∷ case small_x (replaced OnTheSpot ++ three_chunks) (bytes 224 1) (60 ∷ [])
    ∷ case small_x (replaced Tight ++ three_chunks) (bytes 224 1) (15 ∷ [])
    ∷ case small_x (replaced OnTheSpot ++ later) answered (0 ∷ 0 ∷ 0 ∷ 0 ∷ 0 ∷ 10 ∷ [])
    ∷ case small_x (replaced Tight ++ later) answered (0 ∷ 0 ∷ 0 ∷ 0 ∷ 0 ∷ 0 ∷ [])
    ∷ case small_x (replaced OnTheSpot ++ later) (bytes 224 1) (60 ∷ [])
    ∷ case small_x (replaced Tight ++ later) (bytes 224 1) (255 ∷ [])
    ∷ case small_x (replaced Tight ++ later) (bytes 76 4) (8 ∷ 0 ∷ 0 ∷ 0 ∷ [])
    -- A4: no room for the bulk in X, nor where one byte is missing
    ∷ case image_x (grows ∷ []) answered (13 ∷ [])
    ∷ case (long_x 199) (grows ∷ []) answered (13 ∷ [])
    ∷ case (long_x 199) [] (changes (grows ∷ [])) []
    -- with room: bulk count, first free tier and store size; used stays 0
    ∷ case (long_x 200) (grows ∷ []) answered (0 ∷ [])
    ∷ case (long_x 200) (grows ∷ []) (bytes 8 13) (2 ∷ 0 ∷ 0 ∷ 3 ∷ 0 ∷ 0 ∷ 0 ∷ 0 ∷ 0 ∷ 0 ∷ 0 ∷ 0 ∷ 0 ∷ [])
    ∷ case (long_x 200) (grows ∷ []) (bytes 21 12) (64 ∷ 0 ∷ 0 ∷ 0 ∷ 184 ∷ 2 ∷ 0 ∷ 0 ∷ 0 ∷ 0 ∷ 0 ∷ 0 ∷ [])
    -- the slots of tier 3, its next, its counters 8..35, its free list; the gap, counters 36..63 and the chunks stay
    ∷ case (long_x 200) (grows ∷ []) (bytes 496 64) (replicate 16 0 ++ replicate 48 255)
    ∷ case (long_x 200) (grows ∷ []) (bytes 560 64) ((2 ∷ replicate 7 0) ++ replicate 28 0 ++ replicate 28 255)
    ∷ case (long_x 200) (grows ∷ []) (bytes 624 72) (0 ∷ replicate 71 255)
    -- and 33..495 stay: 16, 8, 28 and 1 bytes of the bulk change, and before it 8, 11, 25 and 26
    ∷ case (long_x 200) (grows ∷ []) (bytes 33 463) (cut image_x 33 463)
    ∷ case (long_x 200) (grows ∷ []) checks (0 ∷ 0 ∷ 0 ∷ 1 ∷ 2 ∷ [])
    ∷ case (long_x 200) (grows ∷ grows ∷ []) answered (0 ∷ 13 ∷ [])
    -- a full store, grown, takes the record that found no room
    ∷ case (long_x 200) grown6 answered (0 ∷ 0 ∷ 0 ∷ 0 ∷ 0 ∷ 0 ∷ 10 ∷ 0 ∷ 0 ∷ [])
    ∷ case (long_x 200) grown6 (finds (pair 6 1)) (0 ∷ 636 ∷ 4 ∷ 3 ∷ 1 ∷ four 61)
    ∷ case (long_x 200) grown6 checks (0 ∷ 7 ∷ 7 ∷ 3 ∷ 0 ∷ [])
    -- 13 comes after 7
    ∷ case (put_le image_x 224 1 1) (grows ∷ []) answered (7 ∷ [])
    ∷ []
