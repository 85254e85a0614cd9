-- Unsigned LEB128, shortest form, and the lengths that are read in it.
use Rattle.std.specs.Prelude.{ℕ, zero, suc, ◌+◌, ◌*◌, ◌/◌, ◌%◌, ◌≤◌, ◌≡◌, List, [], ◌∷◌, true, false, ◌&&◌, ltb, leb, length, drop, Option, Some, None}
use Rattle.words.specs.Bytes.{cut, same}

-- seven bits a byte, the lowest first; 128 is added to each byte but the last; at most `more` bytes follow the first
unfoldable pub encode_within : ℕ → ℕ → List ℕ
encode_within zero n = n ∷ []
encode_within (suc more) n = elim (ltb n 128) [ true ↦ n ∷ [] | false ↦ (128 + n % 128) ∷ encode_within more (n / 128) ]

-- the shortest form of a number below 2 ^ 70
unfoldable pub encode : ℕ → List ℕ
encode n = encode_within 9 n

-- the bytes at the front up to the first below 128, at most n of them
unfoldable pub front : ℕ → List ℕ → List ℕ
front zero bs = []
front (suc n) [] = []
front (suc n) (b ∷ bs) = elim (ltb b 128) [ true ↦ b ∷ [] | false ↦ b ∷ front n bs ]

-- the number that such bytes give
unfoldable pub value : List ℕ → ℕ
value [] = 0
value (b ∷ bs) = b % 128 + 128 * value bs

-- no length is larger
abbrev pub largest_length : ℕ
largest_length = 65535

-- bytes from place `at` that are the shortest form of a length: the length and the next place
unfoldable pub accept : List ℕ → ℕ → Option (ℕ × ℕ)
accept bs at =
    elim (same bs (encode (value bs)) && leb (value bs) largest_length) [ true ↦ Some (value bs, at + length bs) | false ↦ None ]

-- what is read at place `at`: three bytes are enough for every length
unfoldable pub decode : List ℕ → ℕ → Option (ℕ × ℕ)
decode l at = accept (front 3 (drop at l)) at

-- a length stands at a place in its shortest form, and `next` is the place after it; `decode` reads exactly these
pub record EncodedAt (l : List ℕ) (at n next : ℕ) : Type 0 where
  pub small : n ≤ largest_length
  pub form : cut l at (length (encode n)) ≡ encode n
  pub after : next ≡ at + length (encode n)
