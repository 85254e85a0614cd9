-- XXH64 with seed 0, by the steps of xxHash's public specification. The input xs is a list of bytes.
-- A lane is one of the four accumulators, and a word is what a lane takes in at once: 8 bytes, little-endian.
use Rattle.std.specs.Prelude.{◌≡◌, ℕ, zero, suc, ◌+◌, ◌-◌, ◌*◌, ◌/◌, ◌%◌, ◌^◌, Bool, true, false, List, [], ◌∷◌, length, bit_xor, nat_lt, slice_index}
use Rattle.words.specs.Numbers.{le}

-- the five primes
abbrev pub P1 : ℕ
P1 = 0x9E3779B185EBCA87

abbrev pub P2 : ℕ
P2 = 0xC2B2AE3D27D4EB4F

abbrev pub P3 : ℕ
P3 = 0x165667B19E3779F9

abbrev pub P4 : ℕ
P4 = 0x85EBCA77C2B2AE63

abbrev pub P5 : ℕ
P5 = 0x27D4EB2F165667C5

-- numbers of 64 bits: sum and product, which wrap, and rotation to the left by r bits. `bit_xor` is the library's exclusive or.
abbrev pub add64 : ℕ → ℕ → ℕ
add64 a b = (a + b) % 2 ^ 64

abbrev pub mul64 : ℕ → ℕ → ℕ
mul64 a b = (a * b) % 2 ^ 64

abbrev pub rotl64 : ℕ → ℕ → ℕ
rotl64 x r = x * 2 ^ r % 2 ^ 64 + x / 2 ^ (64 - r)

-- step 1, initialise the accumulators: the last is 0 - P1, wrapped
abbrev pub first_lanes : List ℕ
first_lanes = add64 P1 P2 ∷ P2 ∷ 0 ∷ (2 ^ 64 - P1) ∷ []

-- step 2, process the stripes of 32 bytes: a round, in which a lane takes in a word
unfoldable pub round_of : ℕ → ℕ → ℕ
round_of acc w = mul64 (rotl64 (add64 acc (mul64 w P2)) 31) P1

-- the lane at k, of 0 to 3
abbrev pub lane : List ℕ → ℕ → ℕ
lane v k = slice_index v k

-- each lane takes in its word of the stripe that starts at place i
unfoldable pub stripe_of : List ℕ → ℕ → List ℕ → List ℕ
stripe_of xs i v =
    round_of (lane v 0) (le xs i 8) ∷ round_of (lane v 1) (le xs (i + 8) 8) ∷ round_of (lane v 2) (le xs (i + 16) 8)
    ∷ round_of (lane v 3) (le xs (i + 24) 8) ∷ []

-- the lanes after the first n stripes
unfoldable pub lanes_of : List ℕ → ℕ → List ℕ
lanes_of xs zero = first_lanes
lanes_of xs (suc n) = stripe_of xs (n * 32) (lanes_of xs n)

-- what every whole stripe leaves: the lanes, the place after the last stripe, the length of the input
pub record Done (xs v : List ℕ) (at len : ℕ) : Type 0 where
  pub lanes : v ≡ lanes_of xs (length xs / 32)
  pub position : at ≡ length xs / 32 * 32
  pub total : len ≡ length xs

-- step 3, accumulator convergence: the sum of the lanes, each rotated by its own number, into which each lane is then merged
unfoldable pub sum_of : List ℕ → ℕ
sum_of v = add64 (add64 (add64 (rotl64 (lane v 0) 1) (rotl64 (lane v 1) 7)) (rotl64 (lane v 2) 12)) (rotl64 (lane v 3) 18)

unfoldable pub merge_of : ℕ → ℕ → ℕ
merge_of acc v = add64 (mul64 (bit_xor acc (round_of 0 v)) P1) P4

unfoldable pub converge_of : List ℕ → ℕ
converge_of v = merge_of (merge_of (merge_of (merge_of (sum_of v) (lane v 0)) (lane v 1)) (lane v 2)) (lane v 3)

-- the accumulator before step 4: an input that is shorter than one stripe skips steps 2 and 3
unfoldable pub start_of : Bool → List ℕ → ℕ
start_of true xs = P5
start_of false xs = converge_of (lanes_of xs (length xs / 32))

-- step 4, add the input's length
unfoldable pub total_of : List ℕ → ℕ
total_of xs = add64 (start_of (nat_lt (length xs) 32) xs) (length xs)

-- step 5, consume the remaining input: the accumulator takes in 8 bytes, 4 bytes or 1 byte
unfoldable pub mix8_of : ℕ → ℕ → ℕ
mix8_of acc w = add64 (mul64 (rotl64 (bit_xor acc (round_of 0 w)) 27) P1) P4

unfoldable pub mix4_of : ℕ → ℕ → ℕ
mix4_of acc w = add64 (mul64 (rotl64 (bit_xor acc (mul64 w P1)) 23) P2) P3

unfoldable pub mix1_of : ℕ → ℕ → ℕ
mix1_of acc w = mul64 (rotl64 (bit_xor acc (mul64 w P5)) 11) P1

-- n numbers of `size` bytes from place i on, taken in one after the other by `mix`
unfoldable pub tail_of : (ℕ → ℕ → ℕ) → ℕ → List ℕ → ℕ → ℕ → ℕ → ℕ
tail_of mix size xs i acc zero = acc
tail_of mix size xs i acc (suc n) = mix (tail_of mix size xs i acc n) (le xs (i + size * n) size)

-- the r bytes from place i on, which are fewer than 32: by eights, then at most one four, then single bytes
unfoldable pub rest_of : List ℕ → ℕ → ℕ → ℕ → ℕ
rest_of xs i r acc =
    tail_of mix1_of 1 xs (i + r / 4 * 4)
    (tail_of mix4_of 4 xs (i + r / 8 * 8) (tail_of mix8_of 8 xs i acc (r / 8)) (r % 8 / 4))
    (r % 4)

-- step 6, final mix (avalanche): three times a number xor itself shifted right by k bits, with a product after the first two
abbrev pub folded : ℕ → ℕ → ℕ
folded x k = bit_xor x (x / 2 ^ k)

unfoldable pub avalanche_of : ℕ → ℕ
avalanche_of acc = folded (mul64 (folded (mul64 (folded acc 33) P2) 29) P3) 32

-- the hash
unfoldable pub xxh64 : List ℕ → ℕ
xxh64 xs = avalanche_of (rest_of xs (length xs / 32 * 32) (length xs % 32) (total_of xs))
