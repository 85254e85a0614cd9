-- Bits of a list of bytes: bit i, counted from place `at`, is bit i mod 8 of byte i div 8. A bit is 0 or 1.
use Rattle.std.specs.Prelude.{ℕ, zero, suc, ◌+◌, ◌*◌, ◌/◌, ◌%◌, ◌^◌, ◌≤◌, ◌<◌, List, length, get_or, set}

-- bit i of a number, and the number with that bit made b: the bits above it, b, the bits below it
abbrev pub bit_of : ℕ → ℕ → ℕ
bit_of v i = v / 2 ^ i % 2

abbrev pub with_bit : ℕ → ℕ → ℕ → ℕ
with_bit v i b = (v / 2 ^ i / 2 * 2 + b) * 2 ^ i + v % 2 ^ i

-- bit i, and l with it made b
unfoldable pub bit : List ℕ → ℕ → ℕ → ℕ
bit l at i = bit_of (get_or l (at + i / 8) 0) (i % 8)

unfoldable pub put_bit : List ℕ → ℕ → ℕ → ℕ → List ℕ
put_bit l at i b = set l (at + i / 8) (with_bit (get_or l (at + i / 8) 0) (i % 8) b)

-- l with the n bits from i on made b
unfoldable pub put_bits : List ℕ → ℕ → ℕ → ℕ → ℕ → List ℕ
put_bits l at i zero b = l
put_bits l at i (suc n) b = put_bit (put_bits l at i n b) at (i + n) b

-- how many of the n bits from i on are 1
unfoldable pub ones : List ℕ → ℕ → ℕ → ℕ → ℕ
ones l at i zero = 0
ones l at i (suc n) = ones l at i n + bit l at (i + n)

-- the n bits from i on end within the list, and their number is a word
pub record BitRange (l : List ℕ) (at i n : ℕ) : Type 0 where
  pub within : 8 * at + i + n ≤ 8 * length l
  pub fits : i + n < 2 ^ 64
