-- The chunks of entries in a row, and what comparing them with the bits of a tier says. The definitions serve contracts alone.
use Rattle.std.specs.Prelude.{ℕ, ◌+◌, ◌*◌, ◌<◌, ◌≤◌, ◌≡◌, ◌≢◌, Option, Some, None, eqb, get_or}
use mathlib.Core.List.{List, flat_map}
use Rattle.lists.specs.Lists.{span, below, how_many}
use Rattle.lists.specs.Quantify.{Below}
use Rattle.words.specs.Bits.{bit_of}
use Rattle.layout.specs.declared.Shape.{Shape}
use Rattle.layout.specs.Places.{mark}
use Rattle.entries.specs.declared.Live.{Live}

-- the chunks of an entry; those of several, one after the other
abbrev pub chunks_of_entry : Live → List ℕ
chunks_of_entry e = span e.chunk e.chunks

unfoldable pub chunks_of_all : List Live → List ℕ
chunks_of_all es = flat_map chunks_of_entry es

-- ---- 4 counts in one number, and bits spread out in the same way

abbrev pub IsFour : List ℕ → ℕ → ℕ → Type 0
IsFour l i r =
    (r ≡ get_or l i 0 + get_or l (i + 1) 0 * 65536 + get_or l (i + 2) 0 * 4294967296 + get_or l (i + 3) 0 * 281474976710656) ×
    ((get_or l i 0 < 65536) × (get_or l (i + 1) 0 < 65536)) × ((get_or l (i + 2) 0 < 65536) × (get_or l (i + 3) 0 < 65536))

abbrev pub spread_of : ℕ → ℕ
spread_of v = bit_of v 0 + bit_of v 1 * 65536 + bit_of v 2 * 4294967296 + bit_of v 3 * 281474976710656

-- how many of the 8 bits of a byte are 1
unfoldable pub ones_of : ℕ → ℕ
ones_of v = bit_of v 0 + bit_of v 1 + bit_of v 2 + bit_of v 3 + bit_of v 4 + bit_of v 5 + bit_of v 6 + bit_of v 7

module _ (z : Shape) (img : List ℕ) where
  -- v is the byte with the bits of the 8 chunks from i on
  abbrev pub IsByte : ℕ → ℕ → ℕ → Type 0
  IsByte t i v = Below 8 (λ k. mark z img t (i + k) ≡ bit_of v k)

  -- n is the lowest chunk whose mark is not b, or the number of chunks if none is
  pub record FirstOther (t b n : ℕ) : Type 0 where
    pub within : n ≤ z.settings.chunks
    pub before : Below n (λ i. mark z img t i ≡ b)
    pub ends : n < z.settings.chunks → mark z img t n ≢ b

  -- how many of the first n chunks are marked
  unfoldable pub marked_below : ℕ → ℕ → ℕ
  marked_below t n = how_many (below n) (λ i. eqb (mark z img t i) 1)

  -- the bits of the first n chunks are their counts, and how many are 1; or one bit is not its chunk's count
  abbrev pub MarksBelow : ℕ → List ℕ → ℕ → Option ℕ → Type 0
  MarksBelow t covered n (Some m) = Below n (λ i. get_or covered i 0 ≡ mark z img t i) × (m ≡ marked_below t n)
  MarksBelow t covered n None = Below n (λ i. get_or covered i 0 ≡ mark z img t i) → ⊥
