-- A line that is being written.
use Rattle.std.specs.Prelude.{ℕ, ◌+◌, ◌≤◌, ◌≡◌, List, ◌++◌, length, take}
use Rattle.text.specs.declared.line.Line.{Line}

-- what stands in it so far
abbrev pub text_of : Line → List ℕ
text_of l = take l.len l.bytes

-- its length lies within its bytes. The second part follows from the first: with both, `&bytes[..len]` asks no proof
abbrev pub LengthFits : Line → Type 0
LengthFits l = (l.len ≤ length l.bytes) × (l.len ≡ length (text_of l))

-- s is what stands in it
pub record Reads (s : List ℕ) (l : Line) : Type 0 where
  pub text : text_of l ≡ s
  pub length_fits : LengthFits l

-- ---- what the functions that write a part of it say

-- there is room for n bytes more
abbrev pub Room : ℕ → Line → Type 0
Room n l = l.len + n ≤ 160

-- r is l with s after it
pub record Added (l : Line) (s : List ℕ) (r : Line) : Type 0 where
  pub text : text_of r ≡ text_of l ++ s
  pub len : r.len ≡ l.len + length s

-- the same, and s has at most n bytes
pub record AddedWithin (n : ℕ) (l : Line) (s : List ℕ) (r : Line) : Type 0 where
  pub added : Added l s r
  pub within : r.len ≤ l.len + n
