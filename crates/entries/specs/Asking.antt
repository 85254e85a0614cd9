-- What the functions over lengths and slots ask for. The definitions serve contracts alone.
use Rattle.std.specs.Prelude.{ℕ, ◌+◌, ◌*◌, ◌^◌, ◌≤◌, ◌<◌, List, ◌≡◌, length, get_or, Some}
use Rattle.settings.specs.declared.Settings.{Settings}
use Rattle.settings.specs.Rules.{Valid}
use Rattle.leb128.specs.Leb128.{largest_length}
use Rattle.layout.specs.declared.Shape.{Shape}
use Rattle.layout.specs.FramedTier.{FramedTier}
use Rattle.entries.specs.declared.Entry.{Entry}
use Rattle.entries.specs.Stored.{stored}

-- the first n bytes at an offset are those of a key
abbrev pub Agree : List ℕ → ℕ → List ℕ → ℕ → Type 0
Agree l at key n = (j : ℕ) → j < n → get_or l (at + j) 0 ≡ get_or key j 0

-- n eights of bytes at an offset, and as many of a key
pub record Eights (l : List ℕ) (at : ℕ) (key : List ℕ) (n : ℕ) : Type 0 where
  pub there : at + 8 * n ≤ length l
  pub given : 8 * n ≤ length key

-- lengths of a key and a value that can be written
pub record Lengths (k v : ℕ) : Type 0 where
  pub key_small : k ≤ largest_length
  pub value_small : v ≤ largest_length

-- settings by which an entry with such lengths is measured
pub record Measures (st : Settings) (k v : ℕ) : Type 0 where
  pub valid : Valid st
  pub lengths : Lengths k v

-- a lookup key and a chunk that fit into a slot
pub record SlotParts (st : Settings) (lookup chunk : ℕ) : Type 0 where
  pub valid : Valid st
  pub lookup_in : lookup < 2 ^ st.keyBits
  pub chunk_in : chunk < 2 ^ st.chunkBits

-- a tier with an entry at chunk c that can be read
pub record WholeIn (z : Shape) (img : List ℕ) (t c : ℕ) : Type 0 where
  pub tier : FramedTier z img t
  pub entry : Entry
  pub whole : stored z img t c ≡ Some entry
