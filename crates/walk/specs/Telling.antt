-- What the walk asks for, and what the test of an entry answers. The definitions serve contracts alone.
use Rattle.std.specs.Prelude.{ℕ, List, ◌≡◌, length, Option, Some, None}
use Rattle.xxh64.specs.Hash.{xxh64}
use Rattle.layout.specs.declared.Shape.{Shape}
use Rattle.layout.specs.Frame.{Framed}
use Rattle.entries.specs.declared.Entry.{Entry}
use Rattle.entries.specs.Stored.{stored}
use Rattle.walk.specs.Walk.{EntryReads}

-- an image whose frame fits, and a key with its hash
pub record Walkable (z : Shape) (img key : List ℕ) (h : ℕ) : Type 0 where
  pub framed : Framed z (length img)
  pub hash_is : h ≡ xxh64 key

-- the entry that stands there, which passes the tests, or that none does
abbrev pub ReadsSay : Shape → List ℕ → ℕ → ℕ → Option Entry → Type 0
ReadsSay z img t c (Some e) = (stored z img t c ≡ Some e) × EntryReads z img t c
ReadsSay z img t c None = EntryReads z img t c → ⊥
