-- What the tiers of an image hold: a broken rule of slots and entries, else a broken rule of chunks and counters, else the counts.
use Rattle.std.specs.Prelude.{ℕ, List, length, Result, Ok, Err}
use Rattle.lists.specs.Decide.{choose}
use Rattle.layout.specs.declared.Shape.{Shape}
use Rattle.entries.specs.Live.{live}
use Rattle.search.specs.Rules.{entries_fit?}
use Rattle.chunks.specs.Chunks.{chunks_fit?, marked_chunks}
use Rattle.contents.specs.declared.ContentsError.{ContentsError}
use Rattle.contents.specs.declared.ContentsError.TheVariants.{Chunks, Entries}

module _ (z : Shape) (img : List ℕ) where
  -- the counts: live entries, and chunks whose bit is 1 in chained tiers
  unfoldable pub contents_of : Result (ℕ × ℕ) ContentsError
  contents_of =
      choose (entries_fit? z img) (λ _. Err Entries) λ _.
      choose (chunks_fit? z img) (λ _. Err Chunks) λ _.
      Ok (length (live z img), marked_chunks z img)
