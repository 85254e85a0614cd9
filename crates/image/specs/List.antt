-- The list: the n-th live entry, n from 0, by segment, chain order, slot.
use Rattle.std.specs.Prelude.{ℕ, zero, suc, List, [], ◌∷◌, Option, Some, None, Result, Ok, Err}
use Rattle.entries.specs.declared.Live.{Live}
use Rattle.entries.specs.Live.{live}
use Rattle.image.specs.declared.Stage.{Stage}
use Rattle.image.specs.Check.{stage_number, examine, Examined}

-- the n-th of a list, or how many more it takes after its end
unfoldable pub pick : List Live → ℕ → Result Live ℕ
pick [] n = Err n
pick (e ∷ es) zero = Ok e
pick (e ∷ es) (suc n) = pick es n

unfoldable pub from_nth : Result Live ℕ → Result (Option Live) Stage
from_nth (Ok e) = Ok (Some e)
from_nth (Err n) = Ok None

unfoldable pub from_examined : List ℕ → ℕ → Examined → Result (Option Live) Stage
from_examined img n (Err s) = Err s
from_examined img n (Ok (z, c)) = from_nth (pick (live z img) n)

unfoldable pub entry : List ℕ → List ℕ → ℕ → Result (Option Live) Stage
entry block img n = from_examined img n (examine block img)

-- the seven numbers of a lister line
abbrev pub row_numbers : Live → List ℕ
row_numbers e = e.segment ∷ e.tier ∷ e.slot ∷ e.chunk ∷ e.chunks ∷ e.entry.keyLength ∷ e.entry.valueLength ∷ []

-- the paper's number, and those
abbrev pub listed_numbers : Result (Option Live) Stage → List ℕ
listed_numbers (Ok (Some e)) = 0 ∷ row_numbers e
listed_numbers (Ok None) = 1 ∷ 0 ∷ 0 ∷ 0 ∷ 0 ∷ 0 ∷ 0 ∷ 0 ∷ []
listed_numbers (Err s) = stage_number s ∷ 0 ∷ 0 ∷ 0 ∷ 0 ∷ 0 ∷ 0 ∷ 0 ∷ []
