-- The lines that the lister prints.
use Rattle.std.specs.Prelude.{ℕ, List}
use Rattle.entries.specs.declared.Live.{Live}
use Rattle.image.specs.declared.Stage.{Stage}
use Rattle.image.specs.declared.Counts.{Counts}
use Rattle.image.specs.Check.{stage_number}
use Rattle.image.specs.List.{row_numbers}
use Rattle.text.specs.Lines.{line, totals, refused}

abbrev pub refusal_text : Stage → List ℕ
refusal_text s = refused (stage_number s)

abbrev pub row_text : Live → List ℕ
row_text e = line (row_numbers e)

abbrev pub totals_text : Counts → List ℕ
totals_text c = totals c.entries c.chunks c.tiers c.free
