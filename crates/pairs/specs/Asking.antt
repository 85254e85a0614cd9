-- What the reading of a found record asks for. The definition serves a contract alone.
use Rattle.std.specs.Prelude.{ℕ, ◌+◌, ◌≤◌, List, length}
use Rattle.settings.specs.Rules.{largest}
use Rattle.chronicle_map.specs.declared.Located.{Located}
use Rattle.chronicle_map.specs.declared.Located.TheVariants as looked

-- a found record stands within the image
abbrev pub Within : List ℕ → Located → Type 0
Within img (looked.Found p) = (p.offset + p.length ≤ length img) × (length img ≤ largest)
Within img (looked.Absent e) = Unit {0}
