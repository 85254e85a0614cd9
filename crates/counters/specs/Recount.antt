-- Counters follow: the entry count and the lowest free chunk field of a tier, after its slots and bits were changed.
use Rattle.std.specs.Prelude.{ℕ, List, [], ◌∷◌, true, false, ◌||◌, eqb, Option, Some, None, length}
use Rattle.layout.specs.declared.Shape.{Shape}
use Rattle.layout.specs.Places.{◌≔◌, puts, count_place, low_place}
use Rattle.entries.specs.Live.{full_slots}
use Rattle.chunks.specs.Chunks.{lowest_clear}

unfoldable pub recount : Shape → List ℕ → ℕ → List ℕ
recount z img t = puts z img (count_place z t ≔ length (full_slots z img t) ∷ low_place z t ≔ lowest_clear z img t ∷ [])

-- those of each of some tiers
unfoldable pub settle : Shape → List ℕ → List ℕ → List ℕ
settle z img [] = img
settle z img (t ∷ ts) = settle z (recount z img t) ts

-- the tiers that an edit changed: t, and another tier u if there is one (0 is none)
unfoldable pub touched : ℕ → ℕ → List ℕ
touched t u = elim (eqb u 0 || eqb u t) [ true ↦ t ∷ [] | false ↦ t ∷ u ∷ [] ]

-- the same, as the code carries the other tier
abbrev pub touched_with : ℕ → Option ℕ → List ℕ
touched_with t None = t ∷ []
touched_with t (Some u) = touched t u
