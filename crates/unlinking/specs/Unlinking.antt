-- An extra tier that an edit has emptied leaves its chain: its neighbours are joined, the tiers after it are one place nearer the main tier,
-- and it becomes the head of the free chain. Its other counters stay.
use Rattle.std.specs.Prelude.{ℕ, ◌-◌, List, [], ◌∷◌, ◌++◌, map, Bool, true, false, ◌&&◌, ltb, eqb, length}
use Rattle.layout.specs.declared.Shape.{Shape}
use Rattle.layout.specs.Tiers.{tiers}
use Rattle.layout.specs.declared.Global.TheVariants.{FirstFree as firstFree, UsedTiers as usedTiers}
use Rattle.layout.specs.declared.Counter.TheVariants.{Previous as previous, Order as order}
use Rattle.layout.specs.Places.{get, Write, ◌≔◌, puts, global, tier, counter, next_place}
use Rattle.chains.specs.Chains.{follow, next_of, free_head}
use Rattle.entries.specs.Live.{full_slots}

module _ (z : Shape) (img : List ℕ) where
  -- the tier before t, and those after it
  abbrev pub before : ℕ → ℕ
  before t = get z img (tier t (counter previous))

  unfoldable pub later : ℕ → List ℕ
  later t = follow z img (tiers z) (next_of z img t)

  -- the orders of some tiers, each one less
  abbrev pub one_less : ℕ → Write
  one_less u = tier u (counter order) ≔ (get z img (tier u (counter order)) - 1)

  abbrev pub nearer : List ℕ → List Write
  nearer us = map one_less us

  -- the first of them comes after tier p
  abbrev pub comes_after : ℕ → List ℕ → List Write
  comes_after p [] = []
  comes_after p (u ∷ us) = tier u (counter previous) ≔ p ∷ []

  -- after tier p comes what came after t; t is the head of the free chain, and one tier less is used
  abbrev pub moving : ℕ → ℕ → List Write
  moving p t =
      next_place z p ≔ next_of z img t
      ∷ next_place z t ≔ free_head z img ∷ global firstFree ≔ t
      ∷ global usedTiers ≔ (get z img (global usedTiers) - 1)
      ∷ []

  unfoldable pub unlink : ℕ → List ℕ
  unlink t = puts z img (nearer (later t) ++ (comes_after (before t) (later t) ++ moving (before t) t))

  -- an extra tier without entries
  unfoldable pub is_empty_extra : ℕ → Bool
  is_empty_extra t = ltb z.settings.segments t && eqb (length (full_slots z img t)) 0

  -- it goes home; a main tier stays, and so does one that has an entry (0 is no tier)
  unfoldable pub unlink_empty : ℕ → List ℕ
  unlink_empty t = elim (is_empty_extra t) [ true ↦ unlink t | false ↦ img ]
