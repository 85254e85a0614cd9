-- What the passes over a segment's chain keep and answer. The definitions serve contracts alone.
use Rattle.std.specs.Prelude.{ℕ, ◌≤◌, ◌<◌, List, [], ◌∷◌, ◌++◌, Bool, true, false, eqb, length, Result, Ok, Err}
use Rattle.lists.specs.Quantify.{Below}
use Rattle.layout.specs.declared.Shape.{Shape}
use Rattle.chains.specs.Chains.{chain}
use Rattle.search.specs.Rules.{KeysOnce}
use Rattle.search.specs.Landing.{LandsAt}
use Rattle.gather.specs.declared.Stopped.{Stopped}
use Rattle.gather.specs.declared.Stopped.TheVariants.{Again, Full}
use Rattle.gather.specs.Once.{Once, Passed}
use Rattle.gather.specs.Rows.{Place, InRows, Walked}
use Rattle.once.specs.declared.Sharing.{Sharing}
use Rattle.once.specs.Refs.{ref_to, SameKey, InPass, ref_table}

-- those before t in a list
unfoldable pub before : ℕ → List ℕ → List ℕ
before t [] = []
before t (x ∷ xs) = elim (eqb x t) [ true ↦ [] | false ↦ x ∷ before t xs ]

module _ (z : Shape) (img : List ℕ) (by : Sharing) where
  open z use {settings}
  open settings use {slots}

  -- the table m stands for the slots that P picks, no two of which have the same key, and takes `left` more
  abbrev pub Keeps : List ℕ → ℕ → (Place → Type 0) → Type 0
  Keeps m left P = Passed (ref_table z img by (length m)) (ref_to z img) (SameKey z img) m left P

  module _ (p s : ℕ) where
    -- what pass p met: in all tiers before t and in tier t below slot j; in these and in tier t; in the whole chain
    abbrev pub MetUpTo : ℕ → ℕ → Place → Type 0
    MetUpTo t j = Walked slots (InPass z img by p) (before t (chain z img s)) t j

    abbrev pub MetThrough : ℕ → Place → Type 0
    MetThrough t = InRows slots (InPass z img by p) (before t (chain z img s) ++ (t ∷ []))

    abbrev pub MetAll : Place → Type 0
    MetAll = InRows slots (InPass z img by p) (chain z img s)

    -- whether no two slots that the pass takes have the same key
    abbrev pub PassSays : Bool → Type 0
    PassSays true = Once (SameKey z img) MetAll
    PassSays false = KeysOnce z img s → ⊥

  -- some key has two slots, or it is not known
  abbrev pub StopSays : ℕ → Stopped → Type 0
  StopSays s Again = KeysOnce z img s → ⊥
  StopSays s Full = Unit {0}

  -- why the pass stopped; or none of those that P picks has two, and m stands for these
  abbrev pub MetSays : ℕ → (Place → Type 0) → List ℕ → Result ℕ Stopped → Type 0
  MetSays s P m (Err why) = StopSays s why
  MetSays s P m (Ok left) = Keeps m left P

  -- the search for each key of tier t that pass p takes ends in its own slot
  abbrev pub PassLands : ℕ → ℕ → Type 0
  PassLands p t = Below slots (λ j. InPass z img by p t j → LandsAt z img t j)

  -- r is the first slot of tier t from `from` on that pass p takes, or the number of slots
  pub record NextInPass (p t from r : ℕ) : Type 0 where
    pub not_before : from ≤ r
    pub low : r ≤ slots
    pub skipped : (k : ℕ) → from ≤ k → k < r → InPass z img by p t k → ⊥
    pub takes : r < slots → InPass z img by p t r
