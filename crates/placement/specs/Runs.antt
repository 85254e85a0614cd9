-- Which tier takes an entry of n chunks, and where: the first tier with at most C - 2 full slots and a run of n clear chunks, in its lowest
-- such run.
use Rattle.std.specs.Prelude.{ℕ, zero, suc, ◌+◌, ◌-◌, List, [], ◌∷◌, Bool, true, false, ◌&&◌, ◌||◌, leb, ltb, eqb, Option, Some, None, length}
use Rattle.std.proofs.Math.Option.{Option as Maybe, none, some}
use Rattle.lists.specs.Lists.{below, first}
use Rattle.layout.specs.declared.Shape.{Shape}
use Rattle.entries.specs.Live.{full_slots}
use Rattle.chunks.specs.Chunks.{clear}
use Rattle.placement.specs.declared.Old.{Old}
use Rattle.placement.specs.declared.Run.{Run}
use Rattle.placement.specs.declared.Run.TheVariants.{At, Nowhere}

-- the lowest run of tier t, if there is one
unfoldable pub from_lowest : ℕ → Maybe ℕ → Run
from_lowest t none = Nowhere
from_lowest t (some c) = At t c

-- by how many slots of each tier are full, and by which chunks are clear
module _ (z : Shape) (full : ℕ → ℕ) (isClear : ℕ → ℕ → Bool) where
  open z use {settings}
  open settings use {slots, chunks}

  -- the n chunks from c on are clear
  unfoldable pub clear_from : ℕ → ℕ → ℕ → Bool
  clear_from t c zero = true
  clear_from t c (suc n) = elim (isClear t c) [ true ↦ clear_from t (suc c) n | false ↦ false ]

  -- the lowest run of n clear chunks
  unfoldable pub lowest_run : ℕ → ℕ → Maybe ℕ
  lowest_run t n = first (below (suc chunks - n)) (λ c. clear_from t c n)

  unfoldable pub run_in : ℕ → ℕ → Run
  run_in t n = elim (leb (full t + 2) slots) [ false ↦ Nowhere | true ↦ from_lowest t (lowest_run t n) ]

  -- of some tiers, the first that takes it
  unfoldable pub first_run : List ℕ → ℕ → Run
  first_run [] n = Nowhere
  first_run (t ∷ ts) n = elim (run_in t n) [ At u c ↦ At u c | Nowhere ↦ first_run ts n ]

module _ (z : Shape) (img : List ℕ) where
  -- as the image stands
  abbrev pub full_in : ℕ → ℕ
  full_in t = length (full_slots z img t)

  unfoldable pub run_for : List ℕ → ℕ → Run
  run_for ts n = first_run z full_in (clear z img) ts n

  -- as if the old entry were removed: its tier has one full slot less, and its chunks are clear
  unfoldable pub full_but : Option Old → ℕ → ℕ
  full_but None t = full_in t
  full_but (Some o) t = elim (eqb t o.tier) [ true ↦ full_in t - 1 | false ↦ full_in t ]

  unfoldable pub clear_but : Option Old → ℕ → ℕ → Bool
  clear_but None t i = clear z img t i
  clear_but (Some o) t i = (eqb t o.tier && (leb o.chunk i && ltb i (o.chunk + o.chunks))) || clear z img t i
