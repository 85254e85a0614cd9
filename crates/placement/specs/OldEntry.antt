-- The entry that a store replaces, as the code carries it. The definitions serve contracts alone.
use Rattle.std.specs.Prelude.{ℕ, List, ◌≢◌, Option, Some, None, IfSome}
use Rattle.layout.specs.declared.Shape.{Shape}
use Rattle.entries.specs.Live.{chunk_of}
use Rattle.search.specs.declared.Found.{Found}
use Rattle.search.specs.declared.Found.TheVariants.{At, Absent}
use Rattle.search.specs.Rules.{chunks_at}
use Rattle.placement.specs.declared.Old.{Old}

-- tier t is not its tier
abbrev pub OtherTier : Option Old → ℕ → Type 0
OtherTier old t = IfSome old (λ o. t ≢ o.tier)

-- t is not 0, and not its tier
abbrev pub IsOtherTier : Option Old → ℕ → Type 0
IsOtherTier old t = (t ≢ 0) × OtherTier old t

module _ (z : Shape) (img : List ℕ) where
  -- the entry of slot j of tier t
  abbrev pub old_at : ℕ → ℕ → Old
  old_at t j = record { tier = t; slot = j; chunk = chunk_of z img t j; chunks = chunks_at z img t j }

  -- what a search found
  unfoldable pub old_found : Found → Option Old
  old_found (At t j) = Some (old_at t j)
  old_found (Absent t j) = None
