-- A list of calls, each on the state as the last one left it.
use Rattle.std.specs.Prelude.{List, [], ◌∷◌}

module _ {S C : Type 0} (leaves : S → C → S) where
  -- the state after all of them
  unfoldable pub after_all : S → List C → S
  after_all s [] = s
  after_all s (c ∷ cs) = after_all (leaves s c) cs

  -- what each of them gives on the state that it gets
  unfoldable pub on_each : {A : Type 0} → (S → C → A) → S → List C → List A
  on_each gives s [] = []
  on_each gives s (c ∷ cs) = gives s c ∷ on_each gives (leaves s c) cs
