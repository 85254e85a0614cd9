-- Elements of any kind, some of which are the same, each with a number, and a table that stands for those that were met.
use Rattle.std.specs.Prelude.{ℕ, ◌≡◌}
use Rattle.probe.specs.Table.{Table}
use Rattle.gather.specs.Table.{Holds, Takes}

module _ {A : Type 0} (same : A → A → Type 0) where
  -- no two of those that P picks are the same
  abbrev pub Once : (A → Type 0) → Type 0
  Once P = (a b : A) → P a → P b → same a b → a ≡ b

  -- one of those that P picks is the same as b
  abbrev pub Twin : (A → Type 0) → A → Type 0
  Twin P b = (a : A) × (P a × same a b)

module _ {M : Type 0} (𝓣 : Table M) {A : Type 0} (number : A → ℕ) where
  -- m holds the numbers of those that P picks, and takes `left` more
  pub record Gathered (m : M) (left : ℕ) (P : A → Type 0) : Type 0 where
    pub takes : Takes 𝓣 m left
    pub from : (w : ℕ) → Holds 𝓣 m w → (a : A) × (P a × (number a ≡ w))
    pub all : (a : A) → P a → Holds 𝓣 m (number a)

  -- what a pass keeps: m stands for those that it met, and no two of them are the same
  pub record Passed (same : A → A → Type 0) (m : M) (left : ℕ) (P : A → Type 0) : Type 0 where
    pub gathered : Gathered m left P
    pub once : Once same P
