-- A table in which numbers are looked up and then added, while there is room. Which number is meant is for a test to say.
use Rattle.std.specs.Prelude.{ℕ, ◌<◌, ◌≡◌, ◌⊎◌, ◌≢◌, Bool, false}
use Rattle.probe.specs.Table.{Table, Good}
use Rattle.probe.specs.Counting.{Has, count}

module _ {M : Type 0} (𝓣 : Table M) where
  -- a full slot holds w
  pub record Holds (m : M) (w : ℕ) : Type 0 where
    pub full : w ≢ 0
    pub has : Has 𝓣 m w

  -- a table in which searches end, and in which they still do with `left` numbers more
  pub record Takes (m : M) (left : ℕ) : Type 0 where
    pub good : Good 𝓣 m
    pub spare : left < count 𝓣 m 0

  -- m holds no number that is meant
  abbrev pub Lacks : (ℕ → Bool) → M → Type 0
  Lacks meant m = (w : ℕ) → Holds m w → meant w ≡ false

  -- m' holds what m holds, and v
  pub record Adds (m m' : M) (v : ℕ) : Type 0 where
    pub kept : (w : ℕ) → Holds m w → Holds m' w
    pub added : Holds m' v
    pub only : (w : ℕ) → Holds m' w → Holds m w ⊎ (w ≡ v)
