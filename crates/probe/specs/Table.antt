-- A table of numbers in a state M, which is read and written slot by slot. 0 is an empty slot, and every number has a start: the slot
-- at which the search for it begins.
use Rattle.std.specs.Prelude.{ℕ, zero, suc, ◌+◌, ◌≤◌, ◌<◌, ◌≡◌, ◌≢◌, Bool, eqb}
use Rattle.probe.specs.Ring.{dist}

pub record Table (M : Type 0) : Type 1 where
  pub size : ℕ
  pub start : ℕ → ℕ
  pub get : M → ℕ → ℕ
  pub put : M → ℕ → ℕ → M

module _ {M : Type 0} (𝓣 : Table M) where
  open 𝓣 use {size, start, get}

  abbrev pub empty : M → ℕ → Bool
  empty m k = eqb (get m k) 0

  pub record Empty (m : M) (e : ℕ) : Type 0 where
    pub lt : e < size
    pub free : get m e ≡ 0

  -- the slot k lies on the stretch from the start of the number in j up to j
  abbrev pub On : M → ℕ → ℕ → Type 0
  On m j k = dist size (start (get m j)) k ≤ dist size (start (get m j)) j

  -- no stretch from the start of a full slot's number up to the slot has an empty slot
  abbrev pub Good : M → Type 0
  Good m = (j k : ℕ) → j < size → k < size → get m j ≢ 0 → On m j k → get m k ≢ 0

  -- the sum of f over the first n slots: a count, where f is 1 at one number and 0 elsewhere
  unfoldable pub slot_total : (ℕ → ℕ) → M → ℕ → ℕ
  slot_total f m zero = 0
  slot_total f m (suc n) = f (get m n) + slot_total f m n
