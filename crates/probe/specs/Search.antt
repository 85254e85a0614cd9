-- Search upward, wrapping, slot by slot.
use Rattle.std.specs.Prelude.{ℕ, zero, suc, Bool, true, false, ◌||◌}
use Rattle.probe.specs.Ring.{next}
use Rattle.probe.specs.Table.{Table, empty}

-- the first slot from i on, wrapping, at which to stop; after n steps the slot that is reached
unfoldable pub probe : ℕ → (ℕ → Bool) → ℕ → ℕ → ℕ
probe C stop zero i = i
probe C stop (suc n) i = elim (stop i) [ true ↦ i | false ↦ probe C stop n (next C i) ]

module _ {M : Type 0} (𝓣 : Table M) where
  open 𝓣 use {size, get}

  -- the first empty slot from i on
  unfoldable pub room : M → ℕ → ℕ
  room m i = probe size (empty 𝓣 m) size i

  -- the slot k is empty or has a number that is meant
  abbrev pub ends : (ℕ → Bool) → M → ℕ → Bool
  ends hit m k = empty 𝓣 m k || hit (get m k)

  -- the first such slot from i on
  unfoldable pub seek : (ℕ → Bool) → M → ℕ → ℕ
  seek hit m i = probe size (ends hit m) size i
