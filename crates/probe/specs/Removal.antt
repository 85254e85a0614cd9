-- Removal: the slots after the hole are read up to an empty one. A slot whose number's start lies outside the stretch after the hole up to
-- and including the slot moves into the hole, and is the hole then. The last hole gets 0.
use Rattle.std.specs.Prelude.{ℕ, zero, suc, Bool, true, false, ◌&&◌, leb, ltb}
use Rattle.probe.specs.Ring.{next, dist}
use Rattle.probe.specs.Table.{Table, empty}

module _ {M : Type 0} (𝓣 : Table M) where
  open 𝓣 use {size, start, get, put}

  -- the start of what i holds lies on the stretch after the hole h up to and including i
  unfoldable pub stays : M → ℕ → ℕ → Bool
  stays m h i = let d : ℕ = dist size h (start (get m i)) in ltb 0 d && leb d (dist size h i)

  -- the hole is h, the next slot to be read is i
  unfoldable pub shift : ℕ → M → ℕ → ℕ → M
  shift zero m h i = put m h 0
  shift (suc n) m h i =
      elim (empty 𝓣 m i) [
        | true ↦ put m h 0
        | false ↦ elim (stays m h i) [ true ↦ shift n m h (next size i) | false ↦ shift n (put m h (get m i)) i (next size i) ]
      ]

  -- slot h is emptied, and later slots move back
  unfoldable pub remove : M → ℕ → M
  remove m h = shift size m h (next size h)
