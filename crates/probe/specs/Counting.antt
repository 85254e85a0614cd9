-- Whether a table has a number, and how often. The definitions serve contracts alone.
use Rattle.std.specs.Prelude.{ℕ, ◌<◌, ◌≡◌, true, false, eqb}
use Rattle.probe.specs.Table.{Table, slot_total}

-- 1 at w, 0 elsewhere
unfoldable pub one_at : ℕ → ℕ → ℕ
one_at w x = elim (eqb x w) [ true ↦ 1 | false ↦ 0 ]

module _ {M : Type 0} (𝓣 : Table M) where
  open 𝓣 use {size, get}

  pub record Has (m : M) (w : ℕ) : Type 0 where
    pub slot : ℕ
    pub lt : slot < size
    pub is : get m slot ≡ w

  unfoldable pub count : M → ℕ → ℕ
  count m w = slot_total 𝓣 (one_at w) m size
