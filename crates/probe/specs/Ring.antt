-- A ring of C slots: 0 follows C - 1.
use Rattle.std.specs.Prelude.{ℕ, suc, ◌+◌, ◌-◌, true, false, leb, ltb}

-- the slot after i, wrapping
unfoldable pub next : ℕ → ℕ → ℕ
next C i = elim (ltb (suc i) C) [ true ↦ suc i | false ↦ 0 ]

-- how many steps upward, wrapping, lead from a to b
unfoldable pub dist : ℕ → ℕ → ℕ → ℕ
dist C a b = elim (leb a b) [ true ↦ b - a | false ↦ b + C - a ]
