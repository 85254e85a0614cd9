-- What the count of a tier's full slots finds.
use Prim.Native.Nat.{ℕ, ◌+◌, ◌≤◌}
use mathlib.Core.List.{List}
use mathlib.Core.Path.{◌≡◌, refl, ap}
use mathlib.Core.Logic.{◌≢◌}
use mathlib.Core.Bool.{Bool, not}
use native.Mathlib.Omega.{arith}
use lib.Dec.{eqb}
use lib.ListN.{length}
use borrow.Author.Tests.{eq-eqb, ne_eqb}
use Rattle.lists.specs.Lists.{span, below, those, how_many}
use Rattle.lists.proofs.Lists.{how_many-le, length-span}
use Rattle.lists.proofs.Rows.{how_many-more, how_many-less}
use Rattle.layout.specs.declared.Shape.{Shape}
use Rattle.entries.specs.Live.{slot_at, full_slots}

module _ (z : Shape) (img : List ℕ) (t : ℕ) where
  open z use {settings}
  open settings use {slots}

  -- slot j is full
  abbrev full : ℕ → Bool
  full j = not (eqb (slot_at z img t j) 0)

  pub full-few : length (full_slots z img t) ≤ slots
  unfolding full_slots
  full-few = omega (arith, how_many-le full (below slots), length-span 0 slots)

  -- of the first j slots n are full
  pub record Counted (n j : ℕ) : Type 0 where
    pub is : n ≡ how_many (below j) full

  pub counted-starts : Counted 0 0
  unfolding span those
  counted-starts = record { is = refl }

  module _ {n j : ℕ} (w : Counted n j) where
    pub counted-few : n ≤ j
    counted-few = omega (arith, w.is, how_many-le full (below j), length-span 0 j)

    pub counted-full : slot_at z img t j ≢ 0 → {m : ℕ} → m ≡ n + 1 → Counted m (j + 1)
    counted-full ne {m} e = record { is = omega (arith, e, w.is, how_many-more full j (ap not (ne_eqb (slot_at z img t j) 0 ne))) }

    pub counted-empty : slot_at z img t j ≡ 0 → {m : ℕ} → m ≡ n → Counted m (j + 1)
    counted-empty eq {m} e = record { is = omega (arith, e, w.is, how_many-less full j (ap not (eq-eqb (slot_at z img t j) 0 eq))) }

    pub counted-ends : j ≡ slots → n ≡ length (full_slots z img t)
    unfolding full_slots
    counted-ends e = rw e at w.is
