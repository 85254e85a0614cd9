-- Elements in rows, met row by row: one place further in a row, one row more, and all rows.
use Prim.Native.Nat.{ℕ, ◌+◌}
use mathlib.Core.Path.{◌≡◌, refl, ap, ap₂}
use mathlib.Core.Logic.{◌⊎◌, inl, inr, ⊎_elim, ◌≢◌}
use mathlib.Core.List.Memᴰ
use mathlib.Core.List.{List, [], ◌∷◌, ◌++◌}
use native.Mathlib.Omega.{arith}
use Rattle.lists.specs.Cases.{same_or}
use Rattle.gather.specs.Once.{Once}
use Rattle.gather.specs.Rows.{Place, InRows, Walked, RowsOnce}
use Rattle.gather.proofs.Meeting.{More}

abbrev at : ℕ → ℕ → Place
at t j = (t, j)

pub same_place : (a b : Place) → a.0 ≡ b.0 → a.1 ≡ b.1 → a ≡ b
same_place a b p q = ap₂ at p q

module _ (width : ℕ) (Q : ℕ → ℕ → Type 0) where
  -- ---- a row begins, and ends

  module _ (done : List ℕ) (t : ℕ) where
    pub begins : (a : Place) → InRows width Q done a → Walked width Q done t 0 a
    begins a h = inl h

    pub begins-only : (a : Place) → Walked width Q done t 0 a → InRows width Q done a
    begins-only a h = ⊎_elim (λ k. k) (λ k. absurd (omega (arith, k.1.0))) h

    pub ends : (a : Place) → Walked width Q done t width a → InRows width Q (done ++ (t ∷ [])) a
    ends a h =
        ⊎_elim
        (λ k. (Memᴰ.append_left (t ∷ []) k.0, k.1))
        (λ k. (Memᴰ.append_right done (Memᴰ.head {xs = []} k.0), k.1))
        h

    pub ends-only : (a : Place) → InRows width Q (done ++ (t ∷ [])) a → Walked width Q done t width a
    ends-only a h =
        ⊎_elim (λ k. inl (k, h.1)) (λ k. inr (Memᴰ.eq_of_singleton k, h.1)) (Memᴰ.append_cases done h.0)

    -- ---- one place further in a row

    module _ (n : ℕ) where
      pub kept : (a : Place) → Walked width Q done t n a → Walked width Q done t (n + 1) a
      kept a h = ⊎_elim (λ k. inl k) (λ k. inr (k.0, (omega (arith, k.1.0), k.1.1))) h

      at-or-before : (a : Place) → Walked width Q done t (n + 1) a
          → Walked width Q done t n a ⊎ ((a.0 ≡ t) × ((a.1 ≡ n) × Q a.0 a.1))
      at-or-before a h =
          ⊎_elim
          (λ k. inl (inl k))
          (λ k. ⊎_elim
          (λ (q : a.1 ≡ n). inr (k.0, (q, k.1.1)))
          (λ (q : a.1 ≢ n). inl (inr (k.0, (omega (arith, k.1.0), k.1.1))))
          (same_or a.1 n))
          h

      -- one is
      pub one-there : Q t n → More (Walked width Q done t n) (Walked width Q done t (n + 1)) (t, n)
      one-there e =
          record {
            kept = kept;
            has = inr (refl, (omega arith, e));
            only = λ a h. ⊎_elim (λ k. inl k) (λ k. inr (same_place a (t, n) k.0 k.1.0)) (at-or-before a h);
          }

  -- ---- all rows

  module _ (same : Place → Place → Type 0) (ts : List ℕ) where
    pub rows-once : Once same (InRows width Q ts) → RowsOnce width Q same ts
    rows-once f t mt j hj qj u mu k hk qk s =
        let e : at t j ≡ at u k = f (at t j) (at u k) (mt, (hj, qj)) (mu, (hk, qk)) s in
        (ap (λ (a : Place). a.0) e, ap (λ (a : Place). a.1) e)
