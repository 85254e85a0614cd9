-- What the sums say of single numbers: whether a table has a number, and how often.
use Prim.Native.Nat.{ℕ, ◌<◌}
use mathlib.Core.Path.{◌≡◌, refl}
use mathlib.Core.Logic.{⊎_elim, ◌≢◌}
use native.Mathlib.Omega.{arith}
use borrow.Author.Tests.{eq-eqb, ne_eqb}
use Rattle.lists.specs.Cases.{same_or}
use Rattle.probe.specs.Table.{Table, Empty}
use Rattle.probe.specs.Counting.{one_at, Has, count}
use Rattle.probe.specs.Search.{room}
use Rattle.probe.proofs.Table.{Lawful, slot_total-found}
use Rattle.probe.proofs.Insertion.{insert-totals}
use Rattle.probe.proofs.Removal.{Removed}

pub one_at_same : (w : ℕ) → one_at w w ≡ 1
unfolding one_at
one_at_same w = rw (eq-eqb w w refl, one_at)

pub one_at_other : (w x : ℕ) → x ≢ w → one_at w x ≡ 0
unfolding one_at
one_at_other w x ne = rw (ne_eqb x w ne, one_at)

pub one_at_pos : (w x : ℕ) → 0 < one_at w x → x ≡ w
one_at_pos w x l = ⊎_elim (λ q. q) (λ q. absurd (omega (arith, one_at_other w x q))) (same_or x w)

module _ {M : Type 0} (𝓣 : Table M) where
  open 𝓣 use {size, start, get, put}

  pub count-has : (m : M) (w : ℕ) → 0 < count 𝓣 m w → Has 𝓣 m w
  unfolding count
  count-has m w l = let r : _ = slot_total-found 𝓣 (one_at w) m size l in record { slot = r.0; lt = r.1; is = one_at_pos w _ r.2 }

  module _ (law : Lawful 𝓣) (m m' : M) (h : ℕ) (r : Removed 𝓣 law m h m') where
    pub removed-empty : get m h ≢ 0 → (e : ℕ) × Empty 𝓣 m' e
    unfolding count
    removed-empty nz =
        let p : 0 < count 𝓣 m' 0 = omega (arith, r.totals (one_at 0), one_at_same 0, one_at_other 0 (get m h) nz) in
        let e : Has 𝓣 m' 0 = count-has m' 0 p in
        (e.slot, record { lt = e.lt; free = e.is })

  module _ (law : Lawful 𝓣) (m : M) (v e : ℕ) (ok : law.Ok m) (fit : law.Fit v) (nz : v ≢ 0) (em : Empty 𝓣 m e) where
    abbrev new : M
    new = put m (room 𝓣 m (start v)) v

    -- with two empty slots before, one is left
    pub inserted-empty : 1 < count 𝓣 m 0 → (e : ℕ) × Empty 𝓣 new e
    unfolding count
    inserted-empty more =
        let p : 0 < count 𝓣 new 0 = omega (arith, insert-totals 𝓣 law m v e ok fit nz em (one_at 0), one_at_same 0, one_at_other 0 v nz) in
        let e : Has 𝓣 new 0 = count-has new 0 p in
        (e.slot, record { lt = e.lt; free = e.is })
