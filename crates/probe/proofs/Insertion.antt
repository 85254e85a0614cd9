-- A number put into the first empty slot from its start on.
use Prim.Native.Nat.{ℕ, ◌+◌, ◌≤◌}
use mathlib.Core.Path.{◌≡◌, ap}
use mathlib.Core.Logic.{⊎_elim, ◌≢◌}
use native.Mathlib.Omega.{arith}
use borrow.Author.Tests.{eqb-false}
use Rattle.lists.specs.Cases.{same_or}
use Rattle.probe.specs.Ring.{dist}
use Rattle.probe.specs.Table.{Table, Empty, Good, slot_total}
use Rattle.probe.specs.Search.{room}
use Rattle.probe.proofs.Ring.{dist-inj}
use Rattle.probe.proofs.Table.{Lawful, slot_total-put}
use Rattle.probe.proofs.Search.{room-first, room-empty}

module _ {M : Type 0} (𝓣 : Table M) (law : Lawful 𝓣) (m : M) (v e : ℕ) (ok : law.Ok m) (fit : law.Fit v) (nz : v ≢ 0) (em : Empty 𝓣 m e) where
  open 𝓣 use {size, start, get, put}
  open law use {start-lt, same, other}

  abbrev r : ℕ
  r = room 𝓣 m (start v)

  free : Empty 𝓣 m r
  free = room-empty 𝓣 law m (start v) e (start-lt v) em

  pub insert-totals : (f : ℕ → ℕ) → slot_total 𝓣 f (put m (room 𝓣 m (start v)) v) size + f 0 ≡ slot_total 𝓣 f m size + f v
  insert-totals f = omega (arith, slot_total-put 𝓣 law f m r v ok fit free.lt, ap f free.free)

  pub insert-good : Good 𝓣 m → Good 𝓣 (put m (room 𝓣 m (start v)) v)
  insert-good good j k hj hk fj on = ⊎_elim (λ (q : j ≡ r). new q) old (same_or j r)
    where
      at-r : get (put m r v) r ≡ v
      at-r = same m r v ok free.lt fit

      full : get m k ≢ 0 → get (put m r v) k ≢ 0
      full fk = ⊎_elim (λ (q : k ≡ r). rw (q, at-r) nz) (λ q. rw (other m r v k ok free.lt hk q) fk) (same_or k r)

      new : j ≡ r → get (put m r v) k ≢ 0
      new q =
          let on-r : dist size (start v) k ≤ dist size (start v) r = rw (q, at-r) at on in
          ⊎_elim
          (λ (p : k ≡ r). rw (p, at-r) nz)
          (λ p.
          let d : dist size (start v) k ≢ dist size (start v) r = λ u. p (dist-inj size (start-lt v) hk free.lt u) in
          full (eqb-false _ _ ((room-first 𝓣 law m (start v) e (start-lt v) em).before k hk (omega arith))))
          (same_or k r)

      old : j ≢ r → get (put m r v) k ≢ 0
      old q =
          let eq : get (put m r v) j ≡ get m j = other m r v j ok free.lt hj q in
          full (good j k hj hk (rw eq at fj) (rw eq at on))
