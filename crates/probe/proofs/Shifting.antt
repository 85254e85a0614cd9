-- The table while a removal shifts its slots: it is good but for the hole.
use Prim.Native.Nat.{ℕ, suc, ◌≤◌, ◌<◌}
use mathlib.Core.Path.{◌≡◌, sym, ◌∙◌}
use mathlib.Core.Logic.{⊎_elim, ◌≢◌}
use native.Mathlib.Omega.{arith}
use Rattle.lists.specs.Cases.{same_or}
use Rattle.probe.specs.Ring.{next, dist}
use Rattle.probe.specs.Table.{Table, Empty, Good, On}
use Rattle.probe.proofs.Ring.{next-lt, dist-lt, dist-next, dist-sub, dist-back, dist-inj, dist-pos, dist-apart, dist-through, dist-further, dist-nearer}
use Rattle.probe.proofs.Table.{Lawful}

module _ {M : Type 0} (𝓣 : Table M) (law : Lawful 𝓣) where
  open 𝓣 use {size, start, get, put}
  open law use {Ok, two, start-lt, fit-zero, fit-get, ok-put, same, other}

  -- The hole is h, whatever it holds, and the slots after it are read up to but without i. near: but for the hole the table is good.
  -- ahead: a slot on whose stretch the hole lies is yet to be read. The n steps that are left lead past an empty slot e.
  pub record Shifting (n : ℕ) (m : M) (h i : ℕ) : Type 0 where
    pub ok : Ok m
    pub h-lt : h < size
    pub i_lt : i < size
    pub off : 0 < dist size h i
    pub near : (j k : ℕ) → j < size → k < size → j ≢ h → k ≢ h → get m j ≢ 0 → On 𝓣 m j k → get m k ≢ 0
    pub ahead : (j : ℕ) → j < size → j ≢ h → get m j ≢ 0 → On 𝓣 m j h → dist size h i ≤ dist size h j
    pub e : ℕ
    pub e-empty : Empty 𝓣 m e
    pub e-ahead : dist size h i ≤ dist size h e
    pub e-fuel : dist size i e < n

  pub starts : (m : M) (h e : ℕ) → Ok m → Good 𝓣 m → h < size → get m h ≢ 0 → Empty 𝓣 m e → Shifting size m h (next size h)
  starts m h e ok good hh fh em =
      record {
        ok = ok;
        h-lt = hh;
        i_lt = next-lt size hh;
        off = omega (arith, one);
        near = λ j k hj hk jh kh fj on. good j k hj hk fj on;
        ahead = λ j hj jh fj on. omega (arith, one, dist-apart size hh hj (λ q. jh (sym q)));
        e = e;
        e-empty = em;
        e-ahead = omega (arith, one, dist-apart size hh em.lt h-e);
        e-fuel = dist-lt size (next-lt size hh) em.lt;
      }
    where
      one : dist size h (next size h) ≡ 1
      one = dist-next size hh two

      h-e : h ≢ e
      h-e q = fh (rw q em.free)

  module _ {n : ℕ} {m : M} {h i : ℕ} (s : Shifting n m h i) where
    i-h : i ≢ h
    i-h q = dist-pos size s.off (sym q)

    i-e : get m i ≢ 0 → i ≢ s.e
    i-e full q = full (rw q s.e-empty.free)

    nearer : get m i ≢ 0 → dist size i s.e ≡ suc (dist size (next size i) s.e)
    nearer full = dist-nearer size s.i_lt s.e-empty.lt two (i-e full)

    -- at an empty slot the hole can be emptied
    pub finishes : get m i ≡ 0 → Good 𝓣 (put m h 0)
    finishes z j k hj hk fj on =
        ⊎_elim
        (λ (kh : k ≡ h). absurd (not-h kh))
        (λ kh. rw (other m h 0 k s.ok s.h-lt hk kh) (s.near j k hj hk jh kh full on'))
        (same_or k h)
      where
        jh : j ≢ h
        jh q = fj (rw q (same m h 0 s.ok s.h-lt fit-zero))

        eq : get (put m h 0) j ≡ get m j
        eq = other m h 0 j s.ok s.h-lt hj jh

        full : get m j ≢ 0
        full = rw eq at fj

        on' : On 𝓣 m j k
        on' = rw eq at on

        not-h : k ≡ h → ⊥
        not-h kh =
            let on-h : On 𝓣 m j h = rw (← kh) on' in
            s.near j i hj s.i_lt jh i-h full (dist-through size (start-lt _) s.h-lt hj s.i_lt on-h (s.ahead j hj jh full on-h)) z

  -- a slot that stays is passed
  pub passes : {n : ℕ} {m : M} {h i : ℕ} → Shifting (suc n) m h i → get m i ≢ 0 → dist size (start (get m i)) i < dist size h i
      → Shifting n m h (next size i)
  passes {n} {m} {h} {i} s full st =
      record {
        ok = s.ok;
        h-lt = s.h-lt;
        i_lt = next-lt size s.i_lt;
        off = omega (arith, further);
        near = s.near;
        ahead = λ j hj jh fj on. omega (arith, further, beyond j hj jh fj on);
        e = s.e;
        e-empty = s.e-empty;
        e-ahead = omega (arith, further);
        e-fuel = omega (arith, nearer s full);
      }
    where
      further : (dist size h (next size i) ≡ suc (dist size h i)) × (suc (dist size h i) ≤ dist size h s.e)
      further =
          let l : _ = dist-lt size s.h-lt s.e-empty.lt in
          let u : dist size h i ≢ dist size h s.e = λ q. i-e s full (dist-inj size s.h-lt s.i_lt s.e-empty.lt q) in
          let w : suc (dist size h i) ≤ dist size h s.e = omega (arith, s.e-ahead) in
          (dist-further size s.h-lt s.i_lt two (omega arith), w)

      -- the hole is not on the stretch of the number in i
      not-i : (j : ℕ) → i ≡ j → On 𝓣 m j h → ⊥
      not-i j q on =
          let on-i : On 𝓣 m i h = rw q on in
          omega (arith, dist-sub size (start-lt (get m i)) s.h-lt s.i_lt on-i)

      beyond : (j : ℕ) → j < size → j ≢ h → get m j ≢ 0 → On 𝓣 m j h → suc (dist size h i) ≤ dist size h j
      beyond j hj jh fj on =
          let u : dist size h i ≢ dist size h j = λ q. not-i j (dist-inj size s.h-lt s.i_lt hj q) on in
          omega (arith, s.ahead j hj jh fj on)

  -- a number that moves fills the hole, and its old slot is the hole
  pub moves : {n : ℕ} {m : M} {h i : ℕ} → Shifting (suc n) m h i → get m i ≢ 0 → dist size h i ≤ dist size (start (get m i)) i
      → Shifting n (put m h (get m i)) i (next size i)
  moves {n} {m} {h} {i} s full st =
      record {
        ok = ok-put m h (get m i) s.ok s.h-lt (fit-get m i s.ok);
        h-lt = s.i_lt;
        i_lt = next-lt size s.i_lt;
        off = omega (arith, one);
        near =
            λ j k hj hk ji ki fj on.
            ⊎_elim (λ (kh : k ≡ h). rw (kh, at-h) full) (λ kh. rw (at_other k hk kh) (near j k hj hk kh fj on)) (same_or k h);
        ahead = λ j hj ji fj on. omega (arith, one, dist-apart size s.i_lt hj (λ q. ji (sym q)));
        e = s.e;
        e-empty = record { lt = s.e-empty.lt; free = at_other s.e s.e-empty.lt e-h ∙ s.e-empty.free };
        e-ahead = omega (arith, one, nearer s full);
        e-fuel = omega (arith, nearer s full);
      }
    where
      one : dist size i (next size i) ≡ 1
      one = dist-next size s.i_lt two

      e-h : s.e ≢ h
      e-h q =
          let l : 0 < dist size h s.e = omega (arith, s.off, s.e-ahead) in
          dist-pos size l (sym q)

      at-h : get (put m h (get m i)) h ≡ get m i
      at-h = same m h (get m i) s.ok s.h-lt (fit-get m i s.ok)

      at_other : (k : ℕ) → k < size → k ≢ h → get (put m h (get m i)) k ≡ get m k
      at_other k hk kh = other m h (get m i) k s.ok s.h-lt hk kh

      near : (j k : ℕ) → j < size → k < size → k ≢ h → get (put m h (get m i)) j ≢ 0 → On 𝓣 (put m h (get m i)) j k → get m k ≢ 0
      near j k hj hk kh fj on =
          ⊎_elim
          (λ (jh : j ≡ h).
          let on-h : dist size (start (get m i)) k ≤ dist size (start (get m i)) h = rw (jh, at-h) at on in
          s.near i k s.i_lt hk (i-h s) kh full (omega (arith, dist-back size (start-lt (get m i)) s.h-lt s.i_lt st)))
          (λ jh.
          let eq : get (put m h (get m i)) j ≡ get m j = at_other j hj jh in
          s.near j k hj hk jh kh (rw eq at fj) (rw eq at on))
          (same_or j h)
