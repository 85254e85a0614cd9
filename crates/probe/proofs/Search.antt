-- What a search finds.
use Prim.Native.Nat.{ℕ, zero, suc, ◌≤◌, ◌<◌}
use mathlib.Core.Path.{◌≡◌, refl, sym, ◌∙◌}
use mathlib.Core.Logic.{⊎_elim, ◌≢◌}
use mathlib.Core.Bool.{Bool, true, false, true≢false}
use native.Mathlib.Omega.{arith}
use borrow.Author.Tests.{eqb-true, eq-eqb, ne_eqb}
use Rattle.lists.specs.Cases.{by-test, lt-or, same_or}
use Rattle.probe.specs.Ring.{next, dist}
use Rattle.probe.specs.Table.{Table, empty, Empty, Good}
use Rattle.probe.specs.Search.{probe, room, ends, seek}
use Rattle.probe.proofs.Ring.{next-lt, dist-lt, dist-self, dist-nearer}
use Rattle.probe.proofs.Table.{Lawful}

module _ (C : ℕ) (stop : ℕ → Bool) where
  -- the steps of a search, for a loop that has n steps left
  pub probe-out : (n i : ℕ) → n ≤ 0 → probe C stop n i ≡ i
  unfolding probe
  probe-out zero i l = refl
  probe-out (suc n) i l = absurd (omega arith)

  pub probe-stops : (n i : ℕ) → stop i ≡ true → probe C stop n i ≡ i
  unfolding probe
  probe-stops zero i t = refl
  probe-stops (suc n) i t = rw (t, probe)

  pub probe-goes : (n n' i : ℕ) → n ≡ suc n' → stop i ≡ false → probe C stop n i ≡ probe C stop n' (next C i)
  unfolding probe
  probe-goes n n' i e t = rw (e, t, probe)

  pub probe-lt : (n i : ℕ) → i < C → probe C stop n i < C
  probe-lt zero i h = rw (probe-out zero i (omega arith)) h
  probe-lt (suc n) i h =
      by-test (stop i) (λ (t : stop i ≡ true). rw (probe-stops (suc n) i t) h)
      (λ (t : stop i ≡ false). rw (probe-goes (suc n) n i refl t) (probe-lt n (next C i) (next-lt C h)))

  -- r is the first slot from i on at which to stop
  pub record First (i r : ℕ) : Type 0 where
    pub lt : r < C
    pub stops : stop r ≡ true
    pub before : (k : ℕ) → k < C → dist C i k < dist C i r → stop k ≡ false

  -- a search that has steps enough for one slot at which to stop finds the first
  pub probe-first : (n i e : ℕ) → i < C → e < C → stop e ≡ true → dist C i e < n → 1 < C → First i (probe C stop n i)
  probe-first zero i e hi he se l two = absurd (omega arith)
  probe-first (suc n) i e hi he se l two =
      by-test (stop i)
      (λ (t : stop i ≡ true).
      rw (probe-stops (suc n) i t) (record { lt = hi; stops = t; before = λ k hk d. absurd (let z : _ = dist-self C i in omega arith) }))
      (λ (t : stop i ≡ false).
      rw (probe-goes (suc n) n i refl t)
      (further t (probe-first n (next C i) e (next-lt C hi) he se (omega (arith, nearer t he se)) two)))
    where
      nearer : stop i ≡ false → {k : ℕ} → k < C → stop k ≡ true → dist C i k ≡ suc (dist C (next C i) k)
      nearer t {k} hk sk = dist-nearer C hi hk two (λ (q : i ≡ k). true≢false (sym (rw q sk) ∙ t))

      further : stop i ≡ false → {r : ℕ} → First (next C i) r → First i r
      further t {r} f =
          record {
            lt = f.lt;
            stops = f.stops;
            before = λ k hk d. ⊎_elim
                (λ (q : i ≡ k). rw (← q) t)
                (λ q. f.before k hk (omega (arith, nearer t f.lt f.stops, dist-nearer C hi hk two q)))
                (same_or i k);
          }

-- two searches that stop at the same slots
module _ (C : ℕ) (stop stop' : ℕ → Bool) (same : (k : ℕ) → k < C → stop k ≡ stop' k) where
  pub probe-same : (n i : ℕ) → i < C → probe C stop n i ≡ probe C stop' n i
  probe-same zero i h = probe-out C stop zero i (omega arith) ∙ sym (probe-out C stop' zero i (omega arith))
  probe-same (suc n) i h =
      by-test (stop i)
      (λ t. probe-stops C stop (suc n) i t ∙ sym (probe-stops C stop' (suc n) i (sym (same i h) ∙ t)))
      (λ t.
      probe-goes C stop (suc n) n i refl t ∙ probe-same n (next C i) (next-lt C h)
      ∙ sym (probe-goes C stop' (suc n) n i refl (sym (same i h) ∙ t)))

-- a search that stops at more slots than another, and ends at one at which the other stops, ends where the other does
module _ (C : ℕ) (stop stop' : ℕ → Bool) (more : (k : ℕ) → stop' k ≡ true → stop k ≡ true) where
  pub probe-fewer : (n i : ℕ) → stop' (probe C stop n i) ≡ true → probe C stop n i ≡ probe C stop' n i
  probe-fewer zero i e = probe-out C stop zero i (omega arith) ∙ sym (probe-out C stop' zero i (omega arith))
  probe-fewer (suc n) i e =
      by-test (stop i)
      (λ t.
      let here : probe C stop (suc n) i ≡ i = probe-stops C stop (suc n) i t in
      here ∙ sym (probe-stops C stop' (suc n) i (rw here at e)))
      (λ t.
      let on : probe C stop (suc n) i ≡ probe C stop n (next C i) = probe-goes C stop (suc n) n i refl t in
      let t' : stop' i ≡ false = by-test (stop' i) (λ s. absurd (true≢false (sym (more i s) ∙ t))) (λ s. s) in
      on ∙ probe-fewer n (next C i) (rw on at e) ∙ sym (probe-goes C stop' (suc n) n i refl t'))

-- a search that ends at an empty slot ends at the first
pub seek-empty-room : {M : Type 0} (𝓣 : Table M) (i : ℕ) (hit : ℕ → Bool) (m : M) → 𝓣.get m (seek 𝓣 hit m i) ≡ 0
    → seek 𝓣 hit m i ≡ room 𝓣 m i
unfolding seek room
seek-empty-room 𝓣 i hit m e = probe-fewer 𝓣.size (ends 𝓣 hit m) (empty 𝓣 m) (λ k t. rw t) 𝓣.size i (eq-eqb _ _ e)

module _ {M : Type 0} (𝓣 : Table M) (i : ℕ) (hi : i < 𝓣.size) where
  open 𝓣 use {size, get}

  pub room-lt : (m : M) → room 𝓣 m i < size
  unfolding room
  room-lt m = probe-lt size (empty 𝓣 m) size i hi

  -- the search for a number that is in no slot ends at the first empty slot
  pub seek-room : (hit : ℕ → Bool) (m : M) → ((k : ℕ) → k < size → get m k ≢ 0 → hit (get m k) ≡ false)
      → seek 𝓣 hit m i ≡ room 𝓣 m i
  unfolding seek room
  seek-room hit m miss =
      probe-same size (ends 𝓣 hit m) (empty 𝓣 m)
      (λ k h. ⊎_elim (λ (e : get m k ≡ 0). rw (eq-eqb _ _ e)) (λ n. rw (ne_eqb _ _ n, miss k h n)) (same_or (get m k) 0)) size i hi

  -- two tables with the same slots have the same first empty slot
  pub room-same : (m m' : M) → ((k : ℕ) → k < size → get m k ≡ get m' k) → room 𝓣 m i ≡ room 𝓣 m' i
  unfolding room
  room-same m m' e = probe-same size (empty 𝓣 m) (empty 𝓣 m') (λ k h. rw (e k h)) size i hi

module _ {M : Type 0} (𝓣 : Table M) (law : Lawful 𝓣) (m : M) (i e : ℕ) (hi : i < 𝓣.size) (em : Empty 𝓣 m e) where
  open 𝓣 use {size, start, get}
  open law use {two}

  pub room-first : First size (empty 𝓣 m) i (room 𝓣 m i)
  unfolding room
  room-first = probe-first size (empty 𝓣 m) size i e hi em.lt (eq-eqb _ _ em.free) (dist-lt size hi em.lt) two

  pub room-empty : Empty 𝓣 m (room 𝓣 m i)
  room-empty = record { lt = room-first.lt; free = eqb-true _ _ room-first.stops }

  module _ (hit : ℕ → Bool) where
    pub seek-first : First size (ends 𝓣 hit m) i (seek 𝓣 hit m i)
    unfolding seek
    seek-first = probe-first size (ends 𝓣 hit m) size i e hi em.lt (rw (eq-eqb _ _ em.free)) (dist-lt size hi em.lt) two

    pub seek-lt : seek 𝓣 hit m i < size
    seek-lt = seek-first.lt

    -- a full slot where the search ends is one that is meant
    pub seek_hit : get m (seek 𝓣 hit m i) ≢ 0 → hit (get m (seek 𝓣 hit m i)) ≡ true
    seek_hit ne = let s : _ = seek-first.stops in rw (ne_eqb _ _ ne) at s

    -- in a good table the search from its start comes to a number that is meant if there is one, and so ends empty only if there is none
    pub seek_finds : Good 𝓣 m → (j : ℕ) → j < size → get m j ≢ 0 → start (get m j) ≡ i → hit (get m j) ≡ true
        → get m (seek 𝓣 hit m i) ≢ 0
    seek_finds good j hj fj hm ht =
        ⊎_elim
        (λ (l : dist size i j < dist size i (seek 𝓣 hit m i)).
        let t : ends 𝓣 hit m j ≡ true = rw (ht, ne_eqb _ _ fj) in
        absurd (true≢false (sym t ∙ seek-first.before j hj l)))
        (λ (l : dist size i (seek 𝓣 hit m i) ≤ dist size i j). good j (seek 𝓣 hit m i) hj seek-lt fj (rw hm l))
        (lt-or (dist size i j) (dist size i (seek 𝓣 hit m i)))
