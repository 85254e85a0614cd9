-- What a removal does.
use Prim.Native.Nat.{ℕ, zero, suc, ◌+◌, ◌≤◌, ◌<◌}
use mathlib.Core.Path.{◌≡◌, refl, ap, ap₂, sym, ◌∙◌}
use mathlib.Core.Logic.{⊎_elim, ◌≢◌}
use mathlib.Core.Bool.{true, false, ◌&&◌}
use native.Mathlib.Omega.{arith}
use lib.Dec.{ltb}
use borrow.Author.Tests.{ltb-true, ltb-false, lt-ltb, le-ltb, le-leb, lt-leb, eqb-true, eqb-false, eq-eqb, ne_eqb}
use Rattle.lists.specs.Cases.{by-test, lt-or}
use Rattle.probe.specs.Ring.{next, dist}
use Rattle.probe.specs.Table.{Table, empty, Empty, Good, slot_total}
use Rattle.probe.specs.Removal.{stays, shift, remove}
use Rattle.probe.proofs.Ring.{next-lt, dist-pos, after-hole}
use Rattle.probe.proofs.Table.{Lawful, slot_total-put}
use Rattle.probe.proofs.Shifting.{Shifting, starts, finishes, passes, moves}

module _ {M : Type 0} (𝓣 : Table M) where
  open 𝓣 use {size, start, get, put}

  -- the test as one comparison
  pub stays-is : (m : M) (h i : ℕ) → h < size → i < size → start (get m i) < size
      → stays 𝓣 m h i ≡ ltb (dist size (start (get m i)) i) (dist size h i)
  unfolding stays
  stays-is m h i hh hi hx =
      ⊎_elim
      (λ l. let p : _ = (after-hole size hh hx hi).1 l in ap₂ ◌&&◌ (lt-ltb 0 d p.0) (le-leb d (dist size h i) p.1) ∙ sym (lt-ltb _ _ l))
      (λ l. ⊎_elim (λ p. rw (lt-ltb 0 d p, lt-leb _ _ (beyond p l)) (sym (le-ltb _ _ l))) (λ p. rw (le-ltb 0 d p) (sym (le-ltb _ _ l))) (lt-or 0 d))
      (lt-or (dist size (start (get m i)) i) (dist size h i))
    where
      d : ℕ
      d = dist size h (start (get m i))

      beyond : 0 < d → dist size h i ≤ dist size (start (get m i)) i → dist size h i < d
      beyond p l = ⊎_elim (λ q. q) (λ q. absurd (omega (arith, (after-hole size hh hx hi).0 (p, q)))) (lt-or (dist size h i) d)

  -- the steps of a removal, for a loop that has n steps left
  pub shift-out : (n : ℕ) (m : M) (h i : ℕ) → n ≤ 0 → shift 𝓣 n m h i ≡ put m h 0
  unfolding shift
  shift-out zero m h i l = refl
  shift-out (suc n) m h i l = absurd (omega arith)

  pub shift-empty : (n : ℕ) (m : M) (h i : ℕ) → get m i ≡ 0 → shift 𝓣 n m h i ≡ put m h 0
  unfolding shift
  shift-empty zero m h i z = refl
  shift-empty (suc n) m h i z = rw (eq-eqb _ _ z, shift)

  pub shift-stays : (n n' : ℕ) (m : M) (h i : ℕ) → n ≡ suc n' → get m i ≢ 0 → stays 𝓣 m h i ≡ true
      → shift 𝓣 n m h i ≡ shift 𝓣 n' m h (next size i)
  unfolding shift
  shift-stays n n' m h i e full t = rw (e, ne_eqb _ _ full, t, shift)

  pub shift-moves : (n n' : ℕ) (m : M) (h i : ℕ) → n ≡ suc n' → get m i ≢ 0 → stays 𝓣 m h i ≡ false
      → shift 𝓣 n m h i ≡ shift 𝓣 n' (put m h (get m i)) i (next size i)
  unfolding shift
  shift-moves n n' m h i e full t = rw (e, ne_eqb _ _ full, t, shift)

module _ {M : Type 0} (𝓣 : Table M) (law : Lawful 𝓣) where
  open 𝓣 use {size, start, get, put}
  open law use {Ok, Fit, start-lt, fit-zero, fit-get, ok-put, other}

  -- m' is m without the number in h: good, and every sum over the slots has 0 in that number's place
  pub record Removed (m : M) (h : ℕ) (m' : M) : Type 0 where
    pub ok : Ok m'
    pub good : Good 𝓣 m'
    pub totals : (f : ℕ → ℕ) → slot_total 𝓣 f m' size + f (get m h) ≡ slot_total 𝓣 f m size + f 0

  emptied : {n : ℕ} {m : M} {h i : ℕ} → Shifting 𝓣 law n m h i → get m i ≡ 0 → Removed m h (put m h 0)
  emptied {n} {m} {h} {i} s z =
      record {
        ok = ok-put m h 0 s.ok s.h-lt fit-zero;
        good = finishes 𝓣 law s z;
        totals = λ f. slot_total-put 𝓣 law f m h 0 s.ok fit-zero s.h-lt;
      }

  -- a removal at the new hole removes what was in the old one
  moved : {n : ℕ} {m m' : M} {h i : ℕ} → Shifting 𝓣 law n m h i → Removed (put m h (get m i)) i m' → Removed m h m'
  moved {n} {m} {m'} {h} {i} s r =
      let eq : get (put m h (get m i)) i ≡ get m i = other m h (get m i) i s.ok s.h-lt s.i_lt (λ q. dist-pos size s.off (sym q)) in
      record {
        ok = r.ok;
        good = r.good;
        totals = λ f. omega (arith, r.totals f, ap f eq, slot_total-put 𝓣 law f m h (get m i) s.ok (fit-get m i s.ok) s.h-lt);
      }

  shifted : (n : ℕ) (m : M) (h i : ℕ) → Shifting 𝓣 law n m h i → Removed m h (shift 𝓣 n m h i)
  shifted zero m h i s = absurd (let l : _ = s.e-fuel in omega arith)
  shifted (suc n) m h i s =
      by-test (empty 𝓣 m i)
      (λ (t : empty 𝓣 m i ≡ true). rw (shift-empty 𝓣 (suc n) m h i (eqb-true _ _ t)) (emptied s (eqb-true _ _ t)))
      (λ (t : empty 𝓣 m i ≡ false).
      by-test (stays 𝓣 m h i)
      (λ (u : stays 𝓣 m h i ≡ true).
      rw (shift-stays 𝓣 (suc n) n m h i refl (eqb-false _ _ t) u)
      (shifted n m h (next size i) (passes 𝓣 law s (eqb-false _ _ t) (ltb-true _ _ (sym back ∙ u)))))
      (λ (u : stays 𝓣 m h i ≡ false).
      rw (shift-moves 𝓣 (suc n) n m h i refl (eqb-false _ _ t) u)
      (moved s (shifted n (put m h (get m i)) i (next size i) (moves 𝓣 law s (eqb-false _ _ t) (ltb-false _ _ (sym back ∙ u)))))))
    where
      back : stays 𝓣 m h i ≡ ltb (dist size (start (get m i)) i) (dist size h i)
      back = stays-is 𝓣 m h i s.h-lt s.i_lt (start-lt _)

  pub removed : (m : M) (h e : ℕ) → Ok m → Good 𝓣 m → h < size → get m h ≢ 0 → Empty 𝓣 m e → Removed m h (remove 𝓣 m h)
  unfolding remove
  removed m h e ok good hh fh em = shifted size m h (next size h) (starts 𝓣 law m h e ok good hh fh em)

  -- what no write of a slot changes, a removal does not change
  module _ (P : M → Type 0) (keeps : (m : M) (j v : ℕ) → Ok m → j < size → Fit v → P m → P (put m j v)) where
    shift-keeps : (n : ℕ) (m : M) (h i : ℕ) → Ok m → h < size → i < size → P m → P (shift 𝓣 n m h i)
    shift-keeps zero m h i ok hh hi p = rw (shift-out 𝓣 zero m h i (omega arith)) (keeps m h 0 ok hh fit-zero p)
    shift-keeps (suc n) m h i ok hh hi p =
        by-test (empty 𝓣 m i)
        (λ (t : empty 𝓣 m i ≡ true). rw (shift-empty 𝓣 (suc n) m h i (eqb-true _ _ t)) (keeps m h 0 ok hh fit-zero p))
        (λ (t : empty 𝓣 m i ≡ false).
        by-test (stays 𝓣 m h i)
        (λ (u : stays 𝓣 m h i ≡ true).
        rw (shift-stays 𝓣 (suc n) n m h i refl (eqb-false _ _ t) u) (shift-keeps n m h (next size i) ok hh (next-lt size hi) p))
        (λ (u : stays 𝓣 m h i ≡ false).
        rw (shift-moves 𝓣 (suc n) n m h i refl (eqb-false _ _ t) u)
        (shift-keeps n (put m h (get m i)) i (next size i) (ok-put m h (get m i) ok hh fit) hi (next-lt size hi) (keeps m h (get m i) ok hh fit p))))
      where
        fit : Fit (get m i)
        fit = fit-get m i ok

    pub remove-keeps : (m : M) (h : ℕ) → Ok m → h < size → P m → P (remove 𝓣 m h)
    unfolding remove
    remove-keeps m h ok hh p = shift-keeps size m h (next size h) ok hh (next-lt size hh) p
