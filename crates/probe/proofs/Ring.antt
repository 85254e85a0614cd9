-- Laws of the ring. The slot k lies on the stretch from a up to and including j where dist C a k ≤ dist C a j.
use Prim.Native.Nat.{ℕ, suc, ◌+◌, ◌-◌, ◌≤◌, ◌<◌}
use mathlib.Core.Path.{◌≡◌}
use mathlib.Core.Logic.{◌⊎◌, inl, inr, ⊎_elim, ◌≢◌, ◌↔◌}
use native.Mathlib.Omega.{arith}
use lib.Dec.{leb, ltb}
use borrow.Author.Tests.{leb-true, leb-false, ltb-true, ltb-false}
use Rattle.lists.specs.Cases.{by-test}
use Rattle.probe.specs.Ring.{next, dist}

-- ---- the two cases of each

abbrev Next : ℕ → ℕ → Type 0
Next C i = ((suc i < C) × (next C i ≡ suc i)) ⊎ ((C ≤ suc i) × (next C i ≡ 0))

next-is : (C i : ℕ) → Next C i
unfolding next
next-is C i = by-test (ltb (suc i) C) (λ e. inl (ltb-true _ _ e, rw (e, next))) (λ e. inr (ltb-false _ _ e, rw (e, next)))

abbrev Dist : ℕ → ℕ → ℕ → Type 0
Dist C a b = ((a ≤ b) × (dist C a b ≡ b - a)) ⊎ ((b < a) × (dist C a b ≡ b + C - a))

dist-is : (C a b : ℕ) → Dist C a b
unfolding dist
dist-is C a b = by-test (leb a b) (λ e. inl (leb-true _ _ e, rw (e, dist))) (λ e. inr (leb-false _ _ e, rw (e, dist)))

pub next_up : (C i : ℕ) → i + 1 < C → next C i ≡ i + 1
next_up C i h = ⊎_elim (λ s. omega arith) (λ s. omega arith) (next-is C i)

pub next-wrap : (C i : ℕ) → C ≤ i + 1 → next C i ≡ 0
next-wrap C i h = ⊎_elim (λ s. omega arith) (λ s. omega arith) (next-is C i)

pub dist-up : (C a b : ℕ) → a ≤ b → dist C a b ≡ b - a
dist-up C a b h = ⊎_elim (λ s. omega arith) (λ s. omega arith) (dist-is C a b)

pub dist-wrap : (C a b : ℕ) → b < a → dist C a b ≡ b + C - a
dist-wrap C a b h = ⊎_elim (λ s. omega arith) (λ s. omega arith) (dist-is C a b)

module _ (C : ℕ) where
  -- ---- one slot, and two

  pub next-lt : {i : ℕ} → i < C → next C i < C
  next-lt {i} h = ⊎_elim (λ s. omega arith) (λ s. omega arith) (next-is C i)

  pub dist-lt : {a b : ℕ} → a < C → b < C → dist C a b < C
  dist-lt {a} {b} ha hb = ⊎_elim (λ s. omega arith) (λ s. omega arith) (dist-is C a b)

  pub dist-self : (a : ℕ) → dist C a a ≡ 0
  dist-self a = ⊎_elim (λ s. omega arith) (λ s. omega arith) (dist-is C a a)

  pub dist-zero : {a b : ℕ} → a < C → b < C → dist C a b ≡ 0 → a ≡ b
  dist-zero {a} {b} ha hb e = ⊎_elim (λ s. omega arith) (λ s. omega arith) (dist-is C a b)

  pub dist-apart : {a b : ℕ} → a < C → b < C → a ≢ b → 0 < dist C a b
  dist-apart {a} {b} ha hb ne = let z : dist C a b ≢ 0 = λ e. ne (dist-zero ha hb e) in omega arith

  pub dist-pos : {a b : ℕ} → 0 < dist C a b → a ≢ b
  dist-pos {a} {b} l e = let d : dist C a b ≡ 0 = rw e (dist-self b) in omega arith

  pub dist-next : {i : ℕ} → i < C → 1 < C → dist C i (next C i) ≡ 1
  dist-next {i} h two = go (next-is C i) (dist-is C i (next C i))
    where
      go : Next C i → Dist C i (next C i) → dist C i (next C i) ≡ 1
      go (inl p) (inl q) = omega arith
      go (inl p) (inr q) = omega arith
      go (inr p) (inl q) = omega arith
      go (inr p) (inr q) = omega arith

  -- ---- two stretches, the second from where the first ends

  abbrev Sum : ℕ → ℕ → ℕ → Type 0
  Sum a b c = (dist C a b + dist C b c ≡ dist C a c) ⊎ (dist C a b + dist C b c ≡ dist C a c + C)

  dist-sum : {a b c : ℕ} → a < C → b < C → c < C → Sum a b c
  dist-sum {a} {b} {c} ha hb hc = go (dist-is C a b) (dist-is C b c) (dist-is C a c)
    where
      go : Dist C a b → Dist C b c → Dist C a c → Sum a b c
      go (inl p) (inl q) (inl r) = inl (omega arith)
      go (inl p) (inl q) (inr r) = inl (omega arith)
      go (inl p) (inr q) (inl r) = inr (omega arith)
      go (inl p) (inr q) (inr r) = inl (omega arith)
      go (inr p) (inl q) (inl r) = inr (omega arith)
      go (inr p) (inl q) (inr r) = inl (omega arith)
      go (inr p) (inr q) (inl r) = inl (omega arith)
      go (inr p) (inr q) (inr r) = inr (omega arith)

  -- they do not go all the way round
  pub dist-add : {a b c : ℕ} → a < C → b < C → c < C → dist C a b + dist C b c < C → dist C a c ≡ dist C a b + dist C b c
  dist-add ha hb hc l = ⊎_elim (λ s. omega arith) (λ s. omega arith) (dist-sum ha hb hc)

  -- b is on the stretch from a to c, as seen from a, and as seen from c
  pub dist-sub : {a b c : ℕ} → a < C → b < C → c < C → dist C a b ≤ dist C a c → dist C a c ≡ dist C a b + dist C b c
  dist-sub ha hb hc l = let t : _ = dist-lt hb hc in ⊎_elim (λ s. omega arith) (λ s. omega arith) (dist-sum ha hb hc)

  pub dist-back : {a b c : ℕ} → a < C → b < C → c < C → dist C b c ≤ dist C a c → dist C a c ≡ dist C a b + dist C b c
  dist-back ha hb hc l = let t : _ = dist-lt ha hb in ⊎_elim (λ s. omega arith) (λ s. omega arith) (dist-sum ha hb hc)

  -- the same distance from a is the same slot
  pub dist-inj : {a b c : ℕ} → a < C → b < C → c < C → dist C a b ≡ dist C a c → b ≡ c
  dist-inj ha hb hc e = dist-zero hb hc (omega (arith, dist-sub ha hb hc (omega arith)))

  -- b is on the stretch from a to c, and i on the one from b to c: then i is on the one from a to c
  pub dist-through : {a b c i : ℕ} → a < C → b < C → c < C → i < C → dist C a b ≤ dist C a c → dist C b i ≤ dist C b c
      → dist C a i ≤ dist C a c
  dist-through ha hb hc hi l r =
      let s : _ = dist-sub ha hb hc l in
      let t : _ = dist-lt ha hc in
      omega (arith, dist-add ha hb hi (omega arith))

  -- one slot further from a
  pub dist-further : {a i : ℕ} → a < C → i < C → 1 < C → suc (dist C a i) < C → dist C a (next C i) ≡ suc (dist C a i)
  dist-further ha hi two l = let n : _ = dist-next hi two in omega (arith, dist-add ha hi (next-lt hi) (omega arith))

  -- one slot nearer to b
  pub dist-nearer : {i b : ℕ} → i < C → b < C → 1 < C → i ≢ b → dist C i b ≡ suc (dist C (next C i) b)
  dist-nearer hi hb two ne =
      let n : _ = dist-next hi two in
      let p : _ = dist-apart hi hb ne in
      omega (arith, dist-sub hi (next-lt hi) hb (omega arith))

  -- x is on the stretch after h up to and including i, as seen from h, and as seen from i
  pub after-hole : {h x i : ℕ} → h < C → x < C → i < C → ((0 < dist C h x) × (dist C h x ≤ dist C h i)) ↔ (dist C x i < dist C h i)
  after-hole hh hx hi =
      (λ s. omega (arith, dist-sub hh hx hi s.1), λ l. let b : _ = dist-back hh hx hi (omega arith) in omega arith)
