-- Lawful tables: what is put into a slot is what is read there, and no other slot changes. Sums over the slots.
use Prim.Native.Nat.{ℕ, zero, suc, ◌+◌, ◌≤◌, ◌<◌}
use mathlib.Core.Path.{◌≡◌, refl}
use mathlib.Core.Logic.{⊎_elim, ◌≢◌}
use native.Mathlib.Omega.{arith}
use Rattle.lists.specs.Cases.{same_or}
use Rattle.probe.specs.Table.{Table, slot_total}

-- Ok: a state in which the table stands whole. Fit: a number that a slot can hold.
pub record Lawful {M : Type 0} (𝓣 : Table M) : Type 1 where
  pub Ok : M → Type 0
  pub Fit : ℕ → Type 0
  pub two : 1 < 𝓣.size
  pub start-lt : (v : ℕ) → 𝓣.start v < 𝓣.size
  pub fit-zero : Fit 0
  pub fit-get : (m : M) (j : ℕ) → Ok m → Fit (𝓣.get m j)
  pub ok-put : (m : M) (j v : ℕ) → Ok m → j < 𝓣.size → Fit v → Ok (𝓣.put m j v)
  pub same : (m : M) (j v : ℕ) → Ok m → j < 𝓣.size → Fit v → 𝓣.get (𝓣.put m j v) j ≡ v
  pub other : (m : M) (j v k : ℕ) → Ok m → j < 𝓣.size → k < 𝓣.size → k ≢ j → 𝓣.get (𝓣.put m j v) k ≡ 𝓣.get m k

module _ {M : Type 0} (𝓣 : Table M) where
  open 𝓣 use {get}

  -- a sum is at least what one slot adds, and a sum that is not 0 has a slot that adds to it
  pub slot_total-has : (f : ℕ → ℕ) (m : M) (n j : ℕ) → j < n → f (get m j) ≤ slot_total 𝓣 f m n
  unfolding slot_total
  slot_total-has f m zero j l = absurd (omega arith)
  slot_total-has f m (suc n) j l = ⊎_elim (λ (q : j ≡ n). rw q (omega arith)) (λ q. omega (arith, slot_total-has f m n j (omega arith))) (same_or j n)

  pub slot_total-found : (f : ℕ → ℕ) (m : M) (n : ℕ) → 0 < slot_total 𝓣 f m n → (j : ℕ) × (j < n) × (0 < f (get m j))
  unfolding slot_total
  slot_total-found f m zero l = absurd (omega arith)
  slot_total-found f m (suc n) l =
      ⊎_elim
      (λ (z : f (get m n) ≡ 0). let r : _ = slot_total-found f m n (omega arith) in (r.0, omega (arith, r.1), r.2))
      (λ z. (n, omega arith, omega arith))
      (same_or (f (get m n)) 0)

-- two slots add both, and where at most one slot adds the sum is at most 1
module _ {M : Type 0} (𝓣 : Table M) (f : ℕ → ℕ) (m : M) where
  open 𝓣 use {get}

  -- the last slot is one of the two, or neither
  last-two : (n j : ℕ) → j < n → f (get m n) + f (get m j) ≤ slot_total 𝓣 f m (suc n)
  unfolding slot_total
  last-two n j h = omega (arith, slot_total-has 𝓣 f m n j h)

  pub slot_total-two : (n j k : ℕ) → j < n → k < n → j ≢ k → f (get m j) + f (get m k) ≤ slot_total 𝓣 f m n
  unfolding slot_total
  slot_total-two zero j k hj hk ne = absurd (omega arith)
  slot_total-two (suc n) j k hj hk ne =
      ⊎_elim
      (λ (a : j ≡ n). rw a (last-two n k (omega arith)))
      (λ (a : j ≢ n).
      ⊎_elim
      (λ (b : k ≡ n). rw b (omega (arith, last-two n j (omega arith))))
      (λ (b : k ≢ n). omega (arith, slot_total-two n j k (omega arith) (omega arith) ne))
      (same_or k n))
      (same_or j n)

  pub slot_total-once : (n : ℕ) → ((x : ℕ) → f x ≤ 1) → ((j k : ℕ) → j < n → k < n → 0 < f (get m j) → 0 < f (get m k) → j ≡ k)
      → slot_total 𝓣 f m n ≤ 1
  unfolding slot_total
  slot_total-once zero small one = omega arith
  slot_total-once (suc n) small one =
      ⊎_elim
      (λ (a : f (get m n) ≡ 0). omega (arith, slot_total-once n small (λ j k hj hk. one j k (omega arith) (omega arith))))
      (λ (a : f (get m n) ≢ 0).
      ⊎_elim
      (λ (b : slot_total 𝓣 f m n ≡ 0). omega (arith, small (get m n)))
      (λ (b : slot_total 𝓣 f m n ≢ 0).
      let r : (j : ℕ) × (j < n) × (0 < f (get m j)) = slot_total-found 𝓣 f m n (omega arith) in
      absurd (omega (arith, one r.0 n (omega (arith, r.1)) (omega arith) r.2 (omega arith), r.1)))
      (same_or (slot_total 𝓣 f m n) 0))
      (same_or (f (get m n)) 0)

module _ {M : Type 0} (𝓣 : Table M) (law : Lawful 𝓣) where
  open 𝓣 use {size, get, put}
  open law use {Ok, Fit, same, other}

  slot_total-out : (f : ℕ → ℕ) (m : M) (j v n : ℕ) → Ok m → j < size → n ≤ j → slot_total 𝓣 f (put m j v) n ≡ slot_total 𝓣 f m n
  unfolding slot_total
  slot_total-out f m j v zero ok h l = refl
  slot_total-out f m j v (suc n) ok h l = rw (other m j v n ok h (omega arith) (omega arith), slot_total-out f m j v n ok h (omega arith))

  slot_total_in : (f : ℕ → ℕ) (m : M) (j v n : ℕ) → Ok m → Fit v → n ≤ size → j < n
      → slot_total 𝓣 f (put m j v) n + f (get m j) ≡ slot_total 𝓣 f m n + f v
  unfolding slot_total
  slot_total_in f m j v zero ok fit l h = omega arith
  slot_total_in f m j v (suc n) ok fit l h =
      ⊎_elim
      (λ (e : n ≡ j). rw (e, same m j v ok (omega arith) fit, slot_total-out f m j v j ok (omega arith) (omega arith)) (omega arith))
      (λ e. rw (other m j v n ok (omega arith) (omega arith) e) (omega (arith, slot_total_in f m j v n ok fit (omega arith) (omega arith))))
      (same_or n j)

  -- a put adds what the new number adds, and takes what the old one added
  pub slot_total-put : (f : ℕ → ℕ) (m : M) (j v : ℕ) → Ok m → Fit v → j < size
      → slot_total 𝓣 f (put m j v) size + f (get m j) ≡ slot_total 𝓣 f m size + f v
  slot_total-put f m j v ok fit h = slot_total_in f m j v size ok fit (omega arith) h
