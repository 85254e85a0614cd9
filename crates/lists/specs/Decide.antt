-- Decisions: a `yes` comes with what holds, a `no` with its refutation. Each computes.
use Rattle.std.specs.Prelude.{ℕ, zero, suc, ◌<◌, ◌≡◌, ◌⊎◌, ◌≢◌, Bool, true, false}
use Rattle.std.proofs.Common.{subst, inl, inr, ⊎_elim, arith}
use Rattle.lists.specs.Cases.{same_or}

-- a test that says whether P holds
abbrev pub Decides : Bool → Type 0 → Type 0
Decides true P = P
Decides false P = P → ⊥

-- both, the second looked at only where the first holds
unfoldable pub both : {A B : Type 0} → Dec A → (A → Dec B) → Dec (A × B)
both (no n) f = no (λ p. n p.0)
both (yes a) f = elim (f a) [ yes b ↦ yes (a, b) | no n ↦ no (λ p. n p.1) ]

unfoldable pub either : {A B : Type 0} → Dec A → Dec B → Dec (A ⊎ B)
either (yes a) d = yes (inl a)
either (no n) (yes b) = yes (inr b)
either (no n) (no m) = no (⊎_elim n m)

-- where the first holds, the second does
unfoldable pub implied : {A B : Type 0} → Dec A → (A → Dec B) → Dec (A → B)
implied (no n) f = yes (λ a. absurd (n a))
implied (yes a) f = elim (f a) [ yes b ↦ yes (λ _. b) | no n ↦ no (λ g. n (g a)) ]

-- it does not hold
unfoldable pub refuted : {A : Type 0} → Dec A → Dec (A → ⊥)
refuted (no n) = yes n
refuted (yes a) = no (λ f. f a)

-- one answer where it does not hold, another where it does; only the one that is taken is computed
unfoldable pub choose : {A B : Type 0} → Dec A → (Unit {0} → B) → (Unit {0} → B) → B
choose (no _) f g = f tt
choose (yes _) f g = g tt

-- some number below n
unfoldable pub some_below : (P : ℕ → Type 0) → ((k : ℕ) → Dec (P k)) → (n : ℕ) → Dec ((k : ℕ) × ((k < n) × P k))
some_below P d zero = no (λ q. let h : q.0 < 0 = q.1.0 in omega arith)
some_below P d (suc n) =
    elim (some_below P d n) [
      | yes p ↦ yes (p.0, (omega arith, p.1.1))
      | no h ↦ elim (d n) [
        | yes p ↦ yes (n, (omega arith, p))
        | no g ↦ no (λ q. ⊎_elim (λ (e : q.0 ≡ n). g (subst P e q.1.1)) (λ (e : q.0 ≢ n). h (q.0, (omega arith, q.1.1))) (same_or q.0 n))
      ]
    ]

-- one rule of several: where it is broken so is the whole, and where it holds the others decide
unfoldable pub rule : {A B : Type 0} → (A → B) → Dec B → (B → Dec A) → Dec A
rule part (no n) others = no (λ v. n (part v))
rule part (yes a) others = others a
