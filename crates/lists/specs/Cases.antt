-- A test taken apart, with what it tells; two numbers compared.
use Rattle.std.specs.Prelude.{ℕ, ◌≤◌, ◌<◌, ◌≡◌, refl, ◌⊎◌, ◌≢◌, Bool, true, false, ◌||◌, ltb, eqb}
use Rattle.std.proofs.Common.{inl, inr, true≢false, ltb-true, ltb-false, eqb-true}
use Rattle.std.proofs.lemmas.Bool.{eqb-false}

pub by-test {ℓ} : {P : Type ℓ} (b : Bool) → (b ≡ true → P) → (b ≡ false → P) → P
by-test true f g = f refl
by-test false f g = g refl

-- one of two tests holds; both fail
pub one_of : (a b : Bool) → a || b ≡ true → (a ≡ true) ⊎ (b ≡ true)
one_of true b e = inl refl
one_of false b e = inr e

pub neither : (a b : Bool) → a || b ≡ false → (a ≡ false) × (b ≡ false)
neither true b e = absurd (true≢false e)
neither false b e = (refl, e)

pub lt-or : (i j : ℕ) → (i < j) ⊎ (j ≤ i)
lt-or i j = by-test (ltb i j) (λ t. inl (ltb-true i j t)) (λ t. inr (ltb-false i j t))

pub same_or : (i j : ℕ) → (i ≡ j) ⊎ (i ≢ j)
same_or i j = by-test (eqb i j) (λ t. inl (eqb-true i j t)) (λ t. inr (eqb-false i j t))
