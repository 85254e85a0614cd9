-- From a test to what it decides, and back; the answer that a decision takes.
use Prim.Native.Nat.{ℕ}
use mathlib.Core.Path.{◌≡◌, refl, sym, subst}
use mathlib.Core.Bool.{Bool, true, false}
use lib.Dec.{eqb}
use borrow.Author.Tests.{eqb-true, eqb-false}
use Rattle.lists.specs.Cases.{by-test}
use Rattle.lists.specs.Decide.{Decides, choose}

module _ {P : Type 0} (b : Bool) where
  pub decides : (b ≡ true → P) → (b ≡ false → P → ⊥) → Decides b P
  decides f g =
      by-test b (λ (t : b ≡ true). subst (λ (x : Bool). Decides x P) (sym t) (f t))
      (λ (t : b ≡ false). subst (λ (x : Bool). Decides x P) (sym t) (g t))

  pub decided_true : Decides b P → b ≡ true → P
  decided_true d t = subst (λ (x : Bool). Decides x P) t d

  pub decided-false : Decides b P → b ≡ false → P → ⊥
  decided-false d t = subst (λ (x : Bool). Decides x P) t d

module _ {P : Type 0} (m n : ℕ) where
  pub decides_eq : (m ≡ n → P) → (P → m ≡ n) → Decides (eqb m n) P
  decides_eq f g = decides (eqb m n) (λ t. f (eqb-true m n t)) (λ t p. eqb-false m n t (g p))

-- ---- the answer that a decision takes

module _ {A B : Type 0} (d : Dec A) (f g : Unit {0} → B) where
  pub choose-by : (P : B → Type 0) → ((A → ⊥) → P (f tt)) → (A → P (g tt)) → P (choose d f g)
  unfolding choose
  choose-by P n y = elim d as (λ k. P (choose k f g)) [ no h ↦ n h | yes a ↦ y a ]

  pub choose_no : (A → ⊥) → choose d f g ≡ f tt
  choose_no n = choose-by (λ x. x ≡ f tt) (λ _. refl) (λ a. absurd (n a))

  pub choose_yes : A → choose d f g ≡ g tt
  choose_yes a = choose-by (λ x. x ≡ g tt) (λ n. absurd (n a)) (λ _. refl)
