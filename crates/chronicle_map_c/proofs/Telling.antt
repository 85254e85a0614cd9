-- The numbers of an answer, once the code knows which it is.
use Prim.Native.Nat.{ℕ}
use mathlib.Core.List.{List, ◌∷◌}
use mathlib.Core.Path.{◌≡◌, ap, sym, ◌∙◌}
use Rattle.std.specs.Prelude.{Result, Ok, Err, MatchResult}
use Rattle.chronicle_map.specs.declared.EditError.{EditError}
use Rattle.chronicle_map.specs.Calls.{Edited, error_number, answer_number}
use Rattle.pairs.specs.Delays.{SetAnswer, Setting, set_error_number, set_number}

-- the answer r is due to be x, and was found to be y
module _ {A B : Type 0} (numbers : A → B) {r x y : A} (found : r ≡ y) (due : r ≡ x) where
  pub told : numbers y ≡ numbers x
  told = ap numbers (sym found ∙ due)

  -- with a part of it worked out by a call
  pub told_part : {P : Type 0} (whole : P → B) {p q : P} → numbers y ≡ whole q → p ≡ q → whole p ≡ numbers x
  told_part whole shape e = ap whole e ∙ sym shape ∙ told

-- with its first number worked out by a call
pub told-first : {A : Type 0} (numbers : A → List ℕ) {r x y : A} → r ≡ y → r ≡ x → {n m : ℕ} {rest : List ℕ} → numbers y ≡ m ∷ rest → n ≡ m
    → n ∷ rest ≡ numbers x
told-first numbers found due {rest = rest} shape e = told_part numbers found due (λ (k : ℕ). k ∷ rest) shape e

-- an edit's number, and the image as it left it
module _ {X : Type 0} (number : X → ℕ) (image : X → List ℕ) where
  left : {n : ℕ} {y x : X} → n ≡ number y → y ≡ x → (n ≡ number x) × (image y ≡ image x)
  left e due = (e ∙ ap number due, ap image due)

answer_is : {n : ℕ} (r : Result (Unit {0}) EditError) → MatchResult r (λ _. n ≡ 0) (λ e. n ≡ error_number e) → n ≡ answer_number r
answer_is (Ok _) m = m
answer_is (Err e) m = m

set_is : {n : ℕ} (r : SetAnswer) → MatchResult r (λ _. n ≡ 0) (λ e. n ≡ set_error_number e) → n ≡ set_number r
set_is (Ok _) m = m
set_is (Err e) m = m

pub edited : {n : ℕ} {r : Result (Unit {0}) EditError} {img : List ℕ} {x : Edited} → MatchResult r (λ _. n ≡ 0) (λ e. n ≡ error_number e)
    → record { answer = r; image = img } ≡ x → (n ≡ answer_number x.answer) × (img ≡ x.image)
edited {r = r} m due = left (λ (y : Edited). answer_number y.answer) (λ (y : Edited). y.image) (answer_is r m) due

pub delay-set : {n : ℕ} {r : SetAnswer} {img : List ℕ} {x : Setting} → MatchResult r (λ _. n ≡ 0) (λ e. n ≡ set_error_number e)
    → record { answer = r; image = img } ≡ x → (n ≡ set_number x.answer) × (img ≡ x.image)
delay-set {r = r} m due = left (λ (y : Setting). set_number y.answer) (λ (y : Setting). y.image) (set_is r m) due
