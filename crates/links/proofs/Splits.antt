-- A list split at one of its members.
use Prim.Native.Nat.{ℕ, suc}
use mathlib.Core.List.Memᴰ
use mathlib.Core.List.{List, [], ◌∷◌, ◌++◌, Memᴰ}
use mathlib.Core.Path.{◌≡◌, ap, sym}
use mathlib.Core.Logic.{⊎_elim, ◌≢◌}
use native.Mathlib.Omega.{arith}
use lib.ListN.{length, length-append}

pub record Splits (t : ℕ) (l : List ℕ) : Type 0 where
  pub before : List ℕ
  pub after : List ℕ
  pub is : l ≡ before ++ (t ∷ after)

pub member-splits : {t : ℕ} {l : List ℕ} → Memᴰ t l → Splits t l
member-splits (Memᴰ.head {xs = l} e) = record { before = []; after = l; is = ap (λ (y : ℕ). y ∷ l) (sym e) }
member-splits {t} (Memᴰ.tail {x = y} {xs = l} m) =
    let s : Splits t l = member-splits m in
    record { before = y ∷ s.before; after = s.after; is = ap (λ (k : List ℕ). y ∷ k) s.is }

module _ (t : ℕ) (xs ys : List ℕ) where
  -- the others stay where t is taken out
  pub member-without : {x : ℕ} → x ≢ t → Memᴰ x (xs ++ (t ∷ ys)) → Memᴰ x (xs ++ ys)
  member-without ne m =
      ⊎_elim
      (λ k. Memᴰ.append_left ys k)
      (λ k. ⊎_elim (λ q. absurd (ne q)) (λ w. Memᴰ.append_right xs w) (Memᴰ.cases_cons k))
      (Memᴰ.append_cases xs m)

  -- and no other comes
  pub member-with : {x : ℕ} → Memᴰ x (xs ++ ys) → Memᴰ x (xs ++ (t ∷ ys))
  member-with m =
      ⊎_elim (λ k. Memᴰ.append_left (t ∷ ys) k) (λ k. Memᴰ.append_right xs (Memᴰ.tail k)) (Memᴰ.append_cases xs m)

  pub length_without : length (xs ++ (t ∷ ys)) ≡ suc (length (xs ++ ys))
  length_without = omega (arith, length-append xs ys, length-append xs (t ∷ ys))
