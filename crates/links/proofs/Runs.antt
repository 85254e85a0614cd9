-- Runs: taken apart, looked at place by place, and carried over to another `next`.
use Prim.Native.Nat.{ℕ, zero, suc, ◌-◌, ◌≤◌, ◌<◌}
use mathlib.Core.List.Memᴰ
use mathlib.Core.List.{List, [], ◌∷◌, ◌++◌}
use mathlib.Core.Path.{◌≡◌, refl, ap, sym, ◌∙◌}
use mathlib.Core.Logic.{⊎_elim, ◌≢◌}
use native.Mathlib.Omega.{arith}
use lib.ListN.{length, get_or}
use Rattle.lists.specs.Quantify.{Every}
use Rattle.links.specs.Links.{Run, stop, step, Linked}

module _ {next : ℕ → ℕ} where
  pub run-from : {t v u : ℕ} {l : List ℕ} → t ≡ v → Run next v l u → Run next t l u
  run-from q (stop e) = stop (q ∙ e)
  run-from q (step e n r) = step (q ∙ e) n r

  -- what is met from a member on
  pub run-after : {t v u : ℕ} (xs : List ℕ) {ys : List ℕ} → Run next t (xs ++ (v ∷ ys)) u → Run next v (v ∷ ys) u
  run-after [] (step e n r) = step refl n r
  run-after {t = t} (x ∷ xs) (step e n r) = run-after {t = next x} xs r

  pub run-positive : {t u : ℕ} {l : List ℕ} → Run next t l u → Every l (λ x. x ≢ 0)
  run-positive (stop e) y m = absurd (Memᴰ.not-nil m)
  run-positive (step e n r) y m = ⊎_elim (λ q. rw q n) (λ k. run-positive r y k) (Memᴰ.cases_cons m)

  -- a list starts at 0 or at a member
  pub linked-start : {t n : ℕ} {l : List ℕ} → Linked next t l → Every l (λ x. x ≤ n) → t ≤ n
  linked-start (stop e) f = omega (arith, e)
  linked-start {n = n} (step {x = x} e k r) f = let low : x ≤ n = f x (Memᴰ.head refl) in omega (arith, e)

  -- ---- place by place

  pub run-first : {t u : ℕ} {l : List ℕ} → Run next t l u → 0 < length l → get_or l 0 0 ≡ t
  run-first (stop e) k = absurd (omega arith)
  run-first (step e n r) k = sym e

  pub run-next : {t u : ℕ} {l : List ℕ} (i : ℕ) → Run next t l u → suc i < length l → get_or l (suc i) 0 ≡ next (get_or l i 0)
  run-next i (stop e) k = absurd (omega arith)
  run-next zero (step e n r) k = run-first r (omega arith)
  run-next (suc i) (step e n r) k = run-next i r (omega arith)

  -- after the last comes what is met after the run
  pub run-last : {t u : ℕ} {l : List ℕ} → Run next t l u → 0 < length l → next (get_or l (length l - 1) 0) ≡ u
  run-last (stop e) k = absurd (omega arith)
  run-last (step e n (stop q)) k = q
  run-last (step e n (step {l = l} d m r)) k =
      let far : suc (suc (length l)) - 1 ≡ suc (suc (length l) - 1) = omega arith in
      rw far (run-last (step d m r) (omega arith))

  -- ---- only one list is linked from t on

  pub linked-unique : {t v : ℕ} {l k : List ℕ} → t ≡ v → Linked next t l → Linked next v k → l ≡ k
  linked-unique q (stop e) (stop d) = refl
  linked-unique q (stop e) (step d n s) = absurd (n (sym d ∙ sym q ∙ e))
  linked-unique q (step e n r) (stop d) = absurd (n (sym e ∙ q ∙ d))
  linked-unique q (step {x = x} {l = l} e n r) (step {x = y} {l = k} d m s) =
      let here : x ≡ y = sym e ∙ q ∙ d in
      let rest : l ≡ k = linked-unique (ap next here) r s in
      cc

-- ---- where the links of the numbers that are met agree, the same numbers are met

pub run-same : {next next' : ℕ → ℕ} {t u : ℕ} {l : List ℕ} → Every l (λ x. next' x ≡ next x) → Run next t l u → Run next' t l u
run-same f (stop e) = stop e
run-same f (step {x = x} e n r) = step e n (run-from (f x (Memᴰ.head refl)) (run-same (λ y m. f y (Memᴰ.tail m)) r))
