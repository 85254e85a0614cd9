-- Following the links: one by one, and that what is followed is what is linked, where there is enough to follow.
use Prim.Native.Nat.{ℕ, zero, suc, ◌≤◌}
use mathlib.Core.List.{List, [], ◌∷◌, ◌++◌, Memᴰ}
use mathlib.Core.Path.{◌≡◌, refl, ap, ◌∙◌}
use mathlib.Core.Logic.{⊎_elim, ◌≢◌}
use native.Mathlib.Omega.{arith}
use lib.ListN.{length}
use borrow.Author.Tests.{ne_eqb}
use Rattle.lists.specs.Cases.{same_or}
use Rattle.lists.specs.Lists.{span}
use Rattle.lists.specs.Quantify.{Every}
use Rattle.lists.proofs.Lists.{in_span, length-span}
use Rattle.links.specs.Links.{follow, end_of, Run, stop, step, Linked}
use Rattle.links.proofs.Splits.{Splits, member-splits, member-without, length_without}
use Rattle.links.proofs.Runs.{run-positive}
use Rattle.links.proofs.Once.{first-apart}

module _ (next : ℕ → ℕ) where
  -- ---- at the end, one more, and with nothing left to follow

  pub follow-none : (n : ℕ) → follow next n 0 ≡ []
  unfolding follow
  follow-none zero = refl
  follow-none (suc n) = refl

  pub follow-more : (n t : ℕ) → t ≢ 0 → follow next (suc n) t ≡ t ∷ follow next n (next t)
  unfolding follow
  follow-more n t h = rw (ne_eqb t 0 h, follow)

  pub follow-out : (t : ℕ) → follow next 0 t ≡ []
  unfolding follow
  follow-out t = refl

  pub end_none : (n : ℕ) → end_of next n 0 ≡ 0
  unfolding end_of
  end_none zero = refl
  end_none (suc n) = refl

  pub end_more : (n t : ℕ) → t ≢ 0 → end_of next (suc n) t ≡ end_of next n (next t)
  unfolding end_of
  end_more n t h = rw (ne_eqb t 0 h, end_of)

  pub end-out : (t : ℕ) → end_of next 0 t ≡ t
  unfolding end_of
  end-out t = refl

  pub length-follow : (n t : ℕ) → length (follow next n t) ≤ n
  unfolding follow
  length-follow zero t = omega arith
  length-follow (suc n) t =
      ⊎_elim
      (λ (q : t ≡ 0). rw q (omega arith))
      (λ (q : t ≢ 0). rw (follow-more n t q) (omega (arith, length-follow n (next t))))
      (same_or t 0)

  -- ---- what is followed is a run, and linked where it ends

  pub run-follow : (n t : ℕ) → Run next t (follow next n t) (end_of next n t)
  unfolding follow end_of
  run-follow zero t = stop refl
  run-follow (suc n) t =
      ⊎_elim
      (λ (q : t ≡ 0). rw q (stop refl))
      (λ (q : t ≢ 0). rw (follow-more n t q, end_more n t q) (step refl q (run-follow n (next t))))
      (same_or t 0)

  pub linked-follow : (n t : ℕ) → end_of next n t ≡ 0 → Linked next t (follow next n t)
  linked-follow n t e = rw e at (run-follow n t)

module _ {next : ℕ → ℕ} where
  -- ---- and what is linked is followed

  pub follow-enough : {t : ℕ} {l : List ℕ} (n : ℕ) → Linked next t l → length l ≤ n → follow next n t ≡ l
  follow-enough n (stop e) h = rw e (follow-none next n)
  follow-enough zero (step e k r) h = absurd (omega arith)
  follow-enough (suc n) (step {x = x} e k r) h =
      rw e (follow-more next n x k ∙ ap (λ (q : List ℕ). x ∷ q) (follow-enough n r (omega arith)))

  end-enough : {t : ℕ} {l : List ℕ} (n : ℕ) → Linked next t l → length l ≤ n → end_of next n t ≡ 0
  end-enough n (stop e) h = rw e (end_none next n)
  end-enough zero (step e k r) h = absurd (omega arith)
  end-enough (suc n) (step {x = x} e k r) h = rw e (end_more next n x k ∙ end-enough n r (omega arith))

  -- ---- how much is enough: a linked list is no longer than a list that has all its numbers

  length-within : {t : ℕ} {l : List ℕ} (ys : List ℕ) → Linked next t l → Every l (λ x. Memᴰ x ys) → length l ≤ length ys
  length-within ys (stop e) f = omega arith
  length-within ys (step {x = x} {l = l} e n r) f =
      let s : Splits x ys = member-splits (f x (mathlib.Core.List.Memᴰ.head refl)) in
      let others : Every l (λ y. Memᴰ y (s.before ++ s.after)) =
      λ y m. member-without x s.before s.after (first-apart (step e n r) y m) (rw s.is at (f y (mathlib.Core.List.Memᴰ.tail m))) in
      omega (
        arith,
        length-within (s.before ++ s.after) r others,
        ap length s.is,
        length_without x s.before s.after,
      )

  length-linked : {t : ℕ} {l : List ℕ} (n : ℕ) → Linked next t l → Every l (λ x. x ≤ n) → length l ≤ n
  length-linked {l = l} n r f =
      let row : Every l (λ x. Memᴰ x (span 1 n)) = λ x k.
      let low : x ≤ n = f x k in
      let some : x ≢ 0 = run-positive r x k in
      in_span 1 n x (omega arith) (omega arith) in
      omega (arith, length-within (span 1 n) r row, length-span 1 n)

  -- so n is enough for numbers up to n
  pub follow-linked : {t : ℕ} {l : List ℕ} (n : ℕ) → Linked next t l → Every l (λ x. x ≤ n) → follow next n t ≡ l
  follow-linked n r f = follow-enough n r (length-linked n r f)

  pub end-linked : {t : ℕ} {l : List ℕ} (n : ℕ) → Linked next t l → Every l (λ x. x ≤ n) → end_of next n t ≡ 0
  end-linked n r f = end-enough n r (length-linked n r f)
