-- Linked lists after an edit of the links: at the end, in front, in the middle.
use Prim.Native.Nat.{ℕ, zero, suc, ◌+◌}
use mathlib.Core.List.{List, [], ◌∷◌, ◌++◌, append-nil, append_cancel_right, Memᴰ}
use mathlib.Core.Path.{◌≡◌, refl, ap, sym}
use mathlib.Core.Logic.{⊎_elim, ◌≢◌}
use native.Mathlib.Omega.{arith}
use native.Mathlib.Nat.{add-zero}
use Rattle.lists.specs.Cases.{same_or}
use Rattle.lists.specs.Lists.{span}
use Rattle.lists.specs.Quantify.{Below, Every}
use Rattle.links.specs.Links.{Linked, stop, step}
use Rattle.links.proofs.Runs.{run-from, run-after, linked-unique, run-same}
use Rattle.links.proofs.Once.{first-apart, linked-apart}

module _ {next : ℕ → ℕ} where
  -- one number alone
  pub linked-one : {t : ℕ} → t ≢ 0 → next t ≡ 0 → Linked next t (t ∷ [])
  linked-one n e = step refl n (stop e)

  -- numbers in a row, each linked to the one after it, and the last to the head of a list
  pub linked-block : {h : ℕ} {l : List ℕ} (a k : ℕ) → a ≢ 0 → Below k (λ i. next (a + i) ≡ suc (a + i)) → next (a + k) ≡ h
      → Linked next h l → Linked next a (span a (suc k) ++ l)
  unfolding span
  linked-block {h} a zero n f e r = let here : next a ≡ h = rw add-zero at e in step refl n (run-from here r)
  linked-block a (suc k) n f e r =
      let here : next a ≡ suc a = rw add-zero at (f 0 (omega arith)) in
      let later : (i : ℕ) → suc a + i ≡ a + suc i = λ i. omega arith in
      step refl n
      (run-from here (linked-block (suc a) k (omega arith) (λ i h. rw (later i) (f (suc i) (omega arith))) (rw (later k) e) r))

module _ {next next' : ℕ → ℕ} where
  -- ---- one link changed, that of the last of xs: zs is what comes after it now

  relink : {h p : ℕ} (xs : List ℕ) {ys zs : List ℕ} → Linked next h (xs ++ ys) → Memᴰ p xs → Linked next (next p) ys
      → Every xs (λ u. u ≢ p → next' u ≡ next u) → Linked next' (next' p) zs → Linked next' h (xs ++ zs)
  relink [] r m s f z = absurd (mathlib.Core.List.Memᴰ.not-nil m)
  relink {h = h} {p = p} (x ∷ xs) {ys} (step e n r) m s f z =
      ⊎_elim
      (λ (c : x ≡ p).
      let last : xs ≡ [] = append_cancel_right xs [] ys (linked-unique (ap next c) r s) in
      step e n (rw last (run-from (ap next' c) z)))
      (λ (c : x ≢ p).
      let k : Memᴰ p xs = ⊎_elim (λ q. absurd (c (sym q))) (λ w. w) (mathlib.Core.List.Memᴰ.cases_cons m) in
      step e n (run-from (f x (mathlib.Core.List.Memᴰ.head refl) c) (relink {h = next x} xs r k s (λ u w. f u (mathlib.Core.List.Memᴰ.tail w)) z)))
      (same_or x p)

  -- ---- a list after p, which was the last

  pub linked-append : {h p t : ℕ} {l zs : List ℕ} → Linked next h l → Memᴰ p l → next p ≡ 0
      → Every l (λ u. u ≢ p → next' u ≡ next u) → next' p ≡ t → Linked next' t zs → Linked next' h (l ++ zs)
  linked-append {l = l} r m q f e z = relink l (rw append-nil r) m (stop q) f (run-from e z)

  -- ---- t in front

  pub linked-front : {h t : ℕ} {l : List ℕ} → Linked next h l → Every l (λ u. u ≢ t) → Every l (λ u. u ≢ t → next' u ≡ next u)
      → t ≢ 0 → next' t ≡ h → Linked next' t (t ∷ l)
  linked-front r out f n e = step refl n (run-from e (run-same (λ u m. f u m (out u m)) r))

  -- ---- t taken out: from the front, and from behind p

  pub linked-rest : {h t : ℕ} {l : List ℕ} → Linked next h (t ∷ l) → Every l (λ u. u ≢ t → next' u ≡ next u) → Linked next' (next t) l
  linked-rest (step e n r) f = run-same (λ u m. f u m (first-apart (step e n r) u m)) r

  pub linked-out : {h p t : ℕ} (xs ys : List ℕ) → Linked next h (xs ++ (t ∷ ys)) → Memᴰ p xs → next p ≡ t
      → Every (xs ++ (t ∷ ys)) (λ u. u ≢ p → u ≢ t → next' u ≡ next u) → next' p ≡ next t → Linked next' h (xs ++ ys)
  linked-out {p = p} {t = t} xs ys r m q f e =
      let here : Memᴰ t (t ∷ ys) = mathlib.Core.List.Memᴰ.head refl in
      let rest : Linked next t (t ∷ ys) = run-after xs r in
      relink xs r m (run-from q rest)
      (λ u k n. f u (mathlib.Core.List.Memᴰ.append_left (t ∷ ys) k) n (linked-apart xs (t ∷ ys) r k here))
      (run-from e
      (linked-rest rest
      (λ u k n. f u (mathlib.Core.List.Memᴰ.append_right xs (mathlib.Core.List.Memᴰ.tail k))
      (λ c. linked-apart xs (t ∷ ys) r m (mathlib.Core.List.Memᴰ.tail k) (sym c)) n)))
