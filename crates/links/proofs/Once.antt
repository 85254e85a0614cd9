-- A list that ends has each number once.
use Prim.Native.Nat.{ℕ, suc}
use mathlib.Core.List.Memᴰ
use mathlib.Core.List.{List, [], ◌∷◌, ◌++◌, Memᴰ}
use mathlib.Core.Path.{◌≡◌, ap, sym, ◌∙◌}
use mathlib.Core.Logic.{⊎_elim, ◌≢◌}
use native.Mathlib.Omega.{arith}
use lib.Dec.{eqb}
use lib.ListN.{length, length-append}
use Rattle.lists.specs.Lists.{how_many}
use Rattle.lists.specs.Quantify.{Every}
use Rattle.lists.proofs.Lists.{how_many-same, how_many-other}
use Rattle.lists.proofs.Counted.{stranger_unmet}
use Rattle.links.specs.Links.{Linked, stop, step}
use Rattle.links.proofs.Splits.{Splits, member-splits}
use Rattle.links.proofs.Runs.{run-after, linked-unique}

module _ {next : ℕ → ℕ} where
  -- the first is not met again: what is met from there on would be longer than itself
  pub first-apart : {t x : ℕ} {l : List ℕ} → Linked next t (x ∷ l) → Every l (λ y. y ≢ x)
  first-apart {t} {x} {l} r y m q =
      let s : Splits y l = member-splits m in
      let k : Linked next t (x ∷ (s.before ++ (y ∷ s.after))) = rw s.is at r in
      let same : x ∷ l ≡ y ∷ s.after = linked-unique (sym q) (run-after [] r) (run-after (x ∷ s.before) k) in
      omega (arith, ap length same, ap length s.is, length-append s.before (y ∷ s.after))

  -- those in front differ from those behind
  pub linked-apart : {t x y : ℕ} (xs ys : List ℕ) → Linked next t (xs ++ ys) → Memᴰ x xs → Memᴰ y ys → x ≢ y
  linked-apart [] ys r m k = absurd (Memᴰ.not-nil m)
  linked-apart {t = t} {x = x} {y = y} (z ∷ xs) ys (step e n r) m k =
      ⊎_elim
      (λ (q : x ≡ z). λ (d : x ≡ y). first-apart (step e n r) y (Memᴰ.append_right xs k) (sym d ∙ q))
      (λ w. linked-apart {t = next z} xs ys r w k)
      (Memᴰ.cases_cons m)

  pub linked-once : {t : ℕ} {l : List ℕ} → Linked next t l → Every l (λ x. how_many l (eqb x) ≡ 1)
  linked-once (stop e) y m = absurd (Memᴰ.not-nil m)
  linked-once (step {x = x} {l = l} e n r) y m =
      ⊎_elim
      (λ (q : y ≡ x). how_many-same y x l q ∙ ap suc (stranger_unmet y l (λ k. first-apart (step e n r) y k q)))
      (λ k. how_many-other y x l (first-apart (step e n r) y k) ∙ linked-once r y k)
      (Memᴰ.cases_cons m)
