-- A list made of parts: what counts or adds up its members where one part has changed, and where it has become longer by one.
use Prim.Native.Nat.{ℕ, zero, suc, ◌+◌, ◌<◌}
use mathlib.Core.List.{List, [], ◌∷◌, ◌++◌, flat_map}
use mathlib.Core.Path.{◌≡◌, ap, sym, ◌∙◌}
use mathlib.Core.Logic.{⊎_elim, ◌≢◌}
use native.Mathlib.Omega.{arith}
use native.Mathlib.Numerals.{add-one}
use Rattle.lists.specs.Cases.{same_or}
use Rattle.lists.specs.Lists.{below}
use Rattle.lists.specs.Quantify.{Below}
use Rattle.lists.proofs.Lists.{flat_map_below, span_in}
use Rattle.lists.proofs.SameLists.{same_flat_map}

pub parts_same : (f f' : ℕ → List ℕ) (n : ℕ) → Below n (λ i. f' i ≡ f i) → flat_map f' (below n) ≡ flat_map f (below n)
parts_same f f' n e = same_flat_map f' f (below n) (λ i m. e i (omega (arith, span_in 0 n i m)))

module _ (m : List ℕ → ℕ) (adds : (xs ys : List ℕ) → m (xs ++ ys) ≡ m xs + m ys) (f f' : ℕ → List ℕ) (s : ℕ) where
  pub parts-change : (n : ℕ) → s < n → Below n (λ i. i ≢ s → f' i ≡ f i)
      → m (flat_map f' (below n)) + m (f s) ≡ m (flat_map f (below n)) + m (f' s)
  parts-change zero h e = absurd (omega arith)
  parts-change (suc n) h e =
      let a : m (flat_map f' (below (n + 1))) ≡ m (flat_map f' (below n)) + m (f' n) =
      ap m (flat_map_below f' n) ∙ adds (flat_map f' (below n)) (f' n) in
      let b : m (flat_map f (below (n + 1))) ≡ m (flat_map f (below n)) + m (f n) = ap m (flat_map_below f n) ∙ adds (flat_map f (below n)) (f n) in
      rw (← add-one n)
      (⊎_elim
      (λ (q : s ≡ n).
      let c : m (flat_map f' (below n)) ≡ m (flat_map f (below n)) = ap m (parts_same f f' n (λ i k. e i (omega arith) (omega arith))) in
      let d : m (f' s) ≡ m (f' n) = ap (λ (i : ℕ). m (f' i)) q in
      let g : m (f s) ≡ m (f n) = ap (λ (i : ℕ). m (f i)) q in
      omega arith)
      (λ (q : s ≢ n).
      let c : m (flat_map f' (below n)) + m (f s) ≡ m (flat_map f (below n)) + m (f' s) = parts-change n (omega arith) (λ i k g. e i (omega arith) g) in
      let d : m (f' n) ≡ m (f n) = ap m (e n (omega arith) (λ (w : n ≡ s). q (sym w))) in
      omega arith)
      (same_or s n))

  pub parts-longer : (t : ℕ) → f' s ≡ f s ++ (t ∷ []) → (n : ℕ) → s < n → Below n (λ i. i ≢ s → f' i ≡ f i)
      → m (flat_map f' (below n)) ≡ m (flat_map f (below n)) + m (t ∷ [])
  parts-longer t here n h e = omega (arith, parts-change n h e, ap m here, adds (f s) (t ∷ []))
