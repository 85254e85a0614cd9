-- Lists whose members say their place and what stands before them, where one member is taken out.
use Prim.Native.Nat.{ℕ, zero, suc, ◌+◌, ◌-◌, ◌≤◌, ◌<◌}
use mathlib.Core.List.{List, [], ◌∷◌, ◌++◌}
use mathlib.Core.Path.{◌≡◌, refl, ap, sym, ◌∙◌}
use mathlib.Core.Logic.{⊎_elim}
use native.Mathlib.Omega.{arith}
use lib.ListN.{length, get_or, drop, length-append, get_or-append}
use lib.Seq.{get_or-append_seam, get_or-append-add}
use Rattle.lists.specs.Cases.{lt-or}
use Rattle.lists.specs.Quantify.{Below, Every}
use Rattle.lists.proofs.Lists.{member}

-- the member at place i says so, and what stands before it; before the first there is 0
pub record Stands (order previous : ℕ → ℕ) (l : List ℕ) (i : ℕ) : Type 0 where
  pub order_is : order (get_or l i 0) ≡ i
  pub previous_is : previous (get_or l i 0) ≡ get_or (0 ∷ l) i 0

abbrev pub Standing : (ℕ → ℕ) → (ℕ → ℕ) → List ℕ → Type 0
Standing order previous l = Below (length l) (Stands order previous l)

-- ---- places: what stands at a place without t stood there, or one further

module _ (t : ℕ) where
  place-before : (xs ys : List ℕ) (i : ℕ) → i < length xs → get_or (xs ++ ys) i 0 ≡ get_or (xs ++ (t ∷ ys)) i 0
  place-before [] ys i h = absurd (omega arith)
  place-before (x ∷ xs) ys zero h = refl
  place-before (x ∷ xs) ys (suc i) h = place-before xs ys i (omega arith)

  place_after : (xs ys : List ℕ) (i : ℕ) → length xs ≤ i → get_or (xs ++ ys) i 0 ≡ get_or (xs ++ (t ∷ ys)) (suc i) 0
  place_after [] ys i h = refl
  place_after (x ∷ xs) ys zero h = absurd (omega arith)
  place_after (x ∷ xs) ys (suc i) h = place_after xs ys i (omega arith)

drop-place : (ys : List ℕ) (k : ℕ) → get_or (drop 1 ys) k 0 ≡ get_or ys (suc k) 0
drop-place [] k = refl
drop-place (y ∷ ys) k = refl

drop-length : (ys : List ℕ) → length (drop 1 ys) ≡ length ys - 1
drop-length [] = refl
drop-length (y ∷ ys) = omega arith

-- ---- t taken out: those before it say what they said, those after it one place less, and the first of these names what t named

module _ (order previous order' previous' : ℕ → ℕ) where
  pub record Closes (t : ℕ) (xs ys : List ℕ) : Type 0 where
    pub before_order : Every xs (λ u. order' u ≡ order u)
    pub before_previous : Every xs (λ u. previous' u ≡ previous u)
    pub less_order : Every ys (λ u. suc (order' u) ≡ order u)
    pub new_previous : 0 < length ys → previous' (get_or ys 0 0) ≡ previous t
    pub same_previous : Every (drop 1 ys) (λ u. previous' u ≡ previous u)

  module _ (t : ℕ) (xs ys : List ℕ) (st : Standing order previous (xs ++ (t ∷ ys))) (w : Closes t xs ys) where
    -- what t named
    named : previous t ≡ get_or (0 ∷ (xs ++ ys)) (length xs) 0
    named =
        ap previous (sym (get_or-append_seam xs t ys 0))
        ∙ (st (length xs) (omega (arith, length-append xs (t ∷ ys)))).previous_is
        ∙ sym (place-before t (0 ∷ xs) ys (length xs) (omega arith))

    early : (i : ℕ) → i < length xs → Stands order' previous' (xs ++ ys) i
    early i h =
        let was : Stands order previous (xs ++ (t ∷ ys)) i = st i (omega (arith, length-append xs (t ∷ ys))) in
        let here : get_or (xs ++ ys) i 0 ≡ get_or xs i 0 = get_or-append xs ys 0 i h in
        let there : get_or xs i 0 ≡ get_or (xs ++ (t ∷ ys)) i 0 = sym here ∙ place-before t xs ys i h in
        record {
          order_is = ap order' here ∙ w.before_order _ (member xs i h) ∙ ap order there ∙ was.order_is;
          previous_is =
              ap previous' here ∙ w.before_previous _ (member xs i h) ∙ ap previous there ∙ was.previous_is
              ∙ sym (place-before t (0 ∷ xs) ys i (omega arith));
        }

    -- place k behind t
    late : (k : ℕ) → k < length ys → Stands order' previous' (xs ++ ys) (length xs + k)
    late k h =
        let was : Stands order previous (xs ++ (t ∷ ys)) (suc (length xs + k)) = st (suc (length xs + k)) (omega (arith, length-append xs (t ∷ ys))) in
        let here : get_or (xs ++ ys) (length xs + k) 0 ≡ get_or ys k 0 = get_or-append-add xs ys k 0 in
        let there : get_or ys k 0 ≡ get_or (xs ++ (t ∷ ys)) (suc (length xs + k)) 0 = sym here ∙ place_after t xs ys (length xs + k) (omega arith) in
        record {
          order_is = omega (arith, ap order' here, w.less_order _ (member ys k h), ap order there, was.order_is);
          previous_is = ap previous' here ∙ named_by k h (ap previous there ∙ was.previous_is);
        }
      where
        named_by : (k : ℕ) → k < length ys → previous (get_or ys k 0) ≡ get_or (xs ++ (t ∷ ys)) (length xs + k) 0
            → previous' (get_or ys k 0) ≡ get_or (0 ∷ (xs ++ ys)) (length xs + k) 0
        named_by zero h said = let e : length xs + 0 ≡ length xs = omega arith in rw e (w.new_previous h ∙ named)
        named_by (suc k) h said =
            let e : length xs + suc k ≡ suc (length xs + k) = omega arith in
            let m : previous' (get_or ys (suc k) 0) ≡ previous (get_or ys (suc k) 0) =
            rw (drop-place ys k) at (w.same_previous _ (member (drop 1 ys) k (omega (arith, drop-length ys)))) in
            m ∙ said ∙ rw e (sym (place_after t xs ys (length xs + k) (omega arith)))

    pub standing-without : Standing order' previous' (xs ++ ys)
    standing-without i low =
        ⊎_elim
        (early i)
        (λ (h : length xs ≤ i).
        let e : length xs + (i - length xs) ≡ i = omega arith in
        rw e at (late (i - length xs) (omega (arith, length-append xs ys))))
        (lt-or i (length xs))
