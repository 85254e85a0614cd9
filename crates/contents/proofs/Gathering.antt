-- The list of a tier's full slots, as its loop makes it.
use Prim.Native.Nat.{ℕ, suc, ◌+◌, ◌≤◌, ◌<◌}
use mathlib.Core.List.{List, [], ◌∷◌, ◌++◌}
use mathlib.Core.Path.{◌≡◌, refl, ap, sym, ◌∙◌}
use mathlib.Core.Logic.{◌≢◌}
use mathlib.Core.Bool.{not}
use native.Mathlib.Omega.{arith}
use native.Mathlib.Numerals.{add-one}
use lib.Dec.{eqb}
use lib.ListN.{length, length-set, take, set}
use lib.Seq.{take-suc-set, take-set-le}
use borrow.Author.Tests.{eq-eqb, ne_eqb}
use Rattle.lists.specs.Lists.{span, below, those}
use Rattle.lists.proofs.Rows.{those-more, those-same}
use Rattle.layout.specs.declared.Shape.{Shape}
use Rattle.entries.specs.Live.{slot_at, full_slots}
use Rattle.contents.specs.Counting.{Lists}

module _ (z : Shape) (img : List ℕ) (t : ℕ) where
  open z use {settings}
  open settings use {slots}

  -- of the first j slots those that are full
  unfoldable pub full_below : ℕ → List ℕ
  full_below j = those (below j) (λ i. not (eqb (slot_at z img t i) 0))

  pub record Gathering (before now : List ℕ) (n j : ℕ) : Type 0 where
    pub low : j ≤ slots
    pub few : n ≤ j
    pub long : length now ≡ length before
    pub gathered : take n now ≡ full_below j

  pub gathering_starts : (before : List ℕ) → Gathering before before 0 0
  unfolding full_below those span
  gathering_starts before = record { low = omega arith; few = omega arith; long = refl; gathered = refl }

  module _ {before now : List ℕ} {n j : ℕ} (w : Gathering before now n j) (room : slots ≤ length before) (h : j < slots) {m : ℕ} where
    pub gathering_full : slot_at z img t j ≢ 0 → m ≡ n + 1 → Gathering before (set now n j) m (j + 1)
    unfolding full_below
    gathering_full ne e =
        let em : m ≡ suc n = e ∙ add-one n in
        record {
          low = omega arith;
          few = omega (arith, w.few, e);
          long = length-set now n j ∙ w.long;
          gathered =
              ap (λ (k : ℕ). take k (set now n j)) em ∙ take-suc-set now n j (omega (arith, w.few, w.long)) ∙
              ap (λ (r : List ℕ). r ++ (j ∷ [])) w.gathered
              ∙ sym (those-more (λ i. not (eqb (slot_at z img t i) 0)) j (ap not (ne_eqb (slot_at z img t j) 0 ne)));
        }

    pub gathering_empty : slot_at z img t j ≡ 0 → m ≡ n → Gathering before (set now n j) m (j + 1)
    unfolding full_below
    gathering_empty q e =
        record {
          low = omega arith;
          few = omega (arith, w.few, e);
          long = length-set now n j ∙ w.long;
          gathered =
              ap (λ (k : ℕ). take k (set now n j)) e ∙ take-set-le n now n j (omega arith) ∙ w.gathered ∙
              sym (those-same (λ i. not (eqb (slot_at z img t i) 0)) j (ap not (eq-eqb (slot_at z img t j) 0 q)));
        }

  pub gathering_ends : {before now : List ℕ} {n j : ℕ} → Gathering before now n j → slots ≤ length before → slots ≤ j → Lists z img t now n
  unfolding full_below full_slots
  gathering_ends {before} {now} {n} {j} w room h =
      let e : j ≡ slots = omega (arith, w.low) in
      record {
        are = w.gathered ∙ ap (λ (k : ℕ). those (below k) (λ i. not (eqb (slot_at z img t i) 0))) e;
        within = omega (arith, w.few, w.low, w.long);
      }
