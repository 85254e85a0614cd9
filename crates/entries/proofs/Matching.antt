-- Bytes compared with a key's, one after the other.
use Prim.Native.Nat.{ℕ, ◌+◌, ◌-◌, ◌*◌, ◌≤◌, ◌<◌}
use mathlib.Core.Path.{◌≡◌, ap, sym, ◌∙◌}
use mathlib.Core.List.{List}
use mathlib.Core.Logic.{⊎_elim, ◌≢◌}
use mathlib.Core.Bool.{true, false}
use native.Mathlib.Omega.{arith}
use lib.ListN.{length, get_or}
use lib.Seq.{ext_get_or}
use Rattle.lists.specs.Cases.{lt-or}
use Rattle.words.specs.Bytes.{Bytes, cut, same}
use Rattle.words.proofs.Bytes.{length_cut, get_or-cut, same-eq, same_false}
use Rattle.words.specs.Numbers.{le}
use Rattle.words.proofs.Numbers.{le_same, le-inj}
use Rattle.entries.specs.Asking.{Agree}

-- the bytes before i agree
pub record Matching (l : List ℕ) (at n : ℕ) (key : List ℕ) (i : ℕ) : Type 0 where
  pub long : n ≡ length key
  pub low : i ≤ n
  pub is : Agree l at key i

-- ---- what the comparison answers

module _ (l : List ℕ) (at n : ℕ) (key : List ℕ) (room : at + n ≤ length l) where
  pub length-differs : n ≢ length key → same (cut l at n) key ≡ false
  length-differs ne = same_false (cut l at n) key (λ e. ne (sym (length_cut l at n room) ∙ ap length e))

  pub byte-differs : (i : ℕ) → i < n → get_or l (at + i) 0 ≢ get_or key i 0 → same (cut l at n) key ≡ false
  byte-differs i h ne = same_false (cut l at n) key (λ e. ne (sym (get_or-cut l at n i h) ∙ ap (λ (r : List ℕ). get_or r i 0) e))

  -- bytes among the first ones differ
  pub some-differ : (i : ℕ) → i ≤ n → (Agree l at key i → ⊥) → same (cut l at n) key ≡ false
  some-differ i h ne =
      same_false (cut l at n) key
      (λ e. ne (λ j k. sym (get_or-cut l at n j (omega arith)) ∙ ap (λ (r : List ℕ). get_or r j 0) e))

  pub all_same : {i : ℕ} → Matching l at n key i → n ≤ i → same (cut l at n) key ≡ true
  all_same {i} m h =
      let long : length (cut l at n) ≡ n = length_cut l at n room in
      same-eq (cut l at n) key
      (ext_get_or 0 _ _ (long ∙ m.long) (λ j k. get_or-cut l at n j (omega arith) ∙ m.is j (omega arith)))

-- ---- eight bytes at a time

module _ (l : List ℕ) (at : ℕ) (key : List ℕ) where
  module _ (k : ℕ) where
    place : (j : ℕ) → 8 * k ≤ j → (at + 8 * k + (j - 8 * k) ≡ at + j) × (8 * k + (j - 8 * k) ≡ j)
    place j h = (omega arith, omega arith)

    pub eights_turn : Bytes l → Bytes key → Agree l at key (8 * k) → le l (at + 8 * k) 8 ≡ le key (8 * k) 8 → Agree l at key (8 * (k + 1))
    eights_turn bl bk a e j h =
        ⊎_elim
        (λ (before : j < 8 * k). a j before)
        (λ (here : 8 * k ≤ j). rw ((place j here).0, (place j here).1) at (le-inj l key (at + 8 * k) (8 * k) 8 bl bk e (j - 8 * k) (omega arith)))
        (lt-or j (8 * k))

    pub eights_differ : (n : ℕ) → k < n → le l (at + 8 * k) 8 ≢ le key (8 * k) 8 → Agree l at key (8 * n) → ⊥
    eights_differ n h ne a =
        ne
        (le_same l key (at + 8 * k) (8 * k) 8
        (λ j g. let q : at + 8 * k + j ≡ at + (8 * k + j) = omega arith in rw q (a (8 * k + j) (omega arith))))
