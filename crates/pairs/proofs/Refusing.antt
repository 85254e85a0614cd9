-- Which numbers an ask and a set answer, and what a refused one leaves, whatever they are given.
use Prim.Native.Nat.{ℕ, ◌<◌}
use mathlib.Core.List.Memᴰ
use mathlib.Core.List.{List, [], ◌∷◌, ◌++◌, Memᴰ}
use mathlib.Core.Path.{◌≡◌, refl, ap, ◌∙◌}
use mathlib.Core.Logic.{◌≢◌, ⊎_elim}
use mathlib.Core.Bool.{not}
use native.Mathlib.Omega.{arith}
use lib.Dec.{eqb}
use lib.IntN.{ℤ, pos, ℤ_discrete}
use borrow.Author.Tests.{ne_eqb}
use Rattle.lists.specs.Decide.{choose}
use Rattle.lists.specs.Lists.{span, those}
use Rattle.lists.proofs.Lists.{in_span, span_in}
use Rattle.lists.proofs.Members.{in_those}
use Rattle.image.specs.declared.Outcome.{Outcome}
use Rattle.image.specs.declared.Outcome.TheVariants as outcome
use Rattle.image.specs.Check.{stage_number, check, outcome_numbers}
use Rattle.edit.specs.declared.Policy.TheVariants.{OnTheSpot}
use Rattle.std.specs.Prelude.{Some, None, Result, Ok, Err}
use Rattle.image.specs.declared.Stage.{Stage}
use Rattle.chronicle_map.specs.declared.Located.{Located}
use Rattle.chronicle_map.specs.declared.Located.TheVariants as looked
use Rattle.chronicle_map.specs.Calls.{number_of, lookup, lookup_numbers, record_bytes, store}
use Rattle.chronicle_map.proofs.Refusing.{demand1, lookup-not-8, store-not-8}
use Rattle.pairs.specs.Pairs.{ChannelsFit, channels_fit?, pair_key, delay_record, most_negative, RecordFits, record_fits?, in_order}
use Rattle.pairs.specs.Delays.{Asked, from_record, from_located, ask_pair, ask_checked, delay, asked_reply, set_record, set_pair, set_checked, set_delay, set_number}
use Rattle.pairs.specs.History.{Refusals}
use Rattle.pairs.proofs.Orders.{key_fits}
use Rattle.pairs.proofs.Mapped.{stored-number}

-- ---- which numbers are answered

abbrev IsAskNumber : ℕ → Type 0
IsAskNumber n = Memᴰ n (0 ∷ 1 ∷ 2 ∷ 3 ∷ 4 ∷ 5 ∷ 6 ∷ 7 ∷ 11 ∷ 12 ∷ [])

abbrev IsSetNumber : ℕ → Type 0
IsSetNumber n = Memᴰ n (0 ∷ 2 ∷ 3 ∷ 4 ∷ 5 ∷ 6 ∷ 7 ∷ 9 ∷ 10 ∷ 11 ∷ 12 ∷ [])

-- the store's numbers and those of the pair calls, without 8
abbrev pair_numbers : List ℕ → List ℕ
pair_numbers ns = those (ns ++ (11 ∷ 12 ∷ [])) (λ m. not (eqb m 8))

store-number : (n : ℕ) (ns : List ℕ) → Memᴰ n ns → n ≢ 8 → Memᴰ n (pair_numbers ns)
store-number n ns m ne = in_those (λ k. not (eqb k 8)) n (ns ++ (11 ∷ 12 ∷ [])) (Memᴰ.append_left (11 ∷ 12 ∷ []) m) (ap not (ne_eqb n 8 ne))

pair-number : (n : ℕ) (ns : List ℕ) → Memᴰ n (11 ∷ 12 ∷ []) → n ≢ 8 → Memᴰ n (pair_numbers ns)
pair-number n ns m ne = in_those (λ k. not (eqb k 8)) n (ns ++ (11 ∷ 12 ∷ [])) (Memᴰ.append_right ns m) (ap not (ne_eqb n 8 ne))

ask-store : (n : ℕ) → n < 9 → n ≢ 8 → IsAskNumber n
unfolding span those
ask-store n h ne = store-number n (span 0 9) (in_span 0 9 n (omega arith) h) ne

ask-pair : (n : ℕ) → Memᴰ n (11 ∷ 12 ∷ []) → n ≢ 8 → IsAskNumber n
unfolding span those
ask-pair n m ne = pair-number n (span 0 9) m ne

set-store : (n : ℕ) → Memᴰ n (0 ∷ span 2 9) → n ≢ 8 → IsSetNumber n
unfolding span those
set-store n m ne = store-number n (0 ∷ span 2 9) m ne

set_pair_lem : (n : ℕ) → Memᴰ n (11 ∷ 12 ∷ []) → n ≢ 8 → IsSetNumber n
unfolding span those
set_pair_lem n m ne = pair-number n (0 ∷ span 2 9) m ne

-- the check's numbers
check-below : (n : ℕ) → Memᴰ n (0 ∷ span 2 6) → n < 8
check-below n m = ⊎_elim (λ (e : n ≡ 0). omega arith) (λ (k : Memᴰ n (span 2 6)). omega (arith, span_in 2 6 n k)) (Memᴰ.cases_cons m)

module _ (block img : List ℕ) where
  checked : Memᴰ (number_of (outcome_numbers (check block img).outcome)) (0 ∷ span 2 6)
  unfolding span
  checked = (demand1 block img).check_answers.allowed

  module _ (a b : ℕ) where
    record_asked : (r : List ℕ) (d : Dec (RecordFits r)) → IsAskNumber (asked_reply (from_record a b r d)).number
    unfolding choose from_record
    record_asked r (no _) = ask-pair 12 (Memᴰ.tail (Memᴰ.head refl)) (omega arith)
    record_asked r (yes _) = ask-store 0 (omega arith) (omega arith)

    looked-asked : (l : Result Located Stage) → number_of (lookup_numbers l) < 9 → number_of (lookup_numbers l) ≢ 8
        → IsAskNumber (asked_reply (from_located img a b l)).number
    unfolding from_located
    looked-asked (Err s) h ne = ask-store (stage_number s) h ne
    looked-asked (Ok (looked.Absent e)) h ne = ask-store 1 h ne
    looked-asked (Ok (looked.Found p)) h ne = record_asked (record_bytes img (Ok (looked.Found p))) (record_fits? (record_bytes img (Ok (looked.Found p))))

    pair-asked : (f : Dec (ChannelsFit a b)) → IsAskNumber (asked_reply (ask_pair block img a b f)).number
    unfolding choose ask_pair span
    pair-asked (no _) = ask-pair 11 (Memᴰ.head refl) (omega arith)
    pair-asked (yes _) =
        let m = span_in 0 9 (number_of (lookup_numbers (lookup block img (pair_key a b)))) ((demand1 block img).lookup_answers (pair_key a b)).allowed in
        looked-asked (lookup block img (pair_key a b)) m.1 (lookup-not-8 block img (pair_key a b) (key_fits a b))

    check-asked : (o : Outcome) → Memᴰ (number_of (outcome_numbers o)) (0 ∷ span 2 6)
        → IsAskNumber (asked_reply (ask_checked block img a b o)).number
    unfolding ask_checked
    check-asked (outcome.Refused s) m = let h = check-below (stage_number s) m in ask-store (stage_number s) (omega arith) (omega arith)
    check-asked (outcome.Accepted c) m = pair-asked (channels_fit? a b)

    module _ (d : ℤ) where
      record_set : (m : Dec (d ≡ most_negative)) → IsSetNumber (set_number (set_record block img a b d m).answer)
      unfolding choose set_record span
      record_set (yes _) = set_pair_lem 12 (Memᴰ.tail (Memᴰ.head refl)) (omega arith)
      record_set (no _) =
          rw (stored-number (store OnTheSpot block img (pair_key a b) (delay_record (in_order a b d))).answer)
          (set-store _ ((demand1 block img).store_answers OnTheSpot (pair_key a b) (delay_record (in_order a b d))).allowed
          (store-not-8 block img (pair_key a b) (key_fits a b) OnTheSpot (delay_record (in_order a b d))))

      pair_set : (f : Dec (ChannelsFit a b)) → IsSetNumber (set_number (set_pair block img a b d f).answer)
      unfolding choose set_pair
      pair_set (no _) = set_pair_lem 11 (Memᴰ.head refl) (omega arith)
      pair_set (yes _) = record_set (ℤ_discrete d most_negative)

      check-set : (o : Outcome) → Memᴰ (number_of (outcome_numbers o)) (0 ∷ span 2 6)
          → IsSetNumber (set_number (set_checked block img a b d o).answer)
      unfolding set_checked span
      check-set (outcome.Refused s) m =
          let h = check-below (stage_number s) m in
          set-store (stage_number s) (Memᴰ.append_left (8 ∷ 9 ∷ 10 ∷ []) m) (omega arith)
      check-set (outcome.Accepted c) m = pair_set (channels_fit? a b)

-- ---- what a refusal leaves

pub ask-refused : (x : Asked) → (asked_reply x).number ≢ 0 → (asked_reply x).delay ≡ pos 0
ask-refused (Ok (Some d)) ne = absurd (ne refl)
ask-refused (Ok None) ne = refl
ask-refused (Err e) ne = refl

module _ (block img : List ℕ) (a b : ℕ) (d : ℤ) where
  record_refused : (m : Dec (d ≡ most_negative)) → set_number (set_record block img a b d m).answer ≢ 0 → (set_record block img a b d m).image ≡ img
  unfolding choose set_record
  record_refused (yes _) ne = refl
  record_refused (no _) ne = (demand1 block img).store_refused OnTheSpot (pair_key a b) (delay_record (in_order a b d))
      (λ z. ne (stored-number (store OnTheSpot block img (pair_key a b) (delay_record (in_order a b d))).answer ∙ z))

  pair-refused : (f : Dec (ChannelsFit a b)) → set_number (set_pair block img a b d f).answer ≢ 0 → (set_pair block img a b d f).image ≡ img
  unfolding choose set_pair
  pair-refused (no _) ne = refl
  pair-refused (yes _) ne = record_refused (ℤ_discrete d most_negative) ne

  check-refused : (o : Outcome) → set_number (set_checked block img a b d o).answer ≢ 0 → (set_checked block img a b d o).image ≡ img
  unfolding set_checked
  check-refused (outcome.Refused s) ne = refl
  check-refused (outcome.Accepted c) ne = pair-refused (channels_fit? a b) ne

pub refusals : (block img : List ℕ) → Refusals block img
unfolding delay set_delay
refusals block img =
    record {
      ask_answers = λ a b. check-asked block img a b (check block img).outcome (checked block img);
      set_answers = λ a b d. check-set block img a b d (check block img).outcome (checked block img);
      ask_refused = λ a b. ask-refused (delay block img a b);
      set_refused = λ a b d. check-refused block img a b d (check block img).outcome;
    }
