-- Demand 1: which numbers the calls answer, and what a refusal leaves, whatever they are given.
use Prim.Native.Nat.{ℕ, ◌+◌, ◌≤◌, ◌<◌}
use mathlib.Core.List.Memᴰ
use mathlib.Core.List.{List, [], ◌∷◌}
use mathlib.Core.Path.{◌≡◌, refl, ap, subst}
use mathlib.Core.Logic.{◌≢◌}
use mathlib.Core.Bool.{Bool, true, false}
use mathlib.Core.Option.{Option, none, some}
use native.Mathlib.Omega.{arith}
use lib.ListN.{length, get_or, replicate}
use Rattle.std.specs.Prelude.{Ok, Err}
use Rattle.lists.specs.Lists.{span}
use Rattle.lists.proofs.Lists.{in_span}
use Rattle.settings.specs.declared.Settings.{Settings}
use Rattle.layout.specs.declared.Shape.{Shape}
use Rattle.entries.specs.Keys.{KeyFits}
use Rattle.entries.specs.declared.Live.{Live}
use Rattle.entries.specs.Live.{live}
use Rattle.edit.specs.declared.Policy.{Policy}
use Rattle.image.specs.declared.Counts.{Counts}
use Rattle.image.specs.declared.Stage.{Stage}
use Rattle.std.specs.Prelude.{Result, Ok, Err}
use Rattle.image.specs.Check.{stage_number, examine, verdict_of, check, verdict_numbers, Examined}
use Rattle.image.specs.List.{pick, from_nth, from_examined, entry, listed_numbers}
use Rattle.image.proofs.Ready.{Fitting, ready-fitting, ready-framed}
use Rattle.growing.specs.Growing.{no_bulk}
use Rattle.edit.specs.Edits.{find, no_room}
use Rattle.chronicle_map.specs.declared.SearchEnd.{SearchEnd}
use Rattle.chronicle_map.specs.declared.Located.{Located}
use Rattle.chronicle_map.specs.declared.Located.TheVariants as looked
use Rattle.chronicle_map.specs.Asked.{a_key, an_entry, asked}
use Rattle.chronicle_map.specs.Calls.{number_of, search_end, from_find, looked_up, lookup, lookup_numbers, record_at, record_length, answer_number, remove_found, removing, remove, store_unless, storing, store, grow_unless, growing, grow}
use Rattle.chronicle_map.specs.Demands.{Answers, shape, Ended, LookupAnswers, Demand1}
use Rattle.chronicle_map.proofs.Asking.{key-ready}
use Rattle.chronicle_map.proofs.Highest.{Most, Not8, stage-least, examine-most, asked-most, asked-not-8}
use Rattle.chronicle_map.proofs.Ended.{search-ended}
use Rattle.chronicle_map.proofs.Told.{stages_told_lem, checks-told, lists-told, lookups-told, edits_told_lem}

-- ---- the numbers of the answers

-- an answer 0, and another number among those from a on, with nothing but zeros after it
module _ (a n : ℕ) (rest : List ℕ) where
  zero-answers : Answers (0 ∷ span a n) (0 ∷ rest)
  zero-answers = record { allowed = Memᴰ.head refl; zeros = λ ne. absurd (ne refl) }

  other-answers : (m : ℕ) → a ≤ m → m < a + n → rest ≡ replicate (length rest) 0 → Answers (0 ∷ span a n) (m ∷ rest)
  other-answers m low high z = record { allowed = Memᴰ.tail (in_span a n m low high); zeros = λ ne. z }

check-answers : (x : Examined) → Most 7 x → Answers (0 ∷ span 2 6) (verdict_numbers (verdict_of x))
unfolding verdict_of
check-answers (Ok (z, c)) w = zero-answers 2 6 _
check-answers (Err s) w = other-answers 2 6 _ (stage_number s) (stage-least s) (omega arith) refl

list-answers : (img : List ℕ) (n : ℕ) (x : Examined) → Most 7 x → Answers (0 ∷ span 1 7) (listed_numbers (from_examined img n x))
unfolding from_examined from_nth
list-answers img n (Err s) w = other-answers 1 7 _ (stage_number s) (omega (arith, stage-least s)) (omega arith) refl
list-answers img n (Ok (z, c)) w = by-nth (pick (live z img) n)
  where
    by-nth : (r : Result Live ℕ) → Answers (0 ∷ span 1 7) (listed_numbers (from_nth r))
    by-nth (Ok e) = zero-answers 1 7 _
    by-nth (Err k) = other-answers 1 7 _ 1 (omega arith) (omega arith) refl

no_record : (l : Result Located Stage) → number_of (lookup_numbers l) ≢ 0 → (record_at l ≡ 0) × (record_length l ≡ 0)
unfolding record_at record_length
no_record (Ok (looked.Found p)) ne = absurd (ne refl)
no_record (Ok (looked.Absent e)) ne = (refl, refl)
no_record (Err s) ne = (refl, refl)

module _ (block img key : List ℕ) where
  asked-ended : (z : Shape) (c : Counts) → asked block img (a_key key) ≡ Ok (z, c)
      → Ended (shape block img) img key (search_end z img key).tier (search_end z img key).slot
  asked-ended z c e =
      let ready : examine block img ≡ Ok (z, c) = (key-ready block img key z c refl e).ready in
      let fits : Fitting block img z = ready-fitting block img z c ready in
      subst (λ (x : Shape). Ended x img key (search_end z img key).tier (search_end z img key).slot) fits.shape
      (search-ended z img (ready-framed block img z c ready) fits.image key)

  lookup-answers : (x : Examined) → Most 8 x → asked block img (a_key key) ≡ x
      → LookupAnswers block img key (0 ∷ span 1 8) (lookup_numbers (looked_up img key x))
  unfolding looked_up from_find
  lookup-answers (Err s) w e =
      record {
        allowed = Memᴰ.tail (in_span 1 8 (stage_number s) (omega (arith, stage-least s)) (omega arith));
        no_record = λ _. refl;
        no_end = λ _ _. refl;
        ended = λ one. absurd (omega (arith, stage-least s));
      }
  lookup-answers (Ok (z, c)) w e = by-find (find z img key)
    where
      by-find : (o : Option Live) → LookupAnswers block img key (0 ∷ span 1 8) (lookup_numbers (Ok (from_find z img key o)))
      by-find none =
          record {
            allowed = Memᴰ.tail (in_span 1 8 1 (omega arith) (omega arith));
            no_record = λ _. refl;
            no_end = λ _ ne. absurd (ne refl);
            ended = λ _. asked-ended z c e;
          }
      by-find (some x) =
          record {
            allowed = Memᴰ.head refl;
            no_record = λ ne. absurd (ne refl);
            no_end = λ ne _. absurd (ne refl);
            ended = λ one. absurd (omega arith);
          }

module _ (img key : List ℕ) where
  -- ---- an edit: its number, and the image where that is not 0

  removal_answers_lem : (x : Examined) → Most 8 x → Answers (0 ∷ span 1 8) (answer_number (removing img key x).answer ∷ [])
  unfolding removing remove_found
  removal_answers_lem (Err s) w = other-answers 1 8 _ (stage_number s) (omega (arith, stage-least s)) (omega arith) refl
  removal_answers_lem (Ok (z, c)) w = by-find (find z img key)
    where
      by-find : (o : Option Live) → Answers (0 ∷ span 1 8) (answer_number (remove_found z img key o).answer ∷ [])
      by-find none = other-answers 1 8 _ 1 (omega arith) (omega arith) refl
      by-find (some e) = zero-answers 1 8 _

  removal_refused_lem : (x : Examined) → answer_number (removing img key x).answer ≢ 0 → (removing img key x).image ≡ img
  unfolding removing remove_found
  removal_refused_lem (Err s) n = refl
  removal_refused_lem (Ok (z, c)) n = by-find (find z img key) n
    where
      by-find : (o : Option Live) → answer_number (remove_found z img key o).answer ≢ 0 → (remove_found z img key o).image ≡ img
      by-find none n = refl
      by-find (some e) n = absurd (n refl)

  module _ (policy : Policy) (value : List ℕ) where
    store-answers : (x : Examined) → Most 9 x → Answers (0 ∷ span 2 9) (answer_number (storing policy img key value x).answer ∷ [])
    unfolding storing store_unless
    store-answers (Err s) w = other-answers 2 9 _ (stage_number s) (stage-least s) (omega arith) refl
    store-answers (Ok (z, c)) w = by-room (no_room z img key value)
      where
        by-room : (r : Bool) → Answers (0 ∷ span 2 9) (answer_number (store_unless policy z img key value r).answer ∷ [])
        by-room true = other-answers 2 9 _ 10 (omega arith) (omega arith) refl
        by-room false = zero-answers 2 9 _

    store-refused : (x : Examined) → answer_number (storing policy img key value x).answer ≢ 0 → (storing policy img key value x).image ≡ img
    unfolding storing store_unless
    store-refused (Err s) n = refl
    store-refused (Ok (z, c)) n = by-room (no_room z img key value) n
      where
        by-room : (r : Bool) → answer_number (store_unless policy z img key value r).answer ≢ 0 → (store_unless policy z img key value r).image ≡ img
        by-room true n = refl
        by-room false n = absurd (n refl)

module _ (img : List ℕ) where
  grow-answers : (x : Examined) → Most 7 x → Answers (0 ∷ 2 ∷ 3 ∷ 4 ∷ 5 ∷ 6 ∷ 7 ∷ 13 ∷ []) (answer_number (growing img x).answer ∷ [])
  unfolding growing grow_unless span
  grow-answers (Err s) w =
      record { allowed = Memᴰ.tail (Memᴰ.append_left (13 ∷ []) (in_span 2 6 (stage_number s) (stage-least s) (omega arith))); zeros = λ _. refl }
  grow-answers (Ok (z, c)) w = by-room (no_bulk z (length img))
    where
      by-room : (r : Bool) → Answers (0 ∷ 2 ∷ 3 ∷ 4 ∷ 5 ∷ 6 ∷ 7 ∷ 13 ∷ []) (answer_number (grow_unless z img r).answer ∷ [])
      by-room true = record { allowed = Memᴰ.tail (Memᴰ.append_right (span 2 6) (Memᴰ.head refl)); zeros = λ _. refl }
      by-room false = record { allowed = Memᴰ.head refl; zeros = λ ne. absurd (ne refl) }

  grow-refused : (x : Examined) → answer_number (growing img x).answer ≢ 0 → (growing img x).image ≡ img
  unfolding growing grow_unless
  grow-refused (Err s) n = refl
  grow-refused (Ok (z, c)) n = by-room (no_bulk z (length img)) n
    where
      by-room : (r : Bool) → answer_number (grow_unless z img r).answer ≢ 0 → (grow_unless z img r).image ≡ img
      by-room true n = refl
      by-room false n = absurd (n refl)

-- ---- a key that fits is never refused with 8

looked-not-8 : (img key : List ℕ) (x : Examined) → Not8 x → number_of (lookup_numbers (looked_up img key x)) ≢ 8
unfolding looked_up from_find
looked-not-8 img key (Err s) n = n
looked-not-8 img key (Ok (z, c)) n = by-find (find z img key)
  where
    by-find : (o : Option Live) → number_of (lookup_numbers (Ok (from_find z img key o))) ≢ 8
    by-find none = omega arith
    by-find (some e) = omega arith

stored-not-8 : (policy : Policy) (img key value : List ℕ) (x : Examined) → Not8 x → answer_number (storing policy img key value x).answer ≢ 8
unfolding storing store_unless
stored-not-8 policy img key value (Err s) n = n
stored-not-8 policy img key value (Ok (z, c)) n = by-room (no_room z img key value)
  where
    by-room : (r : Bool) → answer_number (store_unless policy z img key value r).answer ≢ 8
    by-room true = omega arith
    by-room false = omega arith

module _ (block img key : List ℕ) (fits : (st : Settings) → KeyFits st key) where
  pub lookup-not-8 : number_of (lookup_numbers (lookup block img key)) ≢ 8
  unfolding lookup
  lookup-not-8 = looked-not-8 img key (asked block img (a_key key)) (asked-not-8 block img (a_key key) fits)

  pub store-not-8 : (policy : Policy) (value : List ℕ) → answer_number (store policy block img key value).answer ≢ 8
  unfolding store
  store-not-8 policy value = stored-not-8 policy img key value (asked block img (an_entry key value)) (asked-not-8 block img (an_entry key value) fits)

-- ---- all of it

pub demand1 : (block img : List ℕ) → Demand1 block img
unfolding check entry lookup remove store grow span
demand1 block img =
    record {
      check_answers = check-answers (examine block img) (examine-most block img);
      list_answers = λ n. list-answers img n (examine block img) (examine-most block img);
      lookup_answers = λ key. lookup-answers block img key (asked block img (a_key key)) (asked-most block img (a_key key)) refl;
      removal_answers = λ key. removal_answers_lem img key (asked block img (a_key key)) (asked-most block img (a_key key));
      store_answers = λ policy key value. store-answers img key policy value (asked block img (an_entry key value)) (asked-most block img (an_entry key value));
      grow_answers = grow-answers img (examine block img) (examine-most block img);
      no_record = λ key. no_record (lookup block img key);
      removal_refused = λ key. removal_refused_lem img key (asked block img (a_key key));
      store_refused = λ policy key value. store-refused img key policy value (asked block img (an_entry key value));
      grow_refused = grow-refused img (examine block img);
      stages_told = stages_told_lem;
      checks_told = checks-told;
      lists_told = lists-told;
      lookups_told = lookups-told;
      edits_told = edits_told_lem;
    }

-- ---- where the search for an absent key ended

pub absent-ends : (block img key : List ℕ) (e : SearchEnd) → lookup block img key ≡ Ok (looked.Absent e)
    → Ended (shape block img) img key e.tier e.slot
absent-ends block img key e q =
    subst (λ (l : Result Located Stage). Ended (shape block img) img key (get_or (lookup_numbers l) 3 0) (get_or (lookup_numbers l) 4 0)) q
    (((demand1 block img).lookup_answers key).ended (ap (λ (l : Result Located Stage). number_of (lookup_numbers l)) q))
