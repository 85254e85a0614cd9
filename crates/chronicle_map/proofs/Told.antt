-- A number tells its refusal: the answer is found again by its number.
use Prim.Native.Nat.{ℕ}
use mathlib.Core.List.{List, [], ◌∷◌}
use mathlib.Core.Path.{◌≡◌, refl, ap, sym, ◌∙◌}
use mathlib.Core.Logic.{◌≢◌, ◌⊎◌, inl, inr}
use native.Mathlib.Omega.{arith}
use lib.ListN.{get_or}
use Rattle.image.specs.declared.Stage.{Stage}
use Rattle.image.specs.declared.Stage.TheVariants.{Block, Field, Frame, Chains, Entries, Chunks, Key, Value, Walk}
use Rattle.image.specs.declared.Outcome.{Outcome}
use Rattle.image.specs.declared.Outcome.TheVariants as outcome
use Rattle.std.specs.Prelude.{Option, Some, None, Result, Ok, Err}
use Rattle.entries.specs.declared.Live.{Live}
use Rattle.image.specs.Check.{stage_number, outcome_numbers}
use Rattle.image.specs.List.{listed_numbers}
use Rattle.chronicle_map.specs.declared.Located.{Located}
use Rattle.chronicle_map.specs.declared.Located.TheVariants as looked
use Rattle.chronicle_map.specs.declared.EditError.{EditError}
use Rattle.chronicle_map.specs.declared.EditError.TheVariants as error
use Rattle.chronicle_map.specs.Calls.{number_of, lookup_numbers, answer_number}
use Rattle.chronicle_map.specs.Demands.{Tells, IsAbsent}
use Rattle.chronicle_map.proofs.Highest.{stage-least}

module _ {A : Type 0} (refused : Stage → A) (one ten thirteen : A) where
  -- the answers by their numbers: 1, then 2 to 9, 10, 13 and 18
  answers_to18 : List A
  answers_to18 =
      one ∷ one ∷ refused Block ∷ refused Field ∷ refused Frame ∷ refused Chains ∷ refused Entries ∷ refused Chunks ∷ refused Key
      ∷ refused Value ∷ ten ∷ one ∷ one ∷ thirteen ∷ one ∷ one ∷ one ∷ one ∷ refused Walk ∷ []

  numbered : ℕ → A
  numbered n = get_or answers_to18 n one

  stage-numbered : (s : Stage) → numbered (stage_number s) ≡ refused s
  unfolding numbered answers_to18
  stage-numbered Block = refl
  stage-numbered Field = refl
  stage-numbered Frame = refl
  stage-numbered Chains = refl
  stage-numbered Entries = refl
  stage-numbered Chunks = refl
  stage-numbered Key = refl
  stage-numbered Value = refl
  stage-numbered Walk = refl

tells-by : {A : Type 0} (number : A → ℕ) (of : ℕ → A) → ((a : A) → number a ≢ 0 → of (number a) ≡ a) → Tells number
tells-by number of back a b ne e = sym (back a ne) ∙ ap of e ∙ back b (λ z. ne (e ∙ z))

pub stages_told_lem : Tells stage_number
stages_told_lem = tells-by stage_number (numbered (λ s. s) Block Block Block) (λ s ne. stage-numbered (λ s. s) Block Block Block s)

pub checks-told : Tells (λ (v : Outcome). number_of (outcome_numbers v))
checks-told = tells-by _ (numbered outcome.Refused none none none) back
  where
    none : Outcome
    none = outcome.Refused Block

    back : (v : Outcome) → number_of (outcome_numbers v) ≢ 0 → numbered outcome.Refused none none none (number_of (outcome_numbers v)) ≡ v
    back (outcome.Accepted c) ne = absurd (ne refl)
    back (outcome.Refused s) ne = stage-numbered outcome.Refused none none none s

pub lists-told : Tells (λ l. number_of (listed_numbers l))
unfolding numbered answers_to18
lists-told = tells-by _ (numbered Err (Ok None) (Ok None) (Ok None)) back
  where
    back : (l : Result (Option Live) Stage) → number_of (listed_numbers l) ≢ 0
        → numbered Err (Ok None) (Ok None) (Ok None) (number_of (listed_numbers l)) ≡ l
    back (Ok (Some e)) ne = absurd (ne refl)
    back (Ok None) ne = refl
    back (Err s) ne = stage-numbered Err (Ok None) (Ok None) (Ok None) s

pub lookups-told : (a b : Result Located Stage) → number_of (lookup_numbers a) ≢ 0 → number_of (lookup_numbers a) ≡ number_of (lookup_numbers b)
    → (a ≡ b) ⊎ (IsAbsent a × IsAbsent b)
lookups-told (Ok (looked.Found p)) b ne e = absurd (ne refl)
lookups-told (Ok (looked.Absent x)) (Ok (looked.Found p)) ne e = absurd (ne e)
lookups-told (Ok (looked.Absent x)) (Ok (looked.Absent y)) ne e = inr ((x, refl), (y, refl))
lookups-told (Ok (looked.Absent x)) (Err s) ne e = absurd (omega (arith, stage-least s))
lookups-told (Err s) (Ok (looked.Found p)) ne e = absurd (ne e)
lookups-told (Err s) (Ok (looked.Absent x)) ne e = absurd (omega (arith, stage-least s))
lookups-told (Err s) (Err r) ne e = inl (ap Err (stages_told_lem s r ne e))

pub edits_told_lem : Tells answer_number
unfolding numbered answers_to18
edits_told_lem = tells-by _ (numbered (λ s. Err (error.Refused s)) (Err error.Absent) (Err error.Full) (Err error.NoBulk)) back
  where
    back : (a : Result (Unit {0}) EditError) → answer_number a ≢ 0
        → numbered (λ s. Err (error.Refused s)) (Err error.Absent) (Err error.Full) (Err error.NoBulk) (answer_number a) ≡ a
    back (Ok _) ne = absurd (ne refl)
    back (Err error.Absent) ne = refl
    back (Err error.Full) ne = refl
    back (Err error.NoBulk) ne = refl
    back (Err (error.Refused s)) ne = stage-numbered (λ s. Err (error.Refused s)) (Err error.Absent) (Err error.Full) (Err error.NoBulk) s
