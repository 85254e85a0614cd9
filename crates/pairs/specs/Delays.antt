-- The two calls: each says its whole answer, and a set every byte of the image on return. The check's 2 to 7 come first, then 11, then 12,
-- then the store's 9, 1 and 10.
use Rattle.std.specs.Prelude.{ℕ, List, ◌≡◌, ℤ, pos, Option, Some, None, Result, Ok, Err}
use Rattle.std.proofs.Math.IntN.{ℤ_discrete}
use Rattle.lists.specs.Decide.{choose}
use Rattle.image.specs.declared.Stage.{Stage}
use Rattle.image.specs.declared.Outcome.{Outcome}
use Rattle.image.specs.declared.Outcome.TheVariants as outcome
use Rattle.image.specs.Check.{stage_number, check}
use Rattle.chronicle_map.specs.declared.Located.{Located}
use Rattle.chronicle_map.specs.declared.Located.TheVariants as looked
use Rattle.chronicle_map.specs.declared.EditError.{EditError}
use Rattle.chronicle_map.specs.declared.EditError.TheVariants as edit
use Rattle.edit.specs.declared.Policy.TheVariants.{OnTheSpot}
use Rattle.chronicle_map.specs.Calls.{lookup, record_bytes, store, error_number}
use Rattle.pairs.specs.declared.AskError.{AskError}
use Rattle.pairs.specs.declared.AskError.TheVariants as ask
use Rattle.pairs.specs.declared.SetError.{SetError}
use Rattle.pairs.specs.declared.SetError.TheVariants as set
use Rattle.pairs.specs.Pairs.{ChannelsFit, channels_fit?, pair_key, delay_record, record_delay, most_negative, RecordFits, record_fits?, in_order}

-- ---- asking: the delay, where there is one, or an error

abbrev pub Asked : Type 0
Asked = Result (Option ℤ) AskError

-- 12, of the stored record
unfoldable pub from_record : (a b : ℕ) (r : List ℕ) → Dec (RecordFits r) → Asked
from_record a b r d = choose d (λ _. Err ask.BadDelay) (λ _. Ok (Some (in_order a b (record_delay r))))

-- what the lookup of the pair's key says of the pair
unfoldable pub from_located : List ℕ → ℕ → ℕ → Result Located Stage → Asked
from_located img a b (Err s) = Err (ask.Refused s)
from_located img a b (Ok (looked.Absent e)) = Ok None
from_located img a b (Ok (looked.Found p)) =
    from_record a b (record_bytes img (Ok (looked.Found p))) (record_fits? (record_bytes img (Ok (looked.Found p))))

module _ (block img : List ℕ) (a b : ℕ) where
  -- 11
  unfoldable pub ask_pair : Dec (ChannelsFit a b) → Asked
  ask_pair f = choose f (λ _. Err ask.BadPair) (λ _. from_located img a b (lookup block img (pair_key a b)))

  -- 2 to 7
  unfoldable pub ask_checked : Outcome → Asked
  ask_checked (outcome.Refused s) = Err (ask.Refused s)
  ask_checked (outcome.Accepted c) = ask_pair (channels_fit? a b)

  unfoldable pub delay : Asked
  delay = ask_checked (check block img).outcome

-- the paper's number, and the delay in microseconds, 0 with any number but 0
pub record Reply : Type 0 where
  pub number : ℕ
  pub delay : ℤ

abbrev pub ask_error_number : AskError → ℕ
ask_error_number ask.BadPair = 11
ask_error_number ask.BadDelay = 12
ask_error_number (ask.Refused s) = stage_number s

abbrev pub asked_reply : Asked → Reply
asked_reply (Ok (Some d)) = record { number = 0; delay = d }
asked_reply (Ok None) = record { number = 1; delay = pos 0 }
asked_reply (Err e) = record { number = ask_error_number e; delay = pos 0 }

-- ---- setting: the answer, and the image on return

abbrev pub SetAnswer : Type 0
SetAnswer = Result (Unit {0}) SetError

pub record Setting : Type 0 where
  pub answer : SetAnswer
  pub image : List ℕ

-- a store's answer as a set's
abbrev pub stored : Result (Unit {0}) EditError → SetAnswer
stored (Ok _) = Ok tt
stored (Err e) = Err (set.Edit e)

-- what the store of a record answers and leaves; a refusal leaves the image
abbrev pub from_store : List ℕ → List ℕ → List ℕ → List ℕ → Setting
from_store block img key bytes =
    record { answer = stored (store OnTheSpot block img key bytes).answer; image = (store OnTheSpot block img key bytes).image }

abbrev pub refusing : List ℕ → SetAnswer → Setting
refusing img x = record { answer = x; image = img }

module _ (block img : List ℕ) (a b : ℕ) (d : ℤ) where
  -- 12, of the delay that is given; else the store's
  unfoldable pub set_record : Dec (d ≡ most_negative) → Setting
  set_record m = choose m (λ _. from_store block img (pair_key a b) (delay_record (in_order a b d))) (λ _. refusing img (Err set.BadDelay))

  -- 11
  unfoldable pub set_pair : Dec (ChannelsFit a b) → Setting
  set_pair f = choose f (λ _. refusing img (Err set.BadPair)) (λ _. set_record (ℤ_discrete d most_negative))

  -- 2 to 7
  unfoldable pub set_checked : Outcome → Setting
  set_checked (outcome.Refused s) = refusing img (Err (set.Edit (edit.Refused s)))
  set_checked (outcome.Accepted c) = set_pair (channels_fit? a b)

  unfoldable pub set_delay : Setting
  set_delay = set_checked (check block img).outcome

-- the check's refusal, or else this error
abbrev pub unless_refused : SetError → Outcome → SetError
unless_refused other (outcome.Refused s) = set.Edit (edit.Refused s)
unless_refused other (outcome.Accepted c) = other

abbrev pub set_error_number : SetError → ℕ
set_error_number set.BadPair = 11
set_error_number set.BadDelay = 12
set_error_number (set.Edit e) = error_number e

abbrev pub set_number : SetAnswer → ℕ
set_number (Ok _) = 0
set_number (Err e) = set_error_number e
