-- An ask and a set on an accepted image: what the ask reads of the map, and what the set alters of it.
use Prim.Native.Nat.{ℕ}
use mathlib.Core.List.{List}
use mathlib.Core.Path.{◌≡◌, refl, ap, sym, ◌∙◌, subst}
use mathlib.Core.Logic.{◌≢◌, ⊎_elim}
use mathlib.Core.Option.{Option, none, some}
use native.Mathlib.Omega.{arith}
use lib.IntN.{ℤ, ℤ_discrete}
use Rattle.lists.specs.Cases.{same_or}
use Rattle.words.specs.Bytes.{Bytes}
use Rattle.entries.specs.Pairs.{Pair}
use Rattle.image.specs.declared.Verdict.{Verdict}
use Rattle.image.specs.Check.{check}
use Rattle.edit.specs.declared.Policy.TheVariants.{OnTheSpot}
use Rattle.chronicle_map.specs.Calls.{lookup, store, answer_number}
use Rattle.chronicle_map.specs.History.{map_of, map_get}
use Rattle.chronicle_map.specs.Demands.{Accepted, Alters}
use Rattle.chronicle_map.proofs.Refusing.{demand1}
use Rattle.chronicle_map.proofs.Altering.{demand2}
use Rattle.chronicle_map.proofs.Laws.{Looked, lookup-some, lookup-none, store_bytes}
use Rattle.std.specs.Prelude.{None, Result, Ok, Err}
use Rattle.chronicle_map.specs.declared.EditError.{EditError}
use Rattle.pairs.specs.declared.AskError.TheVariants as ask
use Rattle.pairs.specs.declared.SetError.{SetError}
use Rattle.pairs.specs.declared.SetError.TheVariants as set
use Rattle.pairs.specs.Pairs.{ChannelsFit, channels_fit?, pair_key, delay_record, most_negative, record_fits?, in_order}
use Rattle.pairs.specs.Delays.{Asked, SetAnswer, stored as set_stored, from_record, from_located, delay, Setting, refusing, unless_refused, set_delay, set_number}
use Rattle.pairs.proofs.Orders.{key-bytes, key_fits}
use Rattle.pairs.proofs.Records.{record_bytes_lem}
use Rattle.pairs.proofs.Answering.{ask_misfit, ask-fits, set_misfit, set-most, set-fits}

-- ---- an ask

-- what is answered for the key and record that the map has
unfoldable pub from_map : ℕ → ℕ → Option Pair → Asked
from_map a b none = Ok None
from_map a b (some p) = from_record a b p.value (record_fits? p.value)

module _ (block img : List ℕ) (bytes : Bytes img) (accepted : Accepted block img) where
  pub ask-unfit : (a b : ℕ) → (ChannelsFit a b → ⊥) → Err ask.BadPair ≡ delay block img a b
  ask-unfit a b n = ask_misfit block img a b refl accepted.0 (ap (λ (v : Verdict). v.outcome) accepted.1) n

  pub ask-map : (a b : ℕ) → ChannelsFit a b → delay block img a b ≡ from_map a b (map_get (map_of block img) (pair_key a b))
  unfolding from_map from_located
  ask-map a b f = ask-fits block img a b f ∙ by-get (map_get (map_of block img) (pair_key a b)) refl
    where
      by-get : (o : Option Pair) → map_get (map_of block img) (pair_key a b) ≡ o
          → from_located img a b (lookup block img (pair_key a b)) ≡ from_map a b o
      by-get none g = ap (from_located img a b) (lookup-none block img bytes accepted (pair_key a b) (key_fits a b _) g)
      by-get (some p) g =
          let l : Looked block img (pair_key a b) p = lookup-some block img bytes accepted (pair_key a b) p g in
          ap (from_located img a b) l.found ∙ ap (λ (r : List ℕ). from_record a b r (record_fits? r)) l.bytes

-- ---- a set

-- what is known after the set of a pair that left x
pub record AfterSet (block img : List ℕ) (a b : ℕ) (d : ℤ) (x : Setting) : Type 0 where
  pub bytes : Bytes x.image
  pub accepted : Accepted block x.image
  pub others : (key : List ℕ) → key ≢ pair_key a b → map_get (map_of block x.image) key ≡ map_get (map_of block img) key
  -- answered 0, the pair's record is the delay's
  pub fits : set_number x.answer ≡ 0 → ChannelsFit a b × (d ≢ most_negative)
  pub own : set_number x.answer ≡ 0
      → map_get (map_of block x.image) (pair_key a b) ≡ some (record { key = pair_key a b; value = delay_record (in_order a b d) })

-- the store's number
pub stored-number : (x : Result (Unit {0}) EditError) → set_number (set_stored x) ≡ answer_number x
stored-number (Ok _) = refl
stored-number (Err e) = refl

module _ (block img : List ℕ) (bytes : Bytes img) (accepted : Accepted block img) (a b : ℕ) (d : ℤ) where
  -- nothing was stored
  unchanged : (x : SetAnswer) → set_number x ≢ 0 → AfterSet block img a b d (record { answer = x; image = img })
  unchanged x n = record { bytes = bytes; accepted = accepted; others = λ key m. refl; fits = λ e. absurd (n e); own = λ e. absurd (n e) }

  module _ (fit : ChannelsFit a b) (n : d ≢ most_negative) where
    abbrev value : List ℕ
    value = delay_record (in_order a b d)

    abbrev after : Setting
    after =
        record { answer = set_stored (store OnTheSpot block img (pair_key a b) value).answer; image = (store OnTheSpot block img (pair_key a b) value).image }

    stored : answer_number (store OnTheSpot block img (pair_key a b) value).answer ≡ 0 → AfterSet block img a b d after
    stored e =
        let r : Alters block img (store OnTheSpot block img (pair_key a b) value).image (pair_key a b) (some (record { key = pair_key a b; value = value })) =
        (demand2 block img bytes accepted).stored OnTheSpot (pair_key a b) value (key-bytes a b fit) (record_bytes_lem (in_order a b d)) e in
        record {
          bytes = store_bytes block img bytes accepted OnTheSpot (pair_key a b) value (key-bytes a b fit) (record_bytes_lem (in_order a b d));
          accepted = r.accepted;
          others = r.others;
          fits = λ _. (fit, n);
          own = λ _. r.altered;
        }

    not-stored : answer_number (store OnTheSpot block img (pair_key a b) value).answer ≢ 0 → AfterSet block img a b d after
    not-stored m =
        let e : (store OnTheSpot block img (pair_key a b) value).image ≡ img = (demand1 block img).store_refused OnTheSpot (pair_key a b) value m in
        let answer : SetAnswer = set_stored (store OnTheSpot block img (pair_key a b) value).answer in
        subst (AfterSet block img a b d) (λ i. record { answer = answer; image = sym e i })
        (unchanged answer (λ z. m (sym (stored-number (store OnTheSpot block img (pair_key a b) value).answer) ∙ z)))

  -- what the check says comes first, and it says nothing here
  first : {other : SetError} → other ≡ unless_refused other (check block img).outcome
  first {other} = ap (λ (v : Verdict). unless_refused other v.outcome) (sym accepted.1)

  pub set-unfit : (ChannelsFit a b → ⊥) → refusing img (Err set.BadPair) ≡ set_delay block img a b d
  set-unfit n = set_misfit block img a b d n first

  pub set-lowest : ChannelsFit a b → d ≡ most_negative → refusing img (Err set.BadDelay) ≡ set_delay block img a b d
  set-lowest f e = set-most block img a b d f e first

  pub after-set : AfterSet block img a b d (set_delay block img a b d)
  after-set = by-pair (channels_fit? a b)
    where
      by_number : ChannelsFit a b → Dec (d ≡ most_negative) → AfterSet block img a b d (set_delay block img a b d)
      by_number f (yes e) = subst (AfterSet block img a b d) (set-lowest f e) (unchanged (Err set.BadDelay) (λ (q : 12 ≡ 0). omega arith))
      by_number f (no n) =
          let number : ℕ = answer_number (store OnTheSpot block img (pair_key a b) (delay_record (in_order a b d))).answer in
          subst (AfterSet block img a b d) (set-fits block img a b d f n) (⊎_elim (stored f n) (not-stored f n) (same_or number 0))

      by-pair : Dec (ChannelsFit a b) → AfterSet block img a b d (set_delay block img a b d)
      by-pair (no n) = subst (AfterSet block img a b d) (set-unfit n) (unchanged (Err set.BadPair) (λ (q : 11 ≡ 0). omega arith))
      by-pair (yes f) = by_number f (ℤ_discrete d most_negative)
