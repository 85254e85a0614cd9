-- The two calls' answers, as the code puts them together.
use Prim.Native.Nat.{ℕ, ◌+◌, ◌-◌, ◌≤◌}
use mathlib.Core.List.{List}
use mathlib.Core.Path.{◌≡◌, refl, ap, sym, ◌∙◌, subst}
use mathlib.Core.Logic.{◌≢◌}
use native.Mathlib.Omega.{arith}
use lib.ListN.{length, take, drop}
use lib.IntN.{ℤ, ℤ_discrete}
use mir.Syntax.{w32}
use mir.Val.{SFits, to_z, of_z}
use mir.ValLaws.{to_z-of_z}
use Rattle.lists.proofs.Decides.{choose_no, choose_yes}
use Rattle.words.specs.Numbers.{le}
use Rattle.settings.specs.Rules.{largest}
use Rattle.image.specs.declared.Stage.{Stage}
use Rattle.image.specs.declared.Counts.{Counts}
use Rattle.image.specs.declared.Outcome.{Outcome}
use Rattle.image.specs.declared.Outcome.TheVariants as outcome
use Rattle.image.specs.declared.Verdict.{Verdict}
use Rattle.image.specs.Check.{check}
use Rattle.std.specs.Prelude.{Some, None, Result, Ok, Err}
use Rattle.chronicle_map.specs.declared.Located.{Located}
use Rattle.chronicle_map.specs.declared.RecordPlace.{RecordPlace}
use Rattle.chronicle_map.specs.declared.SearchEnd.{SearchEnd}
use Rattle.chronicle_map.specs.declared.Located.TheVariants as looked
use Rattle.chronicle_map.specs.declared.EditError.{EditError}
use Rattle.edit.specs.declared.Policy.TheVariants.{OnTheSpot}
use Rattle.chronicle_map.specs.Calls.{lookup, record_at, record_length, record_bytes, Edited, store}
use Rattle.chronicle_map.proofs.Laws.{check-lookup, check-store}
use Rattle.pairs.specs.declared.AskError.TheVariants as ask
use Rattle.pairs.specs.declared.SetError.{SetError}
use Rattle.pairs.specs.declared.SetError.TheVariants as set
use Rattle.pairs.specs.Pairs.{ChannelsFit, channels_fit?, pair_key, delay_record, record_delay, most_negative, RecordFits, record_fits?, in_order}
use Rattle.pairs.specs.Delays.{Asked, SetAnswer, stored, from_record, from_located, ask_pair, ask_checked, delay, unless_refused, set_record, set_pair, set_checked, set_delay, from_store}
use Rattle.pairs.specs.Asking.{Within}

-- ---- a stored record

module _ (a b : ℕ) (r : List ℕ) where
  pub record_yes : RecordFits r → Ok (Some (in_order a b (record_delay r))) ≡ from_record a b r (record_fits? r)
  unfolding from_record
  record_yes f = sym (choose_yes (record_fits? r) _ _ f)

  pub wrong-length : length r ≢ 4 → Err ask.BadDelay ≡ from_record a b r (record_fits? r)
  unfolding from_record
  wrong-length n = sym (choose_no (record_fits? r) _ _ (λ f. n f.0))

  pub wrong-delay : record_delay r ≡ most_negative → Err ask.BadDelay ≡ from_record a b r (record_fits? r)
  unfolding from_record
  wrong-delay e = sym (choose_no (record_fits? r) _ _ (λ f. f.1 e))

  pub wrong-number : (v : ℕ) → v ≡ le r 0 4 → v ≡ 2147483648 → Err ask.BadDelay ≡ from_record a b r (record_fits? r)
  unfolding record_delay
  wrong-number v e h = wrong-delay (ap (to_z w32) (sym e ∙ h))

  -- x is the record's delay and y the one that is answered, as locals hold them
  pub record_found : length r ≡ 4 → {x y : ℤ} → SFits w32 x → SFits w32 y → x ≡ record_delay r → x ≢ most_negative
      → y ≡ in_order a b (to_z w32 (of_z w32 x)) → Ok (Some (to_z w32 (of_z w32 y))) ≡ from_record a b r (record_fits? r)
  record_found long {x} {y} fx fy ex n ey =
      ap (λ (z : ℤ). Ok (Some z)) (to_z-of_z w32 y fy ∙ ey ∙ ap (in_order a b) (to_z-of_z w32 x fx ∙ ex))
      ∙ record_yes (long, λ (q : record_delay r ≡ most_negative). n (ex ∙ q))

-- ---- what the lookup of the key says, by its cases

pub located-refused : (img : List ℕ) (a b : ℕ) (s : Stage) {r : Asked} → r ≡ Err (ask.Refused s) → r ≡ from_located img a b (Err s)
unfolding from_located
located-refused img a b s e = e

module _ (img : List ℕ) (l : Located) where
  pub within_by : ((p : RecordPlace) → l ≡ looked.Found p → (p.offset + p.length ≤ length img) × (length img ≤ largest)) → Within img l
  within_by f = by_cases l refl
    where
      by_cases : (x : Located) → l ≡ x → Within img x
      by_cases (looked.Found p) e = f p e
      by_cases (looked.Absent end) e = tt

  pub within-found : Within img l → (p : RecordPlace) → l ≡ looked.Found p → (p.offset + p.length ≤ length img) × (length img ≤ largest)
  within-found w p e = subst (Within img) e w

  module _ (a b : ℕ) where
    pub located-none : (end : SearchEnd) → l ≡ looked.Absent end → Ok None ≡ from_located img a b (Ok l)
    unfolding from_located
    located-none end e = sym (ap (λ (x : Located). from_located img a b (Ok x)) e)

    pub located_record : (p : RecordPlace) → l ≡ looked.Found p → {r : Asked} {bytes : List ℕ}
        → bytes ≡ take (p.offset + p.length - p.offset) (drop p.offset img) → r ≡ from_record a b bytes (record_fits? bytes)
        → r ≡ from_located img a b (Ok l)
    unfolding from_located record_bytes record_at record_length
    located_record p e eb er =
        let q : p.offset + p.length - p.offset ≡ p.length = omega arith in
        let is : _ = eb ∙ ap (λ (k : ℕ). take k (drop p.offset img)) q in
        er ∙ ap (λ (x : List ℕ). from_record a b x (record_fits? x)) is ∙ sym (ap (λ (x : Located). from_located img a b (Ok x)) e)

-- ---- asking

module _ (block img : List ℕ) (a b : ℕ) where
  -- the check comes first
  module _ {v : Verdict} (ev : v ≡ check block img) where
    pub ask-refused : (s : Stage) → v.outcome ≡ outcome.Refused s → Err (ask.Refused s) ≡ delay block img a b
    unfolding delay ask_checked
    ask-refused s e = ap (ask_checked block img a b) (sym e ∙ ap (λ (x : Verdict). x.outcome) ev)

    pub ask_misfit : (c : Counts) → v.outcome ≡ outcome.Accepted c → (ChannelsFit a b → ⊥) → Err ask.BadPair ≡ delay block img a b
    unfolding delay ask_checked ask_pair
    ask_misfit c e n = sym (choose_no (channels_fit? a b) _ _ n) ∙ ap (ask_checked block img a b) (sym e ∙ ap (λ (x : Verdict). x.outcome) ev)

  -- where the channels fit, its refusal is the lookup's
  pub ask-fits : ChannelsFit a b → delay block img a b ≡ from_located img a b (lookup block img (pair_key a b))
  unfolding delay ask_checked ask_pair from_located
  ask-fits f = by-outcome (check block img).outcome refl
    where
      by-outcome : (o : Outcome) → (check block img).outcome ≡ o
          → ask_checked block img a b o ≡ from_located img a b (lookup block img (pair_key a b))
      by-outcome (outcome.Refused s) e = ap (from_located img a b) (sym (check-lookup block img s (λ i. record { outcome = e i }) (pair_key a b)))
      by-outcome (outcome.Accepted c) e = choose_yes (channels_fit? a b) _ _ f

  pub ask-looked : ChannelsFit a b → {key : List ℕ} → key ≡ pair_key a b → {l : Result Located Stage} → l ≡ lookup block img key → {r : Asked}
      → r ≡ from_located img a b l → r ≡ delay block img a b
  ask-looked f ek el er = er ∙ ap (from_located img a b) (el ∙ ap (lookup block img) ek) ∙ sym (ask-fits f)

-- ---- setting

module _ (block img : List ℕ) (a b : ℕ) (d : ℤ) where
  -- the check comes first
  fault-by : (other : SetError) (o : Outcome) → record { answer = Err other; image = img } ≡ set_pair block img a b d (channels_fit? a b)
      → record { answer = Err (unless_refused other o); image = img } ≡ set_checked block img a b d o
  unfolding set_checked
  fault-by other (outcome.Refused s) e = refl
  fault-by other (outcome.Accepted c) e = e

  fault : (other : SetError) → record { answer = Err other; image = img } ≡ set_pair block img a b d (channels_fit? a b) → {r : SetError}
      → r ≡ unless_refused other (check block img).outcome → record { answer = Err r; image = img } ≡ set_delay block img a b d
  unfolding set_delay
  fault other e er = (λ i. record { answer = Err (er i); image = img }) ∙ fault-by other (check block img).outcome e

  pub set_misfit : (ChannelsFit a b → ⊥) → {r : SetError} → r ≡ unless_refused set.BadPair (check block img).outcome
      → record { answer = Err r; image = img } ≡ set_delay block img a b d
  unfolding set_pair
  set_misfit n er = fault set.BadPair (sym (choose_no (channels_fit? a b) _ _ n)) er

  pub set-most : ChannelsFit a b → d ≡ most_negative → {r : SetError} → r ≡ unless_refused set.BadDelay (check block img).outcome
      → record { answer = Err r; image = img } ≡ set_delay block img a b d
  unfolding set_pair set_record
  set-most f e er = fault set.BadDelay (sym (choose_yes (channels_fit? a b) _ _ f ∙ choose_yes (ℤ_discrete d most_negative) _ _ e)) er

  -- where nothing else is refused, its refusal is the store's
  pub set-fits : ChannelsFit a b → d ≢ most_negative → from_store block img (pair_key a b) (delay_record (in_order a b d)) ≡ set_delay block img a b d
  unfolding set_delay set_checked set_pair set_record
  set-fits f n = by-outcome (check block img).outcome refl
    where
      by-outcome : (o : Outcome) → (check block img).outcome ≡ o
          → from_store block img (pair_key a b) (delay_record (in_order a b d)) ≡ set_checked block img a b d o
      by-outcome (outcome.Refused s) e =
          ap (λ (x : Edited). record { answer = stored x.answer; image = x.image })
          (check-store block img s (λ i. record { outcome = e i }) OnTheSpot (pair_key a b) (delay_record (in_order a b d)))
      by-outcome (outcome.Accepted c) e = sym (choose_yes (channels_fit? a b) _ _ f ∙ choose_no (ℤ_discrete d most_negative) _ _ n)

  pub set-stored : ChannelsFit a b → d ≢ most_negative → {key : List ℕ} → key ≡ pair_key a b → {bytes : List ℕ}
      → bytes ≡ delay_record (in_order a b d)
      → {r : Result (Unit {0}) EditError} {img' : List ℕ} → record { answer = r; image = img' } ≡ store OnTheSpot block img key bytes
      → {x : SetAnswer} → x ≡ stored r → record { answer = x; image = img' } ≡ set_delay block img a b d
  set-stored f n ek eb {img' = img'} e ex =
      (λ i. record { answer = ex i; image = img' })
      ∙ ap (λ (x : Edited). record { answer = stored x.answer; image = x.image }) e ∙ (λ i. from_store block img (ek i) (eb i)) ∙ set-fits f n
