-- The quick ask: its answer as the code puts it together, which numbers it has, and that it is the checked one on an accepted image.
use Prim.Native.Nat.{ℕ}
use mathlib.Core.List.{List, [], ◌∷◌, Memᴰ}
use mathlib.Core.Path.{◌≡◌, refl, ap, sym, ◌∙◌, subst}
use native.Mathlib.Omega.{arith}
use Rattle.std.specs.Prelude.{Ok, Err}
use Rattle.lists.specs.Decide.{choose}
use Rattle.lists.proofs.Lists.{member}
use Rattle.lists.proofs.Decides.{choose-by, choose_no, choose_yes}
use Rattle.words.specs.Bytes.{Bytes}
use Rattle.layout.specs.declared.Shape.{Shape}
use Rattle.std.specs.Prelude.{Result, Ok, Err}
use Rattle.walk.specs.declared.Broken.{Broken}
use Rattle.walk.specs.declared.WalkEnd.{WalkEnd}
use Rattle.walk.specs.declared.WalkEnd.TheVariants as end
use Rattle.image.specs.declared.Stage.{Stage}
use Rattle.image.specs.declared.Verdict.{Verdict}
use Rattle.chronicle_map.specs.declared.Located.{Located}
use Rattle.chronicle_map.specs.Demands.{Accepted}
use Rattle.chronicle_map.proofs.Accepting.{Holds, accepted-holds}
use Rattle.quick.specs.Quick.{Opened, opened, from_walk, quick_lookup}
use Rattle.quick.proofs.Answering.{quick_refused, quick_by}
use Rattle.quick.proofs.Agreeing.{holds_opened, quick_agrees}
use Rattle.std.specs.Prelude.{Result, Err}
use Rattle.pairs.specs.declared.AskError.TheVariants as ask
use Rattle.pairs.specs.Pairs.{ChannelsFit, channels_fit?, pair_key, record_fits?}
use Rattle.pairs.specs.Delays.{Asked, from_record, from_located, ask_pair, ask_checked, delay, asked_reply}
use Rattle.pairs.specs.Quick.{quick_pair, quick_opened, quick_delay, QuickDelays}
use Rattle.pairs.proofs.Orders.{key_fits}
use Rattle.pairs.proofs.Refusing.{ask-refused}

module _ (block img : List ℕ) (a b : ℕ) where
  module _ {o : Opened} (eo : o ≡ opened block img) where
    pub quick_ask-refused : (s : Stage) → o ≡ Err s → Err (ask.Refused s) ≡ quick_delay block img a b
    unfolding quick_delay quick_opened
    quick_ask-refused s e = ap (quick_opened block img a b) (sym e ∙ eo)

    pub quick_ask_misfit : (z : Shape) → o ≡ Ok z → (ChannelsFit a b → ⊥) → Err ask.BadPair ≡ quick_delay block img a b
    unfolding quick_delay quick_opened quick_pair
    quick_ask_misfit z e n = sym (choose_no (channels_fit? a b) _ _ n) ∙ ap (quick_opened block img a b) (sym e ∙ eo)

  -- where the channels fit, its refusal is the quick lookup's
  quick_fits : ChannelsFit a b → (o : Opened) → opened block img ≡ o
      → quick_opened block img a b o ≡ from_located img a b (quick_lookup block img (pair_key a b))
  unfolding quick_opened quick_pair from_located
  quick_fits f (Err s) e = ap (from_located img a b) (quick_refused block img (pair_key a b) refl s e)
  quick_fits f (Ok z) e = choose_yes (channels_fit? a b) _ _ f

  pub quick_ask-looked : ChannelsFit a b → {key : List ℕ} → key ≡ pair_key a b → {l : Result Located Stage} → l ≡ quick_lookup block img key → {r : Asked}
      → r ≡ from_located img a b l → r ≡ quick_delay block img a b
  unfolding quick_delay
  quick_ask-looked f ek el er =
      er ∙ ap (from_located img a b) (el ∙ ap (quick_lookup block img) ek) ∙ sym (quick_fits f (opened block img) refl)

-- ---- which numbers are answered

abbrev quick_ask_numbers : List ℕ
quick_ask_numbers = 0 ∷ 1 ∷ 2 ∷ 3 ∷ 4 ∷ 11 ∷ 12 ∷ 18 ∷ []

abbrev IsQuickAsk : Asked → Type 0
IsQuickAsk x = Memᴰ (asked_reply x).number quick_ask_numbers

module _ (block img : List ℕ) (a b : ℕ) where
  record_asked : (r : List ℕ) → IsQuickAsk (from_record a b r (record_fits? r))
  unfolding from_record
  record_asked r =
      choose-by (record_fits? r) _ _ IsQuickAsk (λ _. member quick_ask_numbers 6 (omega arith)) (λ _. member quick_ask_numbers 0 (omega arith))

  walk-asked : (w : Result WalkEnd Broken) → IsQuickAsk (from_located img a b (from_walk w))
  unfolding from_walk from_located
  walk-asked (Ok (end.Found t j e)) = record_asked _
  walk-asked (Ok (end.Absent t j)) = member quick_ask_numbers 1 (omega arith)
  walk-asked (Err _) = member quick_ask_numbers 7 (omega arith)

  looked-asked : IsQuickAsk (from_located img a b (quick_lookup block img (pair_key a b)))
  unfolding from_located
  looked-asked =
      quick_by block img (pair_key a b) (λ l. IsQuickAsk (from_located img a b l)) (λ st n. absurd (n (key_fits a b st))) walk-asked
      (member quick_ask_numbers 2 (omega arith)) (member quick_ask_numbers 3 (omega arith)) (member quick_ask_numbers 4 (omega arith))

  quick_asked : (o : Opened) → opened block img ≡ o → IsQuickAsk (quick_opened block img a b o)
  unfolding quick_opened quick_pair from_located
  quick_asked (Err s) e =
      subst (λ (l : Result Located Stage). IsQuickAsk (from_located img a b l)) (sym (quick_refused block img (pair_key a b) refl s e)) looked-asked
  quick_asked (Ok z) e = choose-by (channels_fit? a b) _ _ IsQuickAsk (λ _. member quick_ask_numbers 5 (omega arith)) (λ _. looked-asked)

  -- ---- on an accepted image

  pair-agrees : Holds block img → quick_pair block img a b (channels_fit? a b) ≡ ask_pair block img a b (channels_fit? a b)
  unfolding quick_pair ask_pair
  pair-agrees h =
      ap (λ (l : Result Located Stage). choose (channels_fit? a b) (λ _. Err ask.BadPair) (λ _. from_located img a b l))
      (quick_agrees block img h (pair_key a b))

  ask-agrees : Bytes img → Accepted block img → quick_delay block img a b ≡ delay block img a b
  unfolding quick_delay quick_opened delay ask_checked
  ask-agrees bytes (c, e) =
      let h : Holds block img = accepted-holds block img bytes (c, e) in
      ap (quick_opened block img a b) (holds_opened block img h)
      ∙ pair-agrees h
      ∙ ap (λ (v : Verdict). ask_checked block img a b v.outcome) (sym e)

-- the request's theorem
pub quick_delays_lem : (block img : List ℕ) → Bytes img → QuickDelays block img
unfolding quick_delay
quick_delays_lem block img bytes =
    record {
      answers = λ a b. quick_asked block img a b (opened block img) refl;
      refused = λ a b. ask-refused (quick_delay block img a b);
      as_checked = λ accepted a b. ask-agrees block img a b bytes accepted;
    }
