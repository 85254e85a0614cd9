-- The quick lookup's answers, as the code puts them together, and what holds of them in any image.
use Prim.Native.Nat.{ℕ, ◌+◌, ◌≤◌}
use mathlib.Core.List.{List, [], ◌∷◌, Memᴰ}
use mathlib.Core.Path.{◌≡◌, refl, ap, sym, ◌∙◌, subst}
use mathlib.Core.Logic.{◌≢◌}
use native.Mathlib.Omega.{arith}
use lib.ListN.{length, take, drop}
use Rattle.std.specs.Prelude.{Result, Ok, Err, Option, Some, None}
use Rattle.lists.proofs.Lists.{member}
use Rattle.lists.proofs.Decides.{choose-by, choose_no, choose_yes}
use Rattle.settings.specs.declared.Settings.{Settings}
use Rattle.settings.specs.declared.ParseError.{ParseError}
use Rattle.settings.specs.declared.ParseError.TheVariants as fault
use Rattle.settings.specs.Block.{parse}
use Rattle.settings.specs.Rules.{largest}
use Rattle.layout.specs.declared.Shape.{Shape}
use Rattle.layout.specs.Frame.{Framed, frame_of}
use Rattle.entries.specs.Keys.{KeyFits, key_fits?}
use Rattle.entries.specs.declared.Entry.{Entry}
use Rattle.entries.specs.Stored.{key_of}
use Rattle.entries.specs.Live.{entry_at}
use Rattle.search.specs.Rules.{keyAt}
use Rattle.std.specs.Prelude.{Result, Ok, Err}
use Rattle.walk.specs.declared.Broken.{Broken as WalkBroken}
use Rattle.walk.specs.declared.WalkEnd.{WalkEnd}
use Rattle.walk.specs.declared.WalkEnd.TheVariants as end
use Rattle.walk.specs.Walk.{walk}
use Rattle.walk.proofs.Finding.{EndKeyed, walk-keyed, keyed-within}
use Rattle.image.specs.declared.Stage.{Stage}
use Rattle.image.specs.declared.Stage.TheVariants as stage
use Rattle.chronicle_map.specs.declared.RecordPlace.{RecordPlace}
use Rattle.std.specs.Prelude.{Result, Ok, Err}
use Rattle.chronicle_map.specs.declared.Located.{Located}
use Rattle.chronicle_map.specs.declared.Located.TheVariants as looked
use Rattle.chronicle_map.specs.Calls.{number_of, lookup_numbers}
use Rattle.chronicle_map.specs.Demands.{shape}
use Rattle.quick.specs.Quick.{Opened, opened_frame, opened_block, opened, from_walk, quick_key, after_opened, quick_lookup}
use Rattle.quick.specs.Claims.{StandsUnder, QuickAnswers}
use Rattle.quick.proofs.Opening.{Opens, opens}

-- ---- as the code puts it together

module _ (block img key : List ℕ) {o : Opened} (eo : o ≡ opened block img) where
  pub quick_refused : (s : Stage) → o ≡ Err s → Err s ≡ quick_lookup block img key
  unfolding quick_lookup after_opened
  quick_refused s e = ap (after_opened img key) (sym e ∙ eo)

  module _ (z : Shape) (e : o ≡ Ok z) where
    pub quick_framed : Framed z (length img)
    quick_framed = (opens block img z (sym eo ∙ e)).framed

    from_key : quick_key z img key (key_fits? z.settings key) ≡ quick_lookup block img key
    unfolding quick_lookup after_opened
    from_key = ap (after_opened img key) (sym e ∙ eo)

    pub quick_bad-key : (KeyFits z.settings key → ⊥) → Err stage.Key ≡ quick_lookup block img key
    unfolding quick_key
    quick_bad-key n = sym (choose_no (key_fits? z.settings key) _ _ n) ∙ from_key

    pub quick_walked : KeyFits z.settings key → {w : Result WalkEnd WalkBroken} → w ≡ walk z img key → {l : Result Located Stage} → l ≡ from_walk w
        → l ≡ quick_lookup block img key
    unfolding quick_key
    quick_walked k ew el = el ∙ ap from_walk ew ∙ sym (choose_yes (key_fits? z.settings key) _ _ k) ∙ from_key

-- ---- what holds of the answer, whatever the image holds

module _ (z : Shape) (img key : List ℕ) where
  -- a found record is the entry's that the walk found
  walked-found : Framed z (length img) → (w : Result WalkEnd WalkBroken) → EndKeyed z img key w → (p : RecordPlace) → from_walk w ≡ Ok (looked.Found p)
      → StandsUnder z img key p
  unfolding from_walk keyAt entry_at
  walked-found fr (Ok (end.Found t j e)) (it, k) p q =
      let is : record { offset = e.valueAt; length = e.valueLength; tier = t; slot = j } ≡ p = cc in
      subst (StandsUnder z img key) is
      (record {
        tier_in = it;
        key_is = ap (key_of img) (sym k.there) ∙ k.key_is;
        offset_is = ap (λ (x : Entry). x.valueAt) k.there;
        length_is = ap (λ (x : Entry). x.valueLength) k.there;
        within = (keyed-within z img key fr it k).0;
      })
  walked-found fr (Ok (end.Absent t j)) k p q = absurd (let n : ◌≡◌ {A = ℕ} 0 1 = cc in omega arith)
  walked-found fr (Err _) k p q = absurd (let n : ◌≡◌ {A = ℕ} 0 1 = cc in omega arith)

module _ (block img key : List ℕ) where
  -- of an image that is opened, and of a key that fits
  abbrev Finds : Result Located Stage → Type 0
  Finds l = (p : RecordPlace) → l ≡ Ok (looked.Found p) → StandsUnder (shape block img) img key p × (length img ≤ largest)

  refused-finds : (s : Stage) → Finds (Err s)
  refused-finds s p q = absurd (let n : ◌≡◌ {A = ℕ} 0 1 = cc in omega arith)

  opened-finds : (o : Opened) → opened block img ≡ o → Finds (after_opened img key o)
  unfolding after_opened quick_key
  opened-finds (Err s) e = refused-finds s
  opened-finds (Ok z) e =
      let known : Opens block img z = opens block img z e in
      choose-by (key_fits? z.settings key) _ _ Finds (λ _. refused-finds stage.Key)
      (λ k p q. (
        subst (λ (x : Shape). StandsUnder x img key p) known.is
            (walked-found z img key known.framed (walk z img key) (walk-keyed z img key known.framed) p q),
        known.framed.small,
      ))

  pub quick_finds : Finds (quick_lookup block img key)
  unfolding quick_lookup
  quick_finds = opened-finds (opened block img) refl

  -- a found record stands within the image
  pub quick_within : (l : Result Located Stage) → l ≡ quick_lookup block img key → (p : RecordPlace) → l ≡ Ok (looked.Found p)
      → (p.offset + p.length ≤ length img) × (length img ≤ largest)
  quick_within l el p e = let f : _ = quick_finds p (sym el ∙ e) in (f.0.within, f.1)

  -- ---- the answer by its cases

  module _ (P : Result Located Stage → Type 0) (bad-key : (st : Settings) → (KeyFits st key → ⊥) → P (Err stage.Key))
      (walked : (w : Result WalkEnd WalkBroken) → P (from_walk w)) where
    frame-by : (f : Option Shape) → P (Err stage.Frame) → P (after_opened img key (opened_frame f))
    unfolding opened_frame after_opened quick_key
    frame-by None q = q
    frame-by (Some z) q = choose-by (key_fits? z.settings key) _ _ P (bad-key z.settings) (λ _. walked (walk z img key))

    block-by : (p : Result Settings ParseError) → P (Err stage.Block) → P (Err stage.Field) → P (Err stage.Frame)
        → P (after_opened img key (opened_block img p))
    unfolding opened_block after_opened
    block-by (Err fault.Block) two three four = two
    block-by (Err fault.Field) two three four = three
    block-by (Ok st) two three four = frame-by (frame_of st img) four

    pub quick_by : P (Err stage.Block) → P (Err stage.Field) → P (Err stage.Frame) → P (quick_lookup block img key)
    unfolding quick_lookup opened
    quick_by two three four = block-by (parse block) two three four

  -- ---- which numbers are answered

  abbrev quick_numbers : List ℕ
  quick_numbers = 0 ∷ 1 ∷ 2 ∷ 3 ∷ 4 ∷ 8 ∷ 18 ∷ []

  abbrev Allowed : Result Located Stage → Type 0
  Allowed l = Memᴰ (number_of (lookup_numbers l)) quick_numbers

  walk-allowed : (w : Result WalkEnd WalkBroken) → Allowed (from_walk w)
  unfolding from_walk
  walk-allowed (Ok (end.Found t j e)) = member quick_numbers 0 (omega arith)
  walk-allowed (Ok (end.Absent t j)) = member quick_numbers 1 (omega arith)
  walk-allowed (Err _) = member quick_numbers 6 (omega arith)

  no_record : (l : Result Located Stage) → number_of (lookup_numbers l) ≢ 0 → take 2 (drop 1 (lookup_numbers l)) ≡ 0 ∷ 0 ∷ []
  no_record (Ok (looked.Found p)) ne = absurd (ne refl)
  no_record (Ok (looked.Absent e)) ne = refl
  no_record (Err s) ne = refl

  no_end : (l : Result Located Stage) → number_of (lookup_numbers l) ≢ 0 → number_of (lookup_numbers l) ≢ 1 → drop 3 (lookup_numbers l) ≡ 0 ∷ 0 ∷ []
  no_end (Ok (looked.Found p)) ne other = absurd (ne refl)
  no_end (Ok (looked.Absent e)) ne other = absurd (other refl)
  no_end (Err s) ne other = refl

  pub quick_answers : QuickAnswers block img key (quick_lookup block img key)
  quick_answers =
      record {
        allowed =
            quick_by Allowed (λ _ _. member quick_numbers 5 (omega arith)) walk-allowed (member quick_numbers 2 (omega arith))
            (member quick_numbers 3 (omega arith)) (member quick_numbers 4 (omega arith));
        no_record = no_record (quick_lookup block img key);
        no_end = no_end (quick_lookup block img key);
        found = λ p e. (quick_finds p e).0;
      }
