-- Two runs of one list of calls, by its first call: where each call keeps two images alike, so does the list.
use Prim.Native.Nat.{ℕ, suc}
use mathlib.Core.List.Memᴰ
use mathlib.Core.List.{List, [], ◌∷◌}
use mathlib.Core.Path.{◌≡◌, refl}
use mathlib.Core.Logic.{◌≢◌, ⊎_elim}
use mathlib.Core.Bool.{Bool, true, false}
use lib.Dec.{eqb}
use borrow.Author.Tests.{eqb-true, eqb-false}
use Rattle.lists.specs.Cases.{by-test, one_of, neither}
use Rattle.lists.specs.Quantify.{Every}
use Rattle.lists.specs.Runs.{after_all, on_each}
use Rattle.same_map.specs.SameAnswers.{ReadAlike, either10, before_first10, Never10, Interface, answers_of, compared, SameBefore10}

module _ {C A : Type 0} (interface : Interface C A) (block : List ℕ) where
  open interface use {number, says, leaves}

  -- what one call makes of two images that read alike
  pub record OneCall (c : C) (one other : List ℕ) : Type 0 where
    pub said : says one c ≡ says other c
    pub alike : ReadAlike block (leaves one c) (leaves other c)

  abbrev pub KeepsAlike : C → Type 0
  KeepsAlike c = (one other : List ℕ) → ReadAlike block one other → number (says one c) ≢ 10 → number (says other c) ≢ 10 → OneCall c one other

  module _ (c : C) (cs : List C) where
    -- no 10 in the list: none to the first call, and none later
    at_first : (img : List ℕ) → Never10 number (answers_of interface img (c ∷ cs)) → number (says img c) ≢ 10
    unfolding on_each
    at_first img never = never (says img c) (Memᴰ.head refl)

    later : (img : List ℕ) → Never10 number (answers_of interface img (c ∷ cs)) → Never10 number (answers_of interface (leaves img c) cs)
    unfolding on_each
    later img never x m = never x (Memᴰ.tail m)

    module _ (one other : List ℕ) where
      abbrev full : Bool
      full = either10 number (says one c) (says other c)

      none_more : full ≡ true → compared interface block one other (c ∷ cs) ≡ 0
      unfolding on_each before_first10
      none_more t = rw (t, before_first10)

      one_more : full ≡ false → compared interface block one other (c ∷ cs) ≡ suc (compared interface block (leaves one c) (leaves other c) cs)
      unfolding on_each before_first10
      one_more t = rw (t, before_first10)

      abbrev said10 : List ℕ → Bool
      said10 img = eqb (number (says img c)) 10

      neither10 : full ≡ false → (number (says one c) ≢ 10) × (number (says other c) ≢ 10)
      neither10 t =
          let no10 : (said10 one ≡ false) × (said10 other ≡ false) = neither (said10 one) (said10 other) t in
          (eqb-false (number (says one c)) 10 no10.0, eqb-false (number (says other c)) 10 no10.1)

      -- one of the two answers 10 to the first call
      stopped : full ≡ true → ReadAlike block one other → SameBefore10 interface block one other (c ∷ cs)
      unfolding after_all
      stopped t alike =
          record {
            same = rw (none_more t);
            whole = λ never never'.
                absurd
                (⊎_elim
                (λ (e : said10 one ≡ true). at_first one never (eqb-true (number (says one c)) 10 e))
                (λ (e : said10 other ≡ true). at_first other never' (eqb-true (number (says other c)) 10 e))
                (one_of (said10 one) (said10 other) t));
            after = rw (none_more t) alike;
          }

      went_on : full ≡ false → OneCall c one other → SameBefore10 interface block (leaves one c) (leaves other c) cs
          → SameBefore10 interface block one other (c ∷ cs)
      unfolding on_each after_all
      went_on t call rest =
          record {
            same = rw (one_more t) (λ i. call.said i ∷ rest.same i);
            whole = λ never never'. λ i. call.said i ∷ rest.whole (later one never) (later other never') i;
            after = rw (one_more t) rest.after;
          }

  pub both : (calls : List C) → Every calls KeepsAlike → (one other : List ℕ) → ReadAlike block one other
      → SameBefore10 interface block one other calls
  unfolding on_each after_all before_first10
  both [] keeps one other alike = record { same = refl; whole = λ _ _. refl; after = alike }
  both (c ∷ cs) keeps one other alike =
      by-test (full c cs one other)
      (λ t. stopped c cs one other t alike)
      (λ t.
      let no10 : (number (says one c) ≢ 10) × (number (says other c) ≢ 10) = neither10 c cs one other t in
      let call : OneCall c one other = keeps c (Memᴰ.head refl) one other alike no10.0 no10.1 in
      went_on c cs one other t call (both cs (λ x m. keeps x (Memᴰ.tail m)) (leaves one c) (leaves other c) call.alike))
