-- Two maps with the same record under each key: a call that neither answers 10 has the same answer of both, and leaves two such maps.
use Prim.Native.Nat.{ℕ}
use mathlib.Core.List.{List}
use mathlib.Core.Path.{◌≡◌, refl, sym, ◌∙◌}
use mathlib.Core.Logic.{◌≢◌}
use mathlib.Core.Bool.{Bool, true, false, false≢true}
use mathlib.Core.Option.{Option, none, some}
use Rattle.lists.specs.Cases.{by-test}
use Rattle.lists.specs.Decide.{choose}
use Rattle.words.specs.Bytes.{same}
use Rattle.words.proofs.Bytes.{same_true, same_refl}
use Rattle.settings.specs.declared.Settings.{Settings}
use Rattle.entries.specs.Pairs.{Pair}
use Rattle.chronicle_map.specs.Asked.{Given, a_key, an_entry, GivenKeyFits, given_key_fits?, GivenValueFits, given_value_fits?}
use Rattle.chronicle_map.specs.History.{Call, looks_up, stores, removes, grows, Map, map_get, map_drop, map_set, Recalled, map_lookup, map_remove, map_store, unless_value, unless_key, unless, recall}
use Rattle.chronicle_map.proofs.Altering.{set_own, set_other, drop_own, drop-other}

-- the same record under each key
abbrev pub SameRecords : Map → Map → Type 0
SameRecords m n = (key : List ℕ) → map_get m key ≡ map_get n key

-- both answer the same and leave such maps
pub record Together (r s : Recalled) : Type 0 where
  pub said : r.said ≡ s.said
  pub maps : SameRecords r.map s.map

-- neither is answered 10
pub record Neither10 (r s : Recalled) : Type 0 where
  pub one : r.said.number ≢ 10
  pub other : s.said.number ≢ 10

module _ (m n : Map) (maps : SameRecords m n) where
  -- a key's record alone is altered, to the same in both
  altered : (m' n' : Map) (key : List ℕ) {o : Option Pair} → map_get m' key ≡ o → map_get n' key ≡ o
      → ((k : List ℕ) → k ≢ key → map_get m' k ≡ map_get m k)
      → ((k : List ℕ) → k ≢ key → map_get n' k ≡ map_get n k) → SameRecords m' n'
  altered m' n' key own-m own-n others-m others-n k =
      by-test (same k key)
      (λ (t : same k key ≡ true).
      let e : k ≡ key = same_true k key t in
      rw e (own-m ∙ sym own-n))
      (λ (t : same k key ≡ false).
      let d : k ≢ key = λ (e : k ≡ key). false≢true (sym t ∙ rw e (same_refl key)) in
      others-m k d ∙ maps k ∙ sym (others-n k d))

  looked : (o : Option Pair) → Together (map_lookup m o) (map_lookup n o)
  unfolding map_lookup
  looked none = record { said = refl; maps = maps }
  looked (some p) = record { said = refl; maps = maps }

  removed : (key : List ℕ) (o : Option Pair) → Together (map_remove m key o) (map_remove n key o)
  unfolding map_remove
  removed key none = record { said = refl; maps = maps }
  removed key (some p) =
      record { said = refl; maps = altered (map_drop m key) (map_drop n key) key (drop_own m key) (drop_own n key) (drop-other m key) (drop-other n key) }

  stored : (key value : List ℕ) (a b : Bool) → Neither10 (map_store m key value a) (map_store n key value b)
      → Together (map_store m key value a) (map_store n key value b)
  unfolding map_store
  stored key value true b no10 = absurd (no10.one refl)
  stored key value false true no10 = absurd (no10.other refl)
  stored key value false false no10 =
      record {
        said = refl;
        maps = altered (map_set m key value) (map_set n key value) key (set_own m key value) (set_own n key value)
            (set_other m key value) (set_other n key value);
      }

  -- 8 and 9 come first, and are the same for both
  module _ (st : Settings) (g : Given) (r s : Recalled) (rest : Neither10 r s → Together r s) where
    by_value : (d : Dec (GivenValueFits st g)) → Neither10 (unless_value st g m r d) (unless_value st g n s d)
        → Together (unless_value st g m r d) (unless_value st g n s d)
    unfolding choose unless_value
    by_value (no _) no10 = record { said = refl; maps = maps }
    by_value (yes _) no10 = rest no10

    by_key : (d : Dec (GivenKeyFits st g)) → Neither10 (unless_key st g m r d) (unless_key st g n s d)
        → Together (unless_key st g m r d) (unless_key st g n s d)
    unfolding choose unless_key
    by_key (no _) no10 = record { said = refl; maps = maps }
    by_key (yes _) no10 = by_value (given_value_fits? st g) no10

    refused : Neither10 (unless st g m r) (unless st g n s) → Together (unless st g m r) (unless st g n s)
    unfolding unless
    refused no10 = by_key (given_key_fits? st g) no10

  -- any call but a grow, whatever each map is told
  pub recalled : (st : Settings) (c : Call) → c ≢ grows → (a b : Bool) → Neither10 (recall st m c a) (recall st n c b)
      → Together (recall st m c a) (recall st n c b)
  unfolding recall
  recalled st (looks_up key) _ a b no10 =
      refused st (a_key key) (map_lookup m (map_get m key)) (map_lookup n (map_get n key)) (λ _. rw (maps key) (looked (map_get n key))) no10
  recalled st (stores policy key value) _ a b no10 =
      refused st (an_entry key value) (map_store m key value a) (map_store n key value b) (stored key value a b) no10
  recalled st (removes key) _ a b no10 =
      refused st (a_key key) (map_remove m key (map_get m key)) (map_remove n key (map_get n key)) (λ _. rw (maps key) (removed key (map_get n key))) no10
  recalled st grows g a b no10 = absurd (g refl)
