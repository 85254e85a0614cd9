-- Demand 2: what the check accepts, what a lookup finds, and what an edit alters.
use Prim.Native.Nat.{ℕ}
use mathlib.Core.List.{List, [], ◌∷◌, Memᴰ}
use mathlib.Core.Path.{◌≡◌, refl, ap, sym, ◌∙◌, subst}
use mathlib.Core.Logic.{◌≢◌}
use mathlib.Core.Bool.{Bool, true, false, not}
use mathlib.Core.Option.{Option, none, some}
use native.Mathlib.Omega.{arith}
use borrow.Author.Tests.{not-true}
use Rattle.std.specs.Prelude.{Ok}
use Rattle.lists.specs.Cases.{by-test}
use Rattle.lists.specs.Decide.{choose}
use Rattle.lists.specs.Lists.{first, those}
use Rattle.lists.proofs.Decides.{choose_no, choose_yes}
use Rattle.lists.proofs.Members.{those_in, none_first}
use Rattle.words.specs.Bytes.{Bytes}
use Rattle.words.proofs.Bytes.{same_true, same_refl, same_false}
use Rattle.settings.specs.declared.Settings.{Settings}
use Rattle.settings.specs.Block.{settings_of}
use Rattle.layout.specs.declared.Shape.{Shape}
use Rattle.layout.proofs.Frames.{shape-settings}
use Rattle.entries.specs.declared.Live.{Live}
use Rattle.entries.specs.Keys.{KeyFits}
use Rattle.entries.specs.Stored.{key_of}
use Rattle.entries.specs.Live.{live}
use Rattle.entries.specs.Pairs.{Pair, pair_of, pairs_of}
use Rattle.sound.specs.Sound.{SoundImage, ImageFits}
use Rattle.edit.specs.declared.Policy.{Policy}
use Rattle.image.specs.declared.Counts.{Counts}
use Rattle.image.specs.declared.Stage.TheVariants.{Key}
use Rattle.image.specs.Check.{counts_of, examine, verdict_of, check}
use Rattle.image.proofs.Ready.{Fitting, fitting-ready, ready-fitting}
use Rattle.edit.specs.Edits.{find}
use Rattle.edit.proofs.Finding.{found-only}
use Rattle.edit.proofs.Replacing.{live-key-fits}
use Rattle.entries.proofs.LiveLists.{live_in_lem}
use Rattle.std.specs.Prelude.{Ok, Err}
use Rattle.chronicle_map.specs.declared.Located.TheVariants as looked
use Rattle.chronicle_map.specs.Asked.{a_key, an_entry, GivenKeyFits, given_key_fits?, GivenValueFits, given_value_fits?, after_value, after_key}
use Rattle.chronicle_map.specs.Calls.{place_of, search_end, from_find, looked_up, lookup, answer_number, remove, store}
use Rattle.chronicle_map.specs.History.{Call, Said, stores, removes, says, leaves, told_of, Map, has_key, map_of, map_get, map_drop, map_set, map_remove, map_store, unless_value, unless_key, unless, recall}
use Rattle.chronicle_map.specs.Demands.{Accepted, shape, Fits, LooksUp, Alters, Demand2}
use Rattle.chronicle_map.proofs.Weights.{Weigh}
use Rattle.chronicle_map.proofs.Accepting.{Holds, holds-accepted, accepted-ready, accepted-holds}
use Rattle.chronicle_map.proofs.Mapping.{map_found, map-none}
use Rattle.chronicle_map.proofs.Steps.{asked-holds, Step, step}

-- ---- the check accepts exactly the images that fit

pub fits-accepted : (block img : List ℕ) → Fits block img → Accepted block img
unfolding check verdict_of
fits-accepted block img f = (
  counts_of (shape block img) img,
  ap verdict_of (fitting-ready block img (shape block img) (record { block_fits = f.block_fits; shape = refl; image = f.image_fits })),
)

pub accepted-fits : (block img : List ℕ) → Accepted block img → Fits block img
unfolding check
accepted-fits block img (c, e) =
    let r : (z : Shape) × (d : Counts) × (examine block img ≡ Ok (z, d)) = accepted-ready block img (examine block img) c e in
    let f : Fitting block img r.0 = ready-fitting block img r.0 r.1 r.2 in
    record { block_fits = f.block_fits; image_fits = subst (λ (z : Shape). ImageFits z img) f.shape f.image }

-- ---- maps

-- a map that weighs the same finds the same
pub same-get : (z : Shape) (img : List ℕ) → SoundImage z img → (m : Map) → Weigh (pairs_of z img) m → (key : List ℕ)
    → map_get (pairs_of z img) key ≡ map_get m key
same-get z img sound m w key = by-find (find z img key) refl
  where
    by-find : (o : Option Live) → find z img key ≡ o → map_get (pairs_of z img) key ≡ map_get m key
    by-find none f = map-none z img sound (pairs_of z img) (λ F. refl) key f ∙ sym (map-none z img sound m w key f)
    by-find (some e) f = map_found z img sound (pairs_of z img) (λ F. refl) key e f ∙ sym (map_found z img sound m w key e f)

pub set_own : (m : Map) (key value : List ℕ) → map_get (map_set m key value) key ≡ some (record { key = key; value = value })
unfolding map_get has_key first
set_own m key value = rw (same_refl key, first)

pub drop_own : (m : Map) (key : List ℕ) → map_get (map_drop m key) key ≡ none
unfolding map_get map_drop
drop_own m key = none_first (has_key key) (those m (λ p. not (has_key key p))) (λ p mp. not-true _ (those_in (λ (q : Pair). not (has_key key q)) p m mp).1)

key_apart : (p : Pair) (key other : List ℕ) → other ≢ key → has_key key p ≡ true → has_key other p ≡ false
unfolding has_key
key_apart p key other n t = same_false p.key other (λ (e : p.key ≡ other). n (sym e ∙ same_true p.key key t))

pub drop-other : (m : Map) (key other : List ℕ) → other ≢ key → map_get (map_drop m key) other ≡ map_get m other
unfolding map_get map_drop first those
drop-other [] key other n = refl
drop-other (p ∷ m) key other n =
    by-test (has_key key p)
    (λ (t : has_key key p ≡ true).
    let u : has_key other p ≡ false = key_apart p key other n t in
    rw (t, those, u, first) (drop-other m key other n))
    (λ (t : has_key key p ≡ false).
    rw (t, those)
    (by-test (has_key other p)
    (λ (u : has_key other p ≡ true). rw (u, first))
    (λ (u : has_key other p ≡ false). rw (u, first) (drop-other m key other n))))

pub set_other : (m : Map) (key value other : List ℕ) → other ≢ key → map_get (map_set m key value) other ≡ map_get m other
unfolding map_get has_key first
set_other m key value other n = rw (same_false key other (λ (e : key ≡ other). n (sym e)), first) (drop-other m key other n)

-- ---- the map's answer 0

module _ (st : Settings) (m : Map) (key : List ℕ) where
  module _ (value : List ℕ) (row : Bool) where
    row_zero : (r : Bool) → (map_store m key value r).said.number ≡ 0 → (map_store m key value r).map ≡ map_set m key value
    unfolding map_store
    row_zero true e = absurd (omega arith)
    row_zero false e = refl

    value-zero : (d : Dec (GivenValueFits st (an_entry key value))) → (unless_value st (an_entry key value) m (map_store m key value row) d).said.number ≡ 0
        → (unless_value st (an_entry key value) m (map_store m key value row) d).map ≡ map_set m key value
    unfolding choose unless_value
    value-zero (no n) e = absurd (omega arith)
    value-zero (yes v) e = row_zero row e

    store-zero : (d : Dec (GivenKeyFits st (an_entry key value))) → (unless_key st (an_entry key value) m (map_store m key value row) d).said.number ≡ 0
        → (unless_key st (an_entry key value) m (map_store m key value row) d).map ≡ map_set m key value
    unfolding choose unless_key
    store-zero (no n) e = absurd (omega arith)
    store-zero (yes k) e = value-zero (given_value_fits? st (an_entry key value)) e

  found-zero : (o : Option Pair) → (map_remove m key o).said.number ≡ 0 → (map_remove m key o).map ≡ map_drop m key
  unfolding map_remove
  found-zero none e = absurd (omega arith)
  found-zero (some p) e = refl

  remove-zero : (d : Dec (GivenKeyFits st (a_key key))) → (unless_key st (a_key key) m (map_remove m key (map_get m key)) d).said.number ≡ 0
      → (unless_key st (a_key key) m (map_remove m key (map_get m key)) d).map ≡ map_drop m key
  unfolding choose unless_key unless_value given_value_fits?
  remove-zero (no n) e = absurd (omega arith)
  remove-zero (yes k) e = found-zero (map_get m key) e

-- ---- a lookup, by whether the key fits

module _ (block img : List ℕ) (h : Holds block img) where
  abbrev z₀ : Shape
  z₀ = shape block img

  pub lookup-is : (key : List ℕ) → KeyFits z₀.settings key → lookup block img key ≡ Ok (from_find z₀ img key (find z₀ img key))
  unfolding lookup looked_up after_key after_value
  lookup-is key k =
      ap (looked_up img key)
      (asked-holds block img h (a_key key)
      ∙ choose_yes (given_key_fits? z₀.settings (a_key key)) _ _ k
      ∙ choose_yes (given_value_fits? z₀.settings (a_key key)) _ _ tt)

  pub lookup_misfit : (key : List ℕ) → (KeyFits z₀.settings key → ⊥) → lookup block img key ≡ Err Key
  unfolding lookup looked_up after_key
  lookup_misfit key n = ap (looked_up img key) (asked-holds block img h (a_key key) ∙ choose_no (given_key_fits? z₀.settings (a_key key)) _ _ n)

-- ---- a call on an accepted image

module _ (block img : List ℕ) (b : Bytes img) (a : Accepted block img) where
  abbrev z : Shape
  z = shape block img

  h : Holds block img
  h = accepted-holds block img b a

  -- a lookup

  looks-up : (key : List ℕ) → LooksUp block img key
  unfolding from_find
  looks-up key = record { stored = there; none = not_there }
    where
      there : (e : Live) → Memᴰ e (live z img) → key_of img e.entry ≡ key
          → lookup block img key ≡ Ok (looked.Found (place_of e))
      there e m k =
          let fits : KeyFits z.settings key = rw k at (live-key-fits z img h.sound e (live_in_lem z img e m)) in
          lookup-is block img h key fits ∙ ap (λ (o : Option Live). Ok (from_find z img key o)) (found-only z img h.sound key e m k)

      not_there : KeyFits (settings_of block) key → map_get (map_of block img) key ≡ none
          → lookup block img key ≡ Ok (looked.Absent (search_end z img key))
      not_there k g =
          lookup-is block img h key (subst (λ (st : Settings). KeyFits st key) (sym (shape-settings (settings_of block) img)) k)
          ∙ ap (λ (o : Option Live). Ok (from_find z img key o)) (by-find (find z img key) refl)
        where
          by-find : (o : Option Live) → find z img key ≡ o → o ≡ none
          by-find none f = refl
          by-find (some e) f =
              let q : some (pair_of img e) ≡ none = sym (map_found z img h.sound (pairs_of z img) (λ F. refl) key e f) ∙ g in
              absurd (let n : ◌≡◌ {A = ℕ} 0 1 = cc in omega arith)

  -- an edit whose image agrees with the map that has the key altered

  alters : (img' key : List ℕ) (m : Map) (p : Option Pair) → Holds block img' → Weigh (map_of block img') m → map_get m key ≡ p
      → ((other : List ℕ) → other ≢ key → map_get m other ≡ map_get (pairs_of z img) other) → Alters block img img' key p
  alters img' key m p h' w own others =
      record {
        accepted = holds-accepted block img' h';
        altered = reads key ∙ own;
        others = λ other n. reads other ∙ others other n;
      }
    where
      reads : (k : List ℕ) → map_get (map_of block img') k ≡ map_get m k
      reads k = same-get (shape block img') img' h'.sound m w k

  stored : (policy : Policy) (key value : List ℕ) → Bytes key → Bytes value → answer_number (store policy block img key value).answer ≡ 0
      → Alters block img (store policy block img key value).image key (some (record { key = key; value = value }))
  unfolding leaves says recall unless
  stored policy key value kb vb e =
      let call : Call = stores policy key value in
      let s : Step block img h (pairs_of z img) (λ F. refl) call = step block img h (pairs_of z img) (λ F. refl) call (kb, vb) in
      let n : (recall (settings_of block) (pairs_of z img) call (told_of block img call)).said.number ≡ 0 =
      ap (λ (x : Said). x.number) (sym s.said) ∙ e in
      let m : (recall (settings_of block) (pairs_of z img) call (told_of block img call)).map ≡ map_set (pairs_of z img) key value =
      store-zero (settings_of block) (pairs_of z img) key value (told_of block img call) (given_key_fits? (settings_of block) (an_entry key value)) n in
      alters (store policy block img key value).image key (map_set (pairs_of z img) key value) (some (record { key = key; value = value })) s.holds
      (rw m at s.weighs) (set_own (pairs_of z img) key value) (set_other (pairs_of z img) key value)

  removed : (key : List ℕ) → Bytes key → answer_number (remove block img key).answer ≡ 0 → Alters block img (remove block img key).image key none
  unfolding leaves says recall unless
  removed key kb e =
      let s : Step block img h (pairs_of z img) (λ F. refl) (removes key) = step block img h (pairs_of z img) (λ F. refl) (removes key) kb in
      let n : (recall (settings_of block) (pairs_of z img) (removes key) false).said.number ≡ 0 = ap (λ (x : Said). x.number) (sym s.said) ∙ e in
      let m : (recall (settings_of block) (pairs_of z img) (removes key) false).map ≡ map_drop (pairs_of z img) key =
      remove-zero (settings_of block) (pairs_of z img) key (given_key_fits? (settings_of block) (a_key key)) n in
      alters (remove block img key).image key (map_drop (pairs_of z img) key) none s.holds (rw m at s.weighs)
      (drop_own (pairs_of z img) key) (drop-other (pairs_of z img) key)

  pub demand2 : Demand2 block img
  demand2 =
      record {
        lookups = looks-up;
        stored = stored;
        removed = removed;
      }
