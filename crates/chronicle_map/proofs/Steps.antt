-- One call on an accepted image: it answers what the map answers, and leaves an image and a map that agree again.
use Prim.Native.Nat.{ℕ, ◌+◌}
use mathlib.Core.List.{List, []}
use mathlib.Core.Path.{◌≡◌, refl, ap, sym, ◌∙◌, subst}
use mathlib.Core.Bool.{Bool, true, false, not}
use mathlib.Core.Option.{Option, none, some}
use native.Mathlib.Omega.{arith}
use Rattle.lists.specs.Decide.{choose}
use Rattle.lists.specs.Lists.{total}
use Rattle.words.specs.Bytes.{Bytes, same}
use lib.ListN.{length}
use Rattle.settings.specs.declared.Settings.{Settings}
use Rattle.settings.specs.Block.{settings_of}
use Rattle.layout.specs.declared.Shape.{Shape}
use Rattle.layout.specs.Frame.{shape_of}
use Rattle.layout.proofs.Frames.{shape-settings}
use Rattle.entries.specs.declared.Live.{Live}
use Rattle.entries.specs.Keys.{KeyFits}
use Rattle.entries.specs.Stored.{ValueFits}
use Rattle.entries.specs.Pairs.{Pair, pair_of, pairs_of}
use Rattle.sound.specs.Sound.{SoundImage}
use Rattle.growing.specs.Growing.{grown, no_bulk, grow_image}
use Rattle.growing.proofs.Sound.{grow-sound, grow-pairs}
use Rattle.edit.specs.declared.Policy.{Policy}
use Rattle.image.specs.declared.Stage.TheVariants.{Key, Value}
use Rattle.image.specs.Check.{Examined, counts_of}
use Rattle.edit.specs.Edits.{find, no_room, store_image}
use Rattle.edit.specs.Replaced.{Storable}
use Rattle.std.specs.Prelude.{Ok, Err}
use Rattle.chronicle_map.specs.declared.EditError.TheVariants as error
use Rattle.chronicle_map.specs.Asked.{Given, a_key, an_entry, GivenKeyFits, given_key_fits?, GivenValueFits, given_value_fits?, after_value, after_key, after_examined, asked}
use Rattle.chronicle_map.specs.Calls.{number_of, from_find, looked_up, lookup, lookup_numbers, record_at, record_length, record_bytes, Edited, answer_number, remove_found, removing, remove, store_unless, storing, store, grow_unless, growing, grow}
use Rattle.chronicle_map.specs.History.{Call, looks_up, stores, removes, grows, Said, says, leaves, told_of, Map, has_key, map_of, map_get, map_set, map_drop, Recalled, map_lookup, map_remove, map_store, map_grow, unless_value, unless_key, unless, recall}
use Rattle.edit.proofs.Without.{remove-sound, remove-pairs}
use Rattle.edit.proofs.Stored.{store-sound, store-pairs}
use Rattle.chronicle_map.specs.Demands.{ByteCall, shape}
use Rattle.chronicle_map.proofs.Weights.{Weigh, weigh-those}
use Rattle.chronicle_map.proofs.Accepting.{Holds, holds-ready, holds_by, map-by, holds-again, map-again}
use Rattle.chronicle_map.proofs.Mapping.{map_found, map-none}

-- what the refusals are, once the image is accepted
pub asked-holds : (block img : List ℕ) → Holds block img → (g : Given)
    → asked block img g ≡ after_key (shape block img) (counts_of (shape block img) img) g (given_key_fits? (shape block img).settings g)
unfolding asked after_examined
asked-holds block img h g = ap (after_examined g) (holds-ready block img h)

-- a store there, by whether key and record fit
module _ (block img : List ℕ) (h : Holds block img) (policy : Policy) (key value : List ℕ) (P : Edited → Type 0)
    (badKey : P (record { answer = Err (error.Refused Key); image = img })) (badValue : P (record { answer = Err (error.Refused Value); image = img }))
    (fits : KeyFits (shape block img).settings key → ValueFits (shape block img).settings (length key) (length value)
    → P (store_unless policy (shape block img) img key value (no_room (shape block img) img key value))) where
  abbrev st : Settings
  st = (shape block img).settings

  by_value : KeyFits st key → (d : Dec (GivenValueFits st (an_entry key value)))
      → P (storing policy img key value (after_value (shape block img) (counts_of (shape block img) img) (an_entry key value) d))
  unfolding choose after_value storing
  by_value k (no n) = badValue
  by_value k (yes v) = fits k v

  by_key : (d : Dec (GivenKeyFits st (an_entry key value)))
      → P (storing policy img key value (after_key (shape block img) (counts_of (shape block img) img) (an_entry key value) d))
  unfolding choose after_key storing
  by_key (no n) = badKey
  by_key (yes k) = by_value k (given_value_fits? st (an_entry key value))

  pub store-by-cases : P (store policy block img key value)
  unfolding store
  store-by-cases = rw (asked-holds block img h (an_entry key value)) (by_key (given_key_fits? st (an_entry key value)))

module _ (block img : List ℕ) (h : Holds block img) (m : Map) (w : Weigh (map_of block img) m) where
  abbrev z : Shape
  z = shape block img

  -- ---- lookup

  abbrev says_of : Examined → List ℕ → Said
  says_of x key = record { number = number_of (lookup_numbers (looked_up img key x)); bytes = record_bytes img (looked_up img key x) }

  found-said : (key : List ℕ) (o : Option Live) → find z img key ≡ o
      → record { number = number_of (lookup_numbers (Ok (from_find z img key o))); bytes = record_bytes img (Ok (from_find z img key o)) }
      ≡ (map_lookup m (map_get m key)).said
  unfolding from_find record_bytes record_at record_length map_lookup
  found-said key none f = rw (map-none z img h.sound m w key f)
  found-said key (some e) f = rw (map_found z img h.sound m w key e f)

  lookup-said : (key : List ℕ) (d : Dec (GivenKeyFits z.settings (a_key key)))
      → says_of (after_key z (counts_of z img) (a_key key) d) key ≡ (unless_key z.settings (a_key key) m (map_lookup m (map_get m key)) d).said
  unfolding choose after_key after_value given_value_fits? looked_up record_bytes record_at record_length unless_key unless_value
  lookup-said key (no n) = refl
  lookup-said key (yes k) = found-said key (find z img key) refl

  found_map : (key : List ℕ) (o : Option Pair) → (map_lookup m o).map ≡ m
  unfolding map_lookup
  found_map key none = refl
  found_map key (some p) = refl

  lookup-map : (key : List ℕ) (d : Dec (GivenKeyFits z.settings (a_key key)))
      → (unless_key z.settings (a_key key) m (map_lookup m (map_get m key)) d).map ≡ m
  unfolding choose unless_key unless_value given_value_fits?
  lookup-map key (no n) = refl
  lookup-map key (yes k) = found_map key (map_get m key)

  -- ---- edits

  pub record Agrees (x : Edited) (r : Recalled) : Type 0 where
    pub said : record { number = answer_number x.answer; bytes = [] } ≡ r.said
    pub holds : Holds block x.image
    pub weighs : Weigh (map_of block x.image) r.map

  removed : (key : List ℕ) (o : Option Live) (q : Option Pair) → find z img key ≡ o → map_get m key ≡ q
      → Agrees (remove_found z img key o) (map_remove m key q)
  unfolding remove_found map_remove map_drop has_key
  removed key none none f g = record { said = refl; holds = h; weighs = w }
  removed key none (some p) f g =
      let e : some p ≡ none = sym g ∙ map-none z img h.sound m w key f in
      absurd (let n : ◌≡◌ {A = ℕ} 0 1 = cc in omega arith)
  removed key (some e) none f g =
      let q : none ≡ some (pair_of img e) = sym g ∙ map_found z img h.sound m w key e f in
      absurd (let n : ◌≡◌ {A = ℕ} 0 1 = cc in omega arith)
  removed key (some e) (some p) f g =
      record {
        said = refl;
        holds = holds-again h (remove-sound z img h.sound key);
        weighs =
            subst (λ (l : List Pair). Weigh l (map_drop m key)) (map-again h (remove-sound z img h.sound key))
            (λ F. remove-pairs z img h.sound key F ∙ weigh-those (λ p. not (same p.key key)) (pairs_of z img) m w F);
      }

  remove-agrees : (key : List ℕ) (d : Dec (GivenKeyFits z.settings (a_key key)))
      → Agrees (removing img key (after_key z (counts_of z img) (a_key key) d)) (unless_key z.settings (a_key key) m (map_remove m key (map_get m key)) d)
  unfolding choose after_key after_value given_value_fits? removing unless_key unless_value
  remove-agrees key (no n) = record { said = refl; holds = h; weighs = w }
  remove-agrees key (yes k) = removed key (find z img key) (map_get m key) refl refl

  module _ (policy : Policy) (key value : List ℕ) (key_bytes : Bytes key) (value_bytes : Bytes value) where
    stored : GivenKeyFits z.settings (an_entry key value) → GivenValueFits z.settings (an_entry key value) → (b : Bool) → no_room z img key value ≡ b
        → Agrees (store_unless policy z img key value b) (map_store m key value b)
    unfolding store_unless map_store map_drop has_key total
    stored k v true e = record { said = refl; holds = h; weighs = w }
    stored k v false e =
        let s : Storable z img key value = record { sound = h.sound; key_fits = k; value_fits = v } in
        let after : SoundImage z (store_image policy z img key value) = store-sound policy z img key value s key_bytes value_bytes e in
        record {
          said = refl;
          holds = holds-again h after;
          weighs =
              subst (λ (l : List Pair). Weigh l (map_set m key value)) (map-again h after)
              (λ F.
              store-pairs policy z img key value s key_bytes value_bytes e F
              ∙ ap (λ (n : ℕ). F (record { key = key; value = value }) + n) (weigh-those (λ p. not (same p.key key)) (pairs_of z img) m w F));
        }

    store-value : GivenKeyFits z.settings (an_entry key value) → (d : Dec (GivenValueFits z.settings (an_entry key value))) → (b : Bool)
        → no_room z img key value ≡ b
        → Agrees (storing policy img key value (after_value z (counts_of z img) (an_entry key value) d))
        (unless_value z.settings (an_entry key value) m (map_store m key value b) d)
    unfolding choose after_value storing unless_value
    store-value k (no n) b e = record { said = refl; holds = h; weighs = w }
    store-value k (yes v) b e = rw e (stored k v b e)

    store-agrees : (d : Dec (GivenKeyFits z.settings (an_entry key value))) → (b : Bool) → no_room z img key value ≡ b
        → Agrees (storing policy img key value (after_key z (counts_of z img) (an_entry key value) d))
        (unless_key z.settings (an_entry key value) m (map_store m key value b) d)
    unfolding choose after_key storing unless_key
    store-agrees (no n) b e = record { said = refl; holds = h; weighs = w }
    store-agrees (yes k) b e = store-value k (given_value_fits? z.settings (an_entry key value)) b e

  -- one bulk more: the map stays
  grow-agrees : (b : Bool) → no_bulk z (length img) ≡ b → Agrees (grow_unless z img b) (map_grow m b)
  unfolding grow_unless map_grow
  grow-agrees true e = record { said = refl; holds = h; weighs = w }
  grow-agrees false e =
      let after : SoundImage (grown z) (grow_image z img) = grow-sound z img h.sound e in
      record {
        said = refl;
        holds = holds_by h.block_fits (shape-settings (settings_of block) img) after;
        weighs =
            subst (λ (l : List Pair). Weigh l m)
            (sym (grow-pairs z img h.sound e) ∙ map-by h.block_fits (shape-settings (settings_of block) img) after) w;
      }

  -- ---- any call

  pub record Step (c : Call) : Type 0 where
    pub said : says block img c ≡ (recall (settings_of block) m c (told_of block img c)).said
    pub holds : Holds block (leaves block img c)
    pub weighs : Weigh (map_of block (leaves block img c)) (recall (settings_of block) m c (told_of block img c)).map

  pub step : (c : Call) → ByteCall c → Step c
  unfolding says leaves told_of recall unless lookup remove store growing grow shape_of
  step (looks_up key) b =
      record {
        said = rw (asked-holds block img h (a_key key)) (lookup-said key (given_key_fits? z.settings (a_key key)));
        holds = h;
        weighs = rw (lookup-map key (given_key_fits? z.settings (a_key key))) w;
      }
  step (removes key) b =
      let a : Agrees (remove block img key) (unless z.settings (a_key key) m (map_remove m key (map_get m key))) =
      rw (asked-holds block img h (a_key key)) (remove-agrees key (given_key_fits? z.settings (a_key key))) in
      record { said = a.said; holds = a.holds; weighs = a.weighs }
  step grows b =
      let a : Agrees (grow block img) (map_grow m (no_bulk z (length img))) = rw (holds-ready block img h) (grow-agrees (no_bulk z (length img)) refl) in
      record { said = a.said; holds = a.holds; weighs = a.weighs }
  step (stores policy key value) b =
      let a : Agrees (store policy block img key value) (unless z.settings (an_entry key value) m (map_store m key value (no_room z img key value))) =
      rw (asked-holds block img h (an_entry key value))
      (store-agrees policy key value b.0 b.1 (given_key_fits? z.settings (an_entry key value)) (no_room z img key value) refl) in
      record { said = a.said; holds = a.holds; weighs = a.weighs }
