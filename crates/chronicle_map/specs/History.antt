-- A list of calls run over an image, and the history's map, which sees the calls and never the image.
use Rattle.std.specs.Prelude.{ℕ, List, [], ◌∷◌, Bool, true, false, not, length}
use Rattle.std.proofs.Math.Option.{Option, none, some}
use Rattle.lists.specs.Decide.{choose}
use Rattle.lists.specs.Lists.{first, those}
use Rattle.lists.specs.Runs.{after_all, on_each}
use Rattle.words.specs.Bytes.{same}
use Rattle.settings.specs.declared.Settings.{Settings}
use Rattle.settings.specs.Block.{settings_of}
use Rattle.layout.specs.Frame.{shape_of}
use Rattle.entries.specs.Pairs.{Pair, pairs_of}
use Rattle.growing.specs.Growing.{no_bulk}
use Rattle.edit.specs.declared.Policy.{Policy}
use Rattle.edit.specs.Edits.{no_room}
use Rattle.chronicle_map.specs.Asked.{Given, a_key, an_entry, GivenKeyFits, given_key_fits?, GivenValueFits, given_value_fits?}
use Rattle.chronicle_map.specs.Calls.{number_of, lookup, lookup_numbers, record_bytes, remove, store, grow, answer_number}

pub data Call : Type 0 where
  looks_up : List ℕ → Call
  stores : Policy → List ℕ → List ℕ → Call
  removes : List ℕ → Call
  grows : Call

-- the number, and a lookup's record (empty where there is none)
pub record Said : Type 0 where
  pub number : ℕ
  pub bytes : List ℕ

-- ---- over the image

module _ (block : List ℕ) where
  -- what one call answers, and the image as it leaves it
  unfoldable pub says : List ℕ → Call → Said
  says img (looks_up key) = record { number = number_of (lookup_numbers (lookup block img key)); bytes = record_bytes img (lookup block img key) }
  says img (stores policy key value) = record { number = answer_number (store policy block img key value).answer; bytes = [] }
  says img (removes key) = record { number = answer_number (remove block img key).answer; bytes = [] }
  says img grows = record { number = answer_number (grow block img).answer; bytes = [] }

  unfoldable pub leaves : List ℕ → Call → List ℕ
  leaves img (looks_up key) = img
  leaves img (stores policy key value) = (store policy block img key value).image
  leaves img (removes key) = (remove block img key).image
  leaves img grows = (grow block img).image

  -- what the map is told of a call: whether the row of 10 holds for the image that a store gets, and whether 13 applies to a grow
  unfoldable pub told_of : List ℕ → Call → Bool
  told_of img (looks_up key) = false
  told_of img (stores policy key value) = no_room (shape_of (settings_of block) img) img key value
  told_of img (removes key) = false
  told_of img grows = no_bulk (shape_of (settings_of block) img) (length img)

  -- a list of calls, each on the image as the last one left it: the image at the end, what each call answered, what the map is told of each
  abbrev pub run : List ℕ → List Call → List ℕ
  run img calls = after_all leaves img calls

  abbrev pub answers : List ℕ → List Call → List Said
  answers img calls = on_each leaves says img calls

  abbrev pub told : List ℕ → List Call → List Bool
  told img calls = on_each leaves told_of img calls

-- ---- the map

abbrev pub Map : Type 0
Map = List Pair

unfoldable pub has_key : List ℕ → Pair → Bool
has_key key p = same p.key key

-- the keys and records of the image's live entries
abbrev pub map_of : List ℕ → List ℕ → Map
map_of block img = pairs_of (shape_of (settings_of block) img) img

unfoldable pub map_get : Map → List ℕ → Option Pair
map_get m key = first m (has_key key)

unfoldable pub map_drop : Map → List ℕ → Map
map_drop m key = those m (λ p. not (has_key key p))

abbrev pub map_set : Map → List ℕ → List ℕ → Map
map_set m key value = record { key = key; value = value } ∷ map_drop m key

-- the map's answer, and the map afterwards
pub record Recalled : Type 0 where
  pub said : Said
  pub map : Map

abbrev pub saying : ℕ → List ℕ → Map → Recalled
saying n bytes m = record { said = record { number = n; bytes = bytes }; map = m }

unfoldable pub map_lookup : Map → Option Pair → Recalled
map_lookup m none = saying 1 [] m
map_lookup m (some p) = saying 0 p.value m

unfoldable pub map_remove : Map → List ℕ → Option Pair → Recalled
map_remove m key none = saying 1 [] m
map_remove m key (some p) = saying 0 [] (map_drop m key)

unfoldable pub map_store : Map → List ℕ → List ℕ → Bool → Recalled
map_store m key value true = saying 10 [] m
map_store m key value false = saying 0 [] (map_set m key value)

unfoldable pub map_grow : Map → Bool → Recalled
map_grow m true = saying 13 [] m
map_grow m false = saying 0 [] m

-- where 8 or 9 applies, the lower is answered and the map stays
unfoldable pub unless_value : (st : Settings) (g : Given) → Map → Recalled → Dec (GivenValueFits st g) → Recalled
unless_value st g m r d = choose d (λ _. saying 9 [] m) (λ _. r)

unfoldable pub unless_key : (st : Settings) (g : Given) → Map → Recalled → Dec (GivenKeyFits st g) → Recalled
unless_key st g m r d = choose d (λ _. saying 8 [] m) (λ _. unless_value st g m r (given_value_fits? st g))

unfoldable pub unless : Settings → Given → Map → Recalled → Recalled
unless st g m r = unless_key st g m r (given_key_fits? st g)

unfoldable pub recall : Settings → Map → Call → Bool → Recalled
recall st m (looks_up key) row = unless st (a_key key) m (map_lookup m (map_get m key))
recall st m (stores policy key value) row = unless st (an_entry key value) m (map_store m key value row)
recall st m (removes key) row = unless st (a_key key) m (map_remove m key (map_get m key))
recall st m grows row = map_grow m row

-- fed a list of calls, each with what it is told
unfoldable pub map_answers : Settings → Map → List Call → List Bool → List Said
map_answers st m [] rows = []
map_answers st m (c ∷ cs) [] = []
map_answers st m (c ∷ cs) (row ∷ rows) = (recall st m c row).said ∷ map_answers st (recall st m c row).map cs rows

unfoldable pub map_after : Settings → Map → List Call → List Bool → Map
map_after st m [] rows = m
map_after st m (c ∷ cs) [] = m
map_after st m (c ∷ cs) (row ∷ rows) = map_after st (recall st m c row).map cs rows
