-- The calls: each says its whole answer and every byte of the image on return.
use Rattle.std.specs.Prelude.{ℕ, ◌+◌, List, [], ◌∷◌, ◌≡◌, Bool, true, false, length, get_or, Result, Ok, Err}
use Rattle.std.proofs.Math.Option.{Option, none, some}
use Rattle.std.specs.Borrow.{Bor}
use Rattle.words.specs.Bytes.{cut}
use Rattle.chains.specs.Chains.{last_tier}
use Rattle.entries.specs.declared.Live.{Live}
use Rattle.entries.specs.Keys.{segment_of}
use Rattle.layout.specs.declared.Shape.{Shape}
use Rattle.search.specs.Search.{first_empty}
use Rattle.image.specs.declared.Stage.{Stage}
use Rattle.image.specs.Check.{stage_number, examine, Examined}
use Rattle.growing.specs.Growing.{no_bulk, grow_image}
use Rattle.edit.specs.declared.Policy.{Policy}
use Rattle.edit.specs.Edits.{find, remove_image, no_room, store_image}
use Rattle.chronicle_map.specs.declared.RecordPlace.{RecordPlace}
use Rattle.chronicle_map.specs.declared.SearchEnd.{SearchEnd}
use Rattle.chronicle_map.specs.declared.Located.{Located}
use Rattle.chronicle_map.specs.declared.Located.TheVariants as looked
use Rattle.chronicle_map.specs.declared.EditError.{EditError}
use Rattle.chronicle_map.specs.declared.EditError.TheVariants as error
use Rattle.chronicle_map.specs.Asked.{a_key, an_entry, asked}

-- of the numbers of an answer, the first is document 01's number
abbrev pub number_of : List ℕ → ℕ
number_of ns = get_or ns 0 0

-- ---- lookup: the record of the live entry with this whole key; where there is none, where the search for the key ends

-- where the record of an entry stands
abbrev pub place_of : Live → RecordPlace
place_of e = record { offset = e.entry.valueAt; length = e.entry.valueLength; tier = e.tier; slot = e.slot }

-- the search goes through the whole chain, and ends in its last tier at the first empty slot from the key's start slot on
abbrev pub end_in : Shape → List ℕ → List ℕ → ℕ → SearchEnd
end_in z img key t = record { tier = t; slot = first_empty z img key t }

abbrev pub search_end : Shape → List ℕ → List ℕ → SearchEnd
search_end z img key = end_in z img key (last_tier z img (segment_of z.settings key))

unfoldable pub from_find : Shape → List ℕ → List ℕ → Option Live → Located
from_find z img key none = looked.Absent (search_end z img key)
from_find z img key (some e) = looked.Found (place_of e)

unfoldable pub looked_up : List ℕ → List ℕ → Examined → Result Located Stage
looked_up img key (Err s) = Err s
looked_up img key (Ok (z, c)) = Ok (from_find z img key (find z img key))

unfoldable pub lookup : List ℕ → List ℕ → List ℕ → Result Located Stage
lookup block img key = looked_up img key (asked block img (a_key key))

-- document 01's number, then offset, length, tier and slot
abbrev pub lookup_numbers : Result Located Stage → List ℕ
lookup_numbers (Ok (looked.Found p)) = 0 ∷ p.offset ∷ p.length ∷ p.tier ∷ p.slot ∷ []
lookup_numbers (Ok (looked.Absent e)) = 1 ∷ 0 ∷ 0 ∷ e.tier ∷ e.slot ∷ []
lookup_numbers (Err s) = stage_number s ∷ 0 ∷ 0 ∷ 0 ∷ 0 ∷ []

-- the second call's part of the image: where it starts, and its bytes
unfoldable pub record_at : Result Located Stage → ℕ
record_at (Ok (looked.Found p)) = p.offset
record_at (Ok (looked.Absent e)) = 0
record_at (Err s) = 0

unfoldable pub record_length : Result Located Stage → ℕ
record_length (Ok (looked.Found p)) = p.length
record_length (Ok (looked.Absent e)) = 0
record_length (Err s) = 0

unfoldable pub record_bytes : List ℕ → Result Located Stage → List ℕ
record_bytes img l = cut img (record_at l) (record_length l)

-- r is the part of a lent slice that has n bytes from place `at` on: in the same memory, `at` bytes after the slice's start
pub record PartOf (lent : Bor (List ℕ)) (at n : ℕ) (r : Bor (List ℕ)) : Type 0 where
  pub memory : r.ref_ptr.0 ≡ lent.ref_ptr.0
  pub start : r.ref_ptr.1 ≡ lent.ref_ptr.1 + at
  pub bytes : r.now ≡ cut lent.now at n

-- r is the part of the image that the record is; without a record, the empty part at offset 0
abbrev pub RecordOf : Bor (List ℕ) → Result Located Stage → Bor (List ℕ) → Type 0
RecordOf img l r = PartOf img (record_at l) (record_length l) r

-- ---- edits: the answer, and the image on return

pub record Edited : Type 0 where
  pub answer : Result (Unit {0}) EditError
  pub image : List ℕ

abbrev pub error_number : EditError → ℕ
error_number error.Absent = 1
error_number error.Full = 10
error_number error.NoBulk = 13
error_number (error.Refused s) = stage_number s

abbrev pub answer_number : Result (Unit {0}) EditError → ℕ
answer_number (Ok _) = 0
answer_number (Err e) = error_number e

-- where the key is, its entry is removed
unfoldable pub remove_found : Shape → List ℕ → List ℕ → Option Live → Edited
remove_found z img key none = record { answer = Err error.Absent; image = img }
remove_found z img key (some e) = record { answer = Ok tt; image = remove_image z img key }

unfoldable pub removing : List ℕ → List ℕ → Examined → Edited
removing img key (Err s) = record { answer = Err (error.Refused s); image = img }
removing img key (Ok (z, c)) = remove_found z img key (find z img key)

unfoldable pub remove : List ℕ → List ℕ → List ℕ → Edited
remove block img key = removing img key (asked block img (a_key key))

-- where the row of 10 does not hold, the entry is stored; whether it does is no matter of the policy
unfoldable pub store_unless : Policy → Shape → List ℕ → List ℕ → List ℕ → Bool → Edited
store_unless policy z img key value true = record { answer = Err error.Full; image = img }
store_unless policy z img key value false = record { answer = Ok tt; image = store_image policy z img key value }

unfoldable pub storing : Policy → List ℕ → List ℕ → List ℕ → Examined → Edited
storing policy img key value (Err s) = record { answer = Err (error.Refused s); image = img }
storing policy img key value (Ok (z, c)) = store_unless policy z img key value (no_room z img key value)

unfoldable pub store : Policy → List ℕ → List ℕ → List ℕ → List ℕ → Edited
store policy block img key value = storing policy img key value (asked block img (an_entry key value))

-- one bulk more, where there is room for it: 13 comes after 2 to 7
unfoldable pub grow_unless : Shape → List ℕ → Bool → Edited
grow_unless z img true = record { answer = Err error.NoBulk; image = img }
grow_unless z img false = record { answer = Ok tt; image = grow_image z img }

unfoldable pub growing : List ℕ → Examined → Edited
growing img (Err s) = record { answer = Err (error.Refused s); image = img }
growing img (Ok (z, c)) = grow_unless z img (no_bulk z (length img))

unfoldable pub grow : List ℕ → List ℕ → Edited
grow block img = growing img (examine block img)
