-- Request A1: the lowest free chunk fields after a store or a removal that is answered 0.
use Prim.Native.Nat.{ℕ}
use mathlib.Core.List.{List}
use mathlib.Core.Path.{◌≡◌, refl}
use mathlib.Core.Bool.{Bool, true, false}
use mathlib.Core.Option.{Option, none, some}
use native.Mathlib.Omega.{arith}
use Rattle.lists.specs.Decide.{choose}
use Rattle.words.specs.Bytes.{Bytes}
use Rattle.layout.specs.declared.Shape.{Shape}
use Rattle.entries.specs.declared.Live.{Live}
use Rattle.edit.specs.declared.Policy.{Policy}
use Rattle.image.specs.Check.{counts_of}
use Rattle.counters.specs.LowMarks.{LowMarks}
use Rattle.edit.specs.Edits.{find, no_room, remove_tiers, store_tiers}
use Rattle.edit.proofs.Without.{remove-lows}
use Rattle.edit.proofs.Stored.{store-lows}
use Rattle.chronicle_map.specs.Asked.{a_key, an_entry, GivenKeyFits, given_key_fits?, GivenValueFits, given_value_fits?, after_value, after_key}
use Rattle.chronicle_map.specs.Calls.{Edited, answer_number, remove_found, removing, remove, store_unless, store}
use Rattle.chronicle_map.specs.Demands.{Accepted, shape, LowMarksFollow}
use Rattle.chronicle_map.proofs.Accepting.{Holds, accepted-holds}
use Rattle.chronicle_map.proofs.Steps.{asked-holds, store-by-cases}

module _ (block img : List ℕ) (h : Holds block img) where
  abbrev z : Shape
  z = shape block img

  -- what is claimed of an edit that changes some tiers, whatever it answers
  abbrev Follows : List ℕ → Edited → Type 0
  Follows changed x = answer_number x.answer ≡ 0 → LowMarks z img x.image changed

  module _ (policy : Policy) (key value : List ℕ) (key_bytes : Bytes key) (value_bytes : Bytes value) where
    with_row : GivenKeyFits z.settings (an_entry key value) → GivenValueFits z.settings (an_entry key value) → (b : Bool)
        → no_room z img key value ≡ b → Follows (store_tiers policy z img key value) (store_unless policy z img key value b)
    unfolding store_unless
    with_row k v true e a = absurd (omega arith)
    with_row k v false e a = store-lows policy z img key value (record { sound = h.sound; key_fits = k; value_fits = v }) key_bytes value_bytes e

    stored : Follows (store_tiers policy z img key value) (store policy block img key value)
    stored =
        store-by-cases block img h policy key value (Follows (store_tiers policy z img key value)) (λ a. absurd (omega arith)) (λ a. absurd (omega arith))
        (λ k v. with_row k v (no_room z img key value) refl)

  found : (key : List ℕ) (o : Option Live) → Follows (remove_tiers z img key) (remove_found z img key o)
  unfolding remove_found
  found key none a = absurd (omega arith)
  found key (some e) a = remove-lows z img h.sound key

  removal_key : (key : List ℕ) (d : Dec (GivenKeyFits z.settings (a_key key)))
      → Follows (remove_tiers z img key) (removing img key (after_key z (counts_of z img) (a_key key) d))
  unfolding choose after_key after_value given_value_fits? removing
  removal_key key (no n) a = absurd (omega arith)
  removal_key key (yes k) a = found key (find z img key) a

  follow : LowMarksFollow block img
  unfolding store remove
  follow =
      record {
        stored = stored;
        removed = λ key. rw (asked-holds block img h (a_key key)) (removal_key key (given_key_fits? z.settings (a_key key)));
      }

pub low-marks : (block img : List ℕ) → Bytes img → Accepted block img → LowMarksFollow block img
low-marks block img b a = follow block img (accepted-holds block img b a)
