-- The full slots of a chain, and a table of references to them. The number t * slots + j refers to slot j of tier t.
use Rattle.std.specs.Prelude.{ℕ, ◌+◌, ◌*◌, ◌/◌, ◌%◌, ◌≡◌, List, Bool, ◌≢◌, length, get_or, set}
use Rattle.layout.specs.declared.Shape.{Shape}
use Rattle.probe.specs.Table.{Table}
use Rattle.probe.specs.Search.{seek}
use Rattle.entries.specs.Live.{slot_at}
use Rattle.search.specs.Search.{hits}
use Rattle.search.specs.Rules.{keyAt}
use Rattle.gather.specs.Rows.{Place}
use Rattle.once.specs.declared.Sharing.{Sharing}
use Rattle.once.specs.Sharing.{pass_for, place_for, number_of}

module _ (z : Shape) (img : List ℕ) where
  open z use {settings}
  open settings use {slots}

  -- a slot's reference, and the key of the slot that w refers to
  abbrev pub ref_to : Place → ℕ
  ref_to a = a.0 * slots + a.1

  unfoldable pub key_of_ref : ℕ → List ℕ
  key_of_ref w = keyAt z img (w / slots) (w % slots)

  -- that slot stands for the key of slot a
  unfoldable pub meant : Place → ℕ → Bool
  meant a w = hits z img (keyAt z img a.0 a.1) (w / slots) (slot_at z img (w / slots) (w % slots))

  abbrev pub SameKey : Place → Place → Type 0
  SameKey a b = keyAt z img a.0 a.1 ≡ keyAt z img b.0 b.1

  -- a full slot; one whose key pass p takes
  abbrev pub IsFull : ℕ → ℕ → Type 0
  IsFull t j = slot_at z img t j ≢ 0

  module _ (by : Sharing) where
    abbrev pub InPass : ℕ → ℕ → ℕ → Type 0
    InPass p t j = IsFull t j × (pass_for by.passBits (number_of by settings (keyAt z img t j)) ≡ p)

    -- a list of n references as a table
    abbrev pub ref_table : ℕ → Table (List ℕ)
    ref_table n =
        record {
          size = n;
          start = λ w. place_for by.passBits n (number_of by settings (key_of_ref w));
          get = λ m i. get_or m i 0;
          put = λ m i v. set m i v;
        }

    -- where the search for the key of slot a ends
    unfoldable pub seek_ref : List ℕ → Place → ℕ
    seek_ref m a = seek (ref_table (length m)) (meant a) m ((ref_table (length m)).start (ref_to a))
