-- A store by either policy, for which the row of 10 does not hold: the image is sound, and has the new key and record beside all other keys.
use Prim.Native.Nat.{ℕ, ◌+◌}
use mathlib.Core.List.{List}
use mathlib.Core.Path.{◌≡◌, refl}
use mathlib.Core.Bool.{false, not}
use mathlib.Core.Option.{Option, none, some}
use Rattle.lists.specs.Lists.{those, total}
use Rattle.words.specs.Bytes.{Bytes, same}
use Rattle.layout.specs.declared.Shape.{Shape}
use Rattle.entries.specs.declared.Live.{Live}
use Rattle.entries.specs.Pairs.{Pair, pairs_of}
use Rattle.sound.specs.Sound.{SoundImage}
use Rattle.counters.specs.LowMarks.{LowMarks}
use Rattle.edit.specs.declared.Policy.{Policy}
use Rattle.edit.specs.Edits.{no_room, spot_of, tiers_by, store_tiers, stored_entry, store_image}
use Rattle.edit.specs.Replaced.{Storable}
use Rattle.edit.proofs.Policies.{Spot, spot-only}
use Rattle.edit.proofs.Storing.{placed-sound, placed-lows, placed-pairs}
use Rattle.edit.proofs.OnTheSpot.{WritesOver, spot-sound, spot-lows, spot-pairs}

module _ (policy : Policy) (z : Shape) (img key value : List ℕ) (w : Storable z img key value) (key_bytes : Bytes key) (value_bytes : Bytes value)
    (some-room : no_room z img key value ≡ false) where
  -- what is claimed of the image after a store that is on the spot of an entry, or is not
  record After (o : Option Live) : Type 0 where
    sound : SoundImage z (stored_entry z img key value o)
    lows : LowMarks z img (stored_entry z img key value o) (tiers_by z img key value o)
    pairs : (F : Pair → ℕ) → total (pairs_of z (stored_entry z img key value o)) F
        ≡ F (record { key = key; value = value }) + total (those (pairs_of z img) (λ p. not (same p.key key))) F

  after : (o : Option Live) → spot_of policy z img key value ≡ o → After o
  after none q =
      record {
        sound = placed-sound z img key value w key_bytes value_bytes some-room;
        lows = placed-lows z img key value w key_bytes value_bytes some-room;
        pairs = placed-pairs z img key value w key_bytes value_bytes some-room;
      }
  after (some e) q =
      let s : Spot policy _ _ e = spot-only policy _ _ e q in
      let over : WritesOver z img key value e =
      record { storable = w; key_bytes = key_bytes; value_bytes = value_bytes; is_found = s.found; as_many = s.as_many } in
      record {
        sound = spot-sound over;
        lows = spot-lows over;
        pairs = spot-pairs over;
      }

  stored : After (spot_of policy z img key value)
  stored = after (spot_of policy z img key value) refl

  pub store-sound : SoundImage z (store_image policy z img key value)
  unfolding store_image
  store-sound = stored.sound

  pub store-lows : LowMarks z img (store_image policy z img key value) (store_tiers policy z img key value)
  unfolding store_image
  store-lows = stored.lows

  pub store-pairs : (F : Pair → ℕ) → total (pairs_of z (store_image policy z img key value)) F
      ≡ F (record { key = key; value = value }) + total (those (pairs_of z img) (λ p. not (same p.key key))) F
  unfolding store_image
  store-pairs = stored.pairs
