-- The entry that an edit removes, if there is one, as the code carries it.
use Rattle.std.specs.Prelude.{ℕ, ◌+◌, ◌≤◌, ◌<◌, List, ◌≡◌, Bool, true, false, eqb, length, Option, Some, None, option_map, IfSome}
use Rattle.std.proofs.Math.Option.{Option as Maybe, none, some}
use Rattle.layout.specs.declared.Shape.{Shape}
use Rattle.layout.specs.Tiers.{IsTier}
use Rattle.layout.specs.Frame.{Framed}
use Rattle.entries.specs.declared.Live.{Live}
use Rattle.entries.specs.Keys.{KeyFits}
use Rattle.entries.specs.Stored.{chunks_for, ValueFits}
use Rattle.sound.specs.Sound.{SoundImage}
use Rattle.counters.specs.Recount.{settle, touched_with}
use Rattle.removal.specs.Removal.{remove_at}
use Rattle.placement.specs.declared.Old.{Old}
use Rattle.placement.specs.declared.walk.Walk.{Walk}
use Rattle.placement.specs.Asking.{CanPlace}
use Rattle.placement.specs.Walking.{Walked}
use Rattle.placement.specs.Placement.{place_at}
use Rattle.joining.specs.Joining.{join}
use Rattle.joining.specs.Asking.{CanJoin}
use Rattle.unlinking.specs.Unlinking.{unlink_empty}
use Rattle.unlinking.specs.Asking.{CanUnlinkEmpty}
use Rattle.edit.specs.declared.Policy.{Policy}
use Rattle.edit.specs.declared.Policy.TheVariants.{OnTheSpot, Tight}
use Rattle.edit.specs.Edits.{no_room, store_image}

-- a live entry, as the code carries it
abbrev pub carried : Live → Old
carried e = record { tier = e.tier; slot = e.slot; chunk = e.chunk; chunks = e.chunks }

unfoldable pub old_of : Maybe Live → Option Old
old_of none = None
old_of (some e) = Some (carried e)

-- the image without it
unfoldable pub without_old : Shape → List ℕ → Option Old → List ℕ
without_old z img None = img
without_old z img (Some o) = remove_at z img o.tier o.slot o.chunk o.chunks

-- the tier that it leaves, if there is one; and the image with that tier gone home, if it is empty now
abbrev pub old_tier : Option Old → Option ℕ
old_tier old = option_map (λ o. o.tier) old

unfoldable pub old_home : Shape → List ℕ → Option Old → List ℕ
old_home z img None = img
old_home z img (Some o) = unlink_empty z img o.tier

-- after a store in tier t, from chunk c on; and with the tier that the entry left gone home, if it is empty now
unfoldable pub placed_old : Shape → List ℕ → Option Old → ℕ → ℕ → List ℕ → List ℕ → List ℕ
placed_old z img old t c key value = settle z (place_at z (without_old z img old) t c key value) (touched_with t (old_tier old))

unfoldable pub replaced_old : Shape → List ℕ → Option Old → ℕ → ℕ → List ℕ → List ℕ → List ℕ
replaced_old z img old t c key value = old_home z (placed_old z img old t c key value) old

-- where the first free tier joins segment s's chain and takes it; the tier that the entry left has another one
unfoldable pub extended_old : Shape → List ℕ → Option Old → ℕ → ℕ → List ℕ → List ℕ → List ℕ
extended_old z img old s t key value = settle z (place_at z (join z (without_old z img old) s) t 0 key value) (touched_with t (old_tier old))

-- it, where an entry of n chunks takes its place
abbrev pub old_on_the_spot : Policy → Option Old → ℕ → Option Old
old_on_the_spot Tight old n = None
old_on_the_spot OnTheSpot None n = None
old_on_the_spot OnTheSpot (Some o) n = elim (eqb o.chunks n) [ true ↦ Some o | false ↦ None ]

-- it stands in a tier
pub record OldFits (z : Shape) (old : Old) : Type 0 where
  pub tier_in : IsTier z old.tier
  pub slot_in : old.slot < z.settings.slots
  pub range_ends : old.chunk + old.chunks ≤ z.settings.chunks

abbrev pub is_there : Maybe Live → Bool
is_there none = false
is_there (some e) = true

-- a store was done, or there was no room and the image is as before
abbrev pub Stores : Policy → Shape → List ℕ → List ℕ → List ℕ → Bool → List ℕ → Type 0
Stores policy z img key value true img' = (no_room z img key value ≡ false) × (img' ≡ store_image policy z img key value)
Stores policy z img key value false img' = (no_room z img key value ≡ true) × (img' ≡ img)

-- what a store asks for
pub record Storable (z : Shape) (img key value : List ℕ) : Type 0 where
  pub sound : SoundImage z img
  pub key_fits : KeyFits z.settings key
  pub value_fits : ValueFits z.settings (length key) (length value)

-- what the tight store asks for, after the walk
pub record Walks (z : Shape) (img key value : List ℕ) (w : Walk) (n : ℕ) : Type 0 where
  pub storable : Storable z img key value
  pub chunks_is : n ≡ chunks_for z.settings (length key) (length value)
  pub walked : Walked z img key n w

-- what its two ends ask for, once the place is known
pub record Replaces (z : Shape) (img : List ℕ) (old : Option Old) (t c : ℕ) (slot : Option ℕ) (key value : List ℕ) : Type 0 where
  pub framed : Framed z (length img)
  pub old_fits : IfSome old (OldFits z)
  pub places : CanPlace z (without_old z img old) t c slot key value
  pub leaves : IfSome old (λ o. CanUnlinkEmpty z (placed_old z img old t c key value) o.tier)

pub record Extends (z : Shape) (img : List ℕ) (old : Option Old) (s t : ℕ) (key value : List ℕ) : Type 0 where
  pub framed : Framed z (length img)
  pub old_fits : IfSome old (OldFits z)
  pub joins : CanJoin z (without_old z img old) s
  pub places : CanPlace z (join z (without_old z img old) s) t 0 None key value
