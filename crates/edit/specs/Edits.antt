-- What an edit does to an accepted image: removal and store of a key; and the row of 10.
use Rattle.std.specs.Prelude.{ℕ, List, [], ◌∷◌, Bool, true, false, eqb, length}
use Rattle.std.proofs.Math.Option.{Option, none, some}
use Rattle.lists.specs.Lists.{first}
use Rattle.words.specs.Bytes.{same}
use Rattle.layout.specs.declared.Shape.{Shape}
use Rattle.chains.specs.Chains.{chain, free_head}
use Rattle.entries.specs.declared.Live.{Live}
use Rattle.entries.specs.Keys.{segment_of}
use Rattle.entries.specs.Stored.{key_of, chunks_for}
use Rattle.entries.specs.Live.{live}
use Rattle.counters.specs.Recount.{settle, touched}
use Rattle.removal.specs.Removal.{remove_entry}
use Rattle.placement.specs.declared.Run.{Run}
use Rattle.placement.specs.declared.Run.TheVariants.{At, Nowhere}
use Rattle.placement.specs.Runs.{run_for}
use Rattle.placement.specs.Placement.{write_entry, place_at}
use Rattle.joining.specs.Joining.{join}
use Rattle.unlinking.specs.Unlinking.{unlink_empty}
use Rattle.edit.specs.declared.Policy.{Policy}
use Rattle.edit.specs.declared.Policy.TheVariants.{OnTheSpot, Tight}

-- the live entry with this whole key
unfoldable pub find : Shape → List ℕ → List ℕ → Option Live
find z img key = first (live z img) (λ e. same (key_of img e.entry) key)

-- ---- removal

-- the image without an entry, before the counters follow
unfoldable pub without_entry : Shape → List ℕ → Option Live → List ℕ
without_entry z img none = img
without_entry z img (some e) = remove_entry z img e

-- the image without the key's entry, if there is one: what a store asks of and starts from
unfoldable pub without : Shape → List ℕ → List ℕ → List ℕ
without z img key = without_entry z img (find z img key)

-- the tiers that an entry leaves; those in which a removal frees chunks
abbrev pub left : Option Live → List ℕ
left none = []
left (some e) = e.tier ∷ []

abbrev pub remove_tiers : Shape → List ℕ → List ℕ → List ℕ
remove_tiers z img key = left (find z img key)

-- the tier that an entry leaves (0 where there is none)
abbrev pub tier_of : Option Live → ℕ
tier_of none = 0
tier_of (some e) = e.tier

-- the image after a removal: the counters of those tiers follow, and an extra tier that is empty now goes home
unfoldable pub removed_entry : Shape → List ℕ → Option Live → List ℕ
removed_entry z img o = unlink_empty z (settle z (without_entry z img o) (left o)) (tier_of o)

unfoldable pub remove_image : Shape → List ℕ → List ℕ → List ℕ
remove_image z img key = removed_entry z img (find z img key)

-- ---- store

-- which tier of the key's chain takes the entry, and where
unfoldable pub run_of : Shape → List ℕ → List ℕ → List ℕ → Run
run_of z img key value = run_for z img (chain z img (segment_of z.settings key)) (chunks_for z.settings (length key) (length value))

-- the row of 10: no tier of the chain takes the entry once its old one is removed, and no tier is free
abbrev pub nowhere_to_go : Shape → List ℕ → Run → Bool
nowhere_to_go z img (At t c) = false
nowhere_to_go z img Nowhere = eqb (free_head z img) 0

unfoldable pub no_room : Shape → List ℕ → List ℕ → List ℕ → Bool
no_room z img key value = nowhere_to_go z (without z img key) (run_of z (without z img key) key value)

-- in the run; else the first free tier joins the chain and takes the entry from its first chunk on
unfoldable pub place_in : Shape → List ℕ → List ℕ → List ℕ → Run → List ℕ
place_in z img key value (At t c) = place_at z img t c key value
place_in z img key value Nowhere = place_at z (join z img (segment_of z.settings key)) (free_head z img) 0 key value

-- the tier that takes it
abbrev pub tier_for : Shape → List ℕ → Run → ℕ
tier_for z img (At t c) = t
tier_for z img Nowhere = free_head z img

abbrev pub taking_tier : Shape → List ℕ → List ℕ → List ℕ → ℕ
taking_tier z img key value = tier_for z (without z img key) (run_of z (without z img key) key value)

-- the old entry, where the new one, of n chunks, takes its place: the policy allows it, and it has as many chunks
unfoldable pub on_the_spot : Policy → ℕ → Option Live → Option Live
on_the_spot Tight n o = none
on_the_spot OnTheSpot n none = none
on_the_spot OnTheSpot n (some e) = elim (eqb e.chunks n) [ true ↦ some e | false ↦ none ]

abbrev pub spot_of : Policy → Shape → List ℕ → List ℕ → List ℕ → Option Live
spot_of policy z img key value = on_the_spot policy (chunks_for z.settings (length key) (length value)) (find z img key)

-- the tiers in which a store takes or frees chunks: none on the spot
abbrev pub tiers_by : Shape → List ℕ → List ℕ → List ℕ → Option Live → List ℕ
tiers_by z img key value (some e) = []
tiers_by z img key value none = touched (taking_tier z img key value) (tier_of (find z img key))

abbrev pub store_tiers : Policy → Shape → List ℕ → List ℕ → List ℕ → List ℕ
store_tiers policy z img key value = tiers_by z img key value (spot_of policy z img key value)

-- on the spot the entry's own bytes are written and nothing else; else the old entry is removed first, in effect
unfoldable pub entry_in : Shape → List ℕ → List ℕ → List ℕ → Option Live → List ℕ
entry_in z img key value (some e) = write_entry z img e.tier e.chunk key value
entry_in z img key value none = place_in z (without z img key) key value (run_of z (without z img key) key value)

-- the tier that the old entry leaves: none on the spot
abbrev pub tier_left : Shape → List ℕ → List ℕ → Option Live → ℕ
tier_left z img key (some e) = 0
tier_left z img key none = tier_of (find z img key)

-- the image after a store: the counters of those tiers follow, and an extra tier that is empty now goes home. The place was sought before
unfoldable pub stored_entry : Shape → List ℕ → List ℕ → List ℕ → Option Live → List ℕ
stored_entry z img key value o = unlink_empty z (settle z (entry_in z img key value o) (tiers_by z img key value o)) (tier_left z img key o)

unfoldable pub store_image : Policy → Shape → List ℕ → List ℕ → List ℕ → List ℕ
store_image policy z img key value = stored_entry z img key value (spot_of policy z img key value)
