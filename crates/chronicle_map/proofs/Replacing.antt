-- Request A5: a record stored under the key of a live entry, by both kinds of store.
use Prim.Native.Nat.{ℕ, ◌+◌, ◌≤◌}
use mathlib.Core.List.{List, Memᴰ}
use mathlib.Core.Path.{◌≡◌, refl, ap, sym, ◌∙◌}
use mathlib.Core.Logic.{◌≢◌}
use mathlib.Core.Bool.{false, not}
use mathlib.Core.Option.{some}
use native.Mathlib.Omega.{arith}
use lib.ListN.{length}
use Rattle.lists.specs.Lists.{those, total}
use Rattle.lists.proofs.Decides.{choose_yes}
use Rattle.words.specs.Bytes.{Bytes, same}
use Rattle.settings.specs.Block.{settings_of}
use Rattle.layout.specs.declared.Shape.{Shape}
use Rattle.layout.specs.Frame.{shape_of}
use Rattle.entries.specs.declared.Live.{Live}
use Rattle.entries.specs.Keys.{KeyFits}
use Rattle.entries.specs.Stored.{key_of, chunks_for, longest_value, ValueFits}
use Rattle.entries.specs.Live.{live}
use Rattle.entries.specs.Pairs.{Pair, pairs_of}
use Rattle.entries.proofs.LiveLists.{live_in_lem}
use Rattle.sound.specs.Sound.{SoundImage}
use Rattle.image.specs.declared.Counts.{Counts}
use Rattle.image.specs.declared.Outcome.TheVariants as outcome
use Rattle.image.specs.Check.{check}
use Rattle.placement.proofs.Rewriting.{Rewrites, rewritten}
use Rattle.edit.specs.declared.Policy.{Policy}
use Rattle.edit.specs.declared.Policy.TheVariants.{OnTheSpot, Tight}
use Rattle.edit.specs.Edits.{find, no_room, on_the_spot, spot_of, stored_entry, store_image}
use Rattle.edit.specs.Replaced.{Storable}
use Rattle.edit.proofs.Finding.{found-only}
use Rattle.edit.proofs.Replacing.{live-key-fits, live-most}
use Rattle.edit.proofs.Policies.{spot-some}
use Rattle.edit.proofs.Roomy.{replacement-room}
use Rattle.edit.proofs.OnTheSpot.{WritesOver, rewrites, spot_is}
use Rattle.edit.proofs.Stored.{store-sound, store-pairs}
use Rattle.std.specs.Prelude.{Ok}
use Rattle.chronicle_map.specs.Asked.{an_entry, given_key_fits?, given_value_fits?, after_value, after_key}
use Rattle.chronicle_map.specs.Calls.{Edited, answer_number, store_unless, storing, store}
use Rattle.chronicle_map.specs.History.{stores, map_of, map_get, told_of}
use Rattle.chronicle_map.specs.Demands.{shape}
use Rattle.chronicle_map.proofs.Weights.{Weigh}
use Rattle.chronicle_map.proofs.Accepting.{Holds, holds-again, map-again}
use Rattle.chronicle_map.proofs.Steps.{asked-holds, store-by-cases}
use Rattle.chronicle_map.proofs.Altering.{same-get}
use Rattle.chronicle_map.proofs.Keeping.{marked}

module _ (block img : List ℕ) (h : Holds block img) where
  abbrev z : Shape
  z = shape block img

  module _ (key value : List ℕ) (room : no_room z img key value ≡ false) (policy : Policy) where
    -- ---- 10 is not answered

    pub not-10 : answer_number (store policy block img key value).answer ≢ 10
    unfolding store_unless
    not-10 =
        store-by-cases block img h policy key value (λ x. answer_number x.answer ≢ 10) (omega arith) (omega arith)
        (λ k v. rw room (omega arith))

    -- ---- nor anything else but 0 where the key and the record fit

    store_is : KeyFits z.settings key → ValueFits z.settings (length key) (length value)
        → store policy block img key value ≡ record { answer = Ok tt; image = store_image policy z img key value }
    unfolding store storing store_unless after_key after_value
    store_is k v =
        ap (storing policy img key value)
        (asked-holds block img h (an_entry key value)
        ∙ choose_yes (given_key_fits? z.settings (an_entry key value)) _ _ k
        ∙ choose_yes (given_value_fits? z.settings (an_entry key value)) _ _ v)
        ∙ ap (store_unless policy z img key value) room

-- an entry that is replaced by one of as many chunks
pub record Replacement (block img : List ℕ) (e : Live) (key value : List ℕ) : Type 0 where
  pub holds : Holds block img
  pub is_live : Memᴰ e (live (shape block img) img)
  pub key_is : key_of img e.entry ≡ key
  pub key_bytes : Bytes key
  pub value_bytes : Bytes value
  pub long : length value ≤ longest_value
  pub as_many : chunks_for (settings_of block) (length key) (length value) ≡ e.chunks

module _ {block img : List ℕ} {e : Live} {key value : List ℕ} (r : Replacement block img e key value) where
  abbrev z' : Shape
  z' = shape block img

  found : find z' img key ≡ some e
  found = found-only z' img r.holds.sound key e r.is_live r.key_is

  storable : Storable z' img key value
  unfolding shape_of
  storable =
      record {
        sound = r.holds.sound;
        key_fits = rw r.key_is at (live-key-fits z' img r.holds.sound e (live_in_lem z' img e r.is_live));
        value_fits =
            record { not_longer = r.long; not_too_many = omega (arith, r.as_many, live-most z' img r.holds.sound e (live_in_lem z' img e r.is_live)) };
      }

  room : no_room z' img key value ≡ false
  unfolding shape_of
  room = replacement-room z' img r.holds.sound key value e found (omega (arith, r.as_many))

  module _ (policy : Policy) where
    stored : store policy block img key value ≡ record { answer = Ok tt; image = store_image policy z' img key value }
    stored = store_is block img r.holds key value room policy storable.key_fits storable.value_fits

    pub is-done : answer_number (store policy block img key value).answer ≡ 0
    is-done = ap (λ (x : Edited). answer_number x.answer) stored

    pub image-is : (store policy block img key value).image ≡ store_image policy (shape block img) img key value
    image-is = ap (λ (x : Edited). x.image) stored

    sound-after : SoundImage z' (store policy block img key value).image
    sound-after = rw image-is (store-sound policy z' img key value storable r.key_bytes r.value_bytes room)

    pub holds_after : Holds block (store policy block img key value).image
    holds_after = holds-again r.holds sound-after

    weighs : (F : Pair → ℕ) → total (map_of block (store policy block img key value).image) F
        ≡ F (record { key = key; value = value }) + total (those (pairs_of z' img) (λ p. not (same p.key key))) F
    weighs F =
        ap (λ (l : List Pair). total l F) (sym (map-again r.holds sound-after))
        ∙ ap (λ (x : List ℕ). total (pairs_of z' x) F) image-is
        ∙ store-pairs policy z' img key value storable r.key_bytes r.value_bytes room F

  -- ---- both kinds leave the same map

  pub same-weight : Weigh (map_of block (store OnTheSpot block img key value).image) (map_of block (store Tight block img key value).image)
  same-weight F = weighs OnTheSpot F ∙ sym (weighs Tight F)

  pub same_map : (other : List ℕ)
      → map_get (map_of block (store OnTheSpot block img key value).image) other ≡ map_get (map_of block (store Tight block img key value).image) other
  same_map other = same-get _ _ (holds_after OnTheSpot).sound _ same-weight other

  pub same-marked : (c d : Counts) → check block (store OnTheSpot block img key value).image ≡ record { outcome = outcome.Accepted c }
      → check block (store Tight block img key value).image ≡ record { outcome = outcome.Accepted d } → c.chunks ≡ d.chunks
  unfolding shape_of
  same-marked c d ec ed = marked block _ _ (holds_after OnTheSpot) same-weight c ec ∙ sym (marked block _ _ (holds_after Tight) (λ F. refl) d ed)

  -- ---- and on the spot the entry is written over

  pub spot-of : spot_of OnTheSpot (shape block img) img key value ≡ some e
  unfolding shape_of
  spot-of = ap (on_the_spot OnTheSpot (chunks_for z'.settings (length key) (length value))) found ∙ spot-some _ e (sym r.as_many)

  over : WritesOver z' img key value e
  unfolding shape_of
  over = record { storable = storable; key_bytes = r.key_bytes; value_bytes = r.value_bytes; is_found = found; as_many = sym r.as_many }

  pub spot-rewrites : Rewrites (shape block img) img e.segment e.tier e.slot key value
  spot-rewrites = rewrites over

  pub spot-image : (store OnTheSpot block img key value).image ≡ rewritten (shape block img) img e.tier e.slot key value
  unfolding store_image
  spot-image = image-is OnTheSpot ∙ ap (stored_entry z' img key value) spot-of ∙ spot_is over

-- ---- as many chunks or fewer

module _ (block img : List ℕ) (h : Holds block img) (policy : Policy) (e : Live) (m : Memᴰ e (live (shape block img) img)) (key value : List ℕ)
    (key_is : key_of img e.entry ≡ key) (few : chunks_for (settings_of block) (length key) (length value) ≤ e.chunks) where
  pub never_row10_lem : told_of block img (stores policy key value) ≡ false
  unfolding told_of shape_of
  never_row10_lem =
      replacement-room (shape block img) img h.sound key value e (found-only (shape block img) img h.sound key e m key_is) few

  pub never-full : answer_number (store policy block img key value).answer ≢ 10
  unfolding told_of
  never-full = not-10 block img h key value never_row10_lem policy
