-- What the code of a store knows by its policy: where it writes on the spot, and where it goes on as the tight store.
use Prim.Native.Nat.{ℕ}
use mathlib.Core.List.{List}
use mathlib.Core.Path.{◌≡◌, ap, ap₂, sym, ◌∙◌, subst}
use mathlib.Core.Bool.{Bool, true, false}
use mathlib.Core.Option.{Option as Maybe, none, some}
use Rattle.std.proofs.Common.{Option, None, Some}
use native.Mathlib.Omega.{arith}
use lib.ListN.{length}
use Rattle.words.specs.Bytes.{Bytes}
use Rattle.layout.specs.declared.Shape.{Shape}
use Rattle.entries.specs.declared.Live.{Live}
use Rattle.entries.specs.Stored.{chunks_for}
use Rattle.entries.specs.Live.{chunk_of}
use Rattle.counters.specs.Recount.{settle}
use Rattle.placement.specs.declared.Old.{Old}
use Rattle.placement.specs.declared.walk.Walk.{Walk}
use Rattle.placement.specs.Asking.{CanWrite}
use Rattle.placement.specs.Walking.{Walked}
use Rattle.placement.specs.Placement.{write_entry}
use Rattle.placement.proofs.Rewriting.{rewrite-asks}
use Rattle.unlinking.proofs.Emptied.{main-stays}
use Rattle.edit.specs.declared.Policy.{Policy}
use Rattle.edit.specs.declared.Policy.TheVariants.{Tight}
use Rattle.edit.specs.Edits.{find, on_the_spot, spot_of, entry_in, stored_entry, store_image}
use Rattle.edit.specs.Replaced.{carried, old_of, old_on_the_spot, Stores, Storable, Walks}
use Rattle.edit.proofs.Replacing.{found-old}
use Rattle.edit.proofs.Policies.{Spot, spot-some, old-spot, old-moves}
use Rattle.edit.proofs.Roomy.{replacement-room}
use Rattle.edit.proofs.OnTheSpot.{spot-chunk, rewrites}

pub walks : {z : Shape} {img key value : List ℕ} {w : Walk} {n : ℕ} → Storable z img key value
    → n ≡ chunks_for z.settings (length key) (length value) → Walked z img key n w → Walks z img key value w n
walks s en k = record { storable = s; chunks_is = en; walked = k }

module _ {z : Shape} {img key value : List ℕ} {w : Walk} {n : ℕ} (k : Walks z img key value w n) where
  abbrev needed : ℕ
  needed = chunks_for z.settings (length key) (length value)

  old-is : w.old ≡ old_of (find z img key)
  old-is = k.walked.old_is ∙ found-old z img k.storable.sound key

  module _ (policy : Policy) {r : Option Old} (er : r ≡ old_on_the_spot policy w.old n) where
    by-find : r ≡ old_on_the_spot policy (old_of (find z img key)) needed
    by-find = er ∙ ap₂ (λ (o : Option Old) (m : ℕ). old_on_the_spot policy o m) old-is k.chunks_is

    -- ---- on the spot

    module _ (a : Old) (t : r ≡ Some a) where
      spot : (e : Live) × (a ≡ carried e) × Spot policy needed (find z img key) e
      spot = old-spot policy needed (find z img key) a (sym by-find ∙ t)

      abbrev e : Live
      e = spot.0

      known : Spot policy needed (find z img key) e
      known = spot.2

      pub spot-writes : Bytes key → Bytes value → CanWrite z img a.tier a.chunk key value
      spot-writes kb vb =
          let chunk-is : e.chunk ≡ chunk_of z img e.tier e.slot = spot-chunk z img key e known.found in
          let at_slot : CanWrite z img e.tier (chunk_of z img e.tier e.slot) key value =
          rewrite-asks
          (rewrites
          (record { storable = k.storable; key_bytes = kb; value_bytes = vb; is_found = known.found; as_many = known.as_many })) in
          subst (λ (o : Old). CanWrite z img o.tier o.chunk key value) (sym spot.1)
          (subst (λ (c : ℕ). CanWrite z img e.tier c key value) (sym chunk-is) at_slot)

      spot-of : spot_of policy z img key value ≡ some e
      spot-of = ap₂ (λ (p : Policy) (o : Maybe Live). on_the_spot p needed o) known.policy_is known.found ∙ spot-some needed e known.as_many

      pub spot-stored : {y : List ℕ} → y ≡ write_entry z img a.tier a.chunk key value → Stores policy z img key value true y
      unfolding store_image stored_entry entry_in settle
      spot-stored ey = (
        replacement-room z img k.storable.sound key value e known.found (omega (arith, known.as_many)),
        ey
            ∙ ap (λ (o : Old). write_entry z img o.tier o.chunk key value) spot.1
            ∙ sym (main-stays z _ 0 (omega arith))
            ∙ sym (ap (stored_entry z img key value) spot-of),
      )

    -- ---- as the tight store

    pub tight-stored : r ≡ None → (done : Bool) (y : List ℕ) → Stores Tight z img key value done y → Stores policy z img key value done y
    unfolding store_image on_the_spot
    tight-stored f true y s =
        let none-there : spot_of policy z img key value ≡ none =
        old-moves policy needed (find z img key) (sym by-find ∙ f) in
        (s.0, s.1 ∙ sym (ap (stored_entry z img key value) none-there))
    tight-stored f false y s = s
