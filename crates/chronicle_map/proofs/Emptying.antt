-- Request A13: an extra tier that an edit empties goes home.
use Prim.Native.Nat.{ℕ}
use mathlib.Core.List.{List, Memᴰ}
use mathlib.Core.Path.{◌≡◌, refl, ap, ◌∙◌}
use mathlib.Core.Logic.{◌≢◌}
use mathlib.Core.Bool.{Bool, true, false}
use mathlib.Core.Option.{Option, none, some}
use native.Mathlib.Omega.{arith}
use lib.ListN.{length}
use Rattle.lists.specs.Decide.{choose}
use Rattle.lists.proofs.Decides.{choose_yes}
use Rattle.words.specs.Bytes.{Bytes}
use Rattle.layout.specs.declared.Shape.{Shape}
use Rattle.entries.specs.declared.Live.{Live}
use Rattle.entries.specs.Keys.{KeyFits}
use Rattle.entries.specs.Stored.{key_of, ValueFits}
use Rattle.entries.specs.Live.{live}
use Rattle.entries.proofs.LiveLists.{live_in_lem}
use Rattle.removal.proofs.Removing.{removal_full}
use Rattle.sound.proofs.Sound.{sound-but}
use Rattle.image.specs.Check.{counts_of}
use Rattle.unlinking.specs.GoingHome.{ChainsStay}
use Rattle.edit.specs.declared.Policy.{Policy}
use Rattle.edit.specs.Edits.{find, no_room, remove_image, spot_of, taking_tier, store_image}
use Rattle.edit.proofs.Finding.{found-only}
use Rattle.edit.proofs.Replacing.{live-tier, live-key-fits}
use Rattle.edit.proofs.Roomy.{emptied-room}
use Rattle.edit.proofs.Emptying.{removal_home, removal_stays, store-home}
use Rattle.edit.proofs.NoneLeft.{removal_leaves-none, store-leaves-none}
use Rattle.chronicle_map.specs.Asked.{a_key, GivenKeyFits, given_key_fits?, given_value_fits?, after_value, after_key}
use Rattle.chronicle_map.specs.Calls.{Edited, answer_number, remove_found, removing, remove, store_unless, store}
use Rattle.chronicle_map.specs.Demands.{Accepted, shape, AloneInExtra, TierGoes, TierReplaced, NoneLeft, EmptyTiers}
use Rattle.chronicle_map.proofs.Accepting.{Holds, accepted-holds}
use Rattle.chronicle_map.proofs.Steps.{asked-holds, store-by-cases}

module _ (block img : List ℕ) (h : Holds block img) where
  abbrev z : Shape
  z = shape block img

  -- ---- what a removal leaves: the image as it was, or without the key's entry

  module _ (key : List ℕ) (P : List ℕ → Type 0) (here : P img) (gone : P (remove_image z img key)) where
    by-find : (o : Option Live) → P (remove_found z img key o).image
    unfolding remove_found
    by-find none = here
    by-find (some e) = gone

    by_key : (d : Dec (GivenKeyFits z.settings (a_key key))) → P (removing img key (after_key z (counts_of z img) (a_key key) d)).image
    unfolding choose after_key after_value given_value_fits? removing
    by_key (no n) = here
    by_key (yes k) = by-find (find z img key)

    removal_by : P (remove block img key).image
    unfolding remove
    removal_by = rw (asked-holds block img h (a_key key)) (by_key (given_key_fits? z.settings (a_key key)))

  module _ (e : Live) (m : Memᴰ e (live z img)) (key : List ℕ) (is : key_of img e.entry ≡ key) where
    found : find z img key ≡ some e
    found = found-only z img h.sound key e m is

    key_fits : KeyFits z.settings key
    key_fits = rw is at (live-key-fits z img h.sound e (live_in_lem z img e m))

    removal_is : (remove block img key).image ≡ remove_image z img key
    unfolding remove removing remove_found after_key after_value given_value_fits? choose
    removal_is =
        ap (λ x. (removing img key x).image) (asked-holds block img h (a_key key) ∙ choose_yes (given_key_fits? z.settings (a_key key)) _ _ key_fits)
        ∙ ap (λ (o : Option Live). (remove_found z img key o).image) found

    -- ---- a removal

    removed : AloneInExtra block img e → TierGoes block img (remove block img key).image e
    removed a = rw removal_is (removal_home z img h.sound key e found a.alone a.extra.0)

    kept : (AloneInExtra block img e → ⊥) → ChainsStay z img (remove block img key).image
    kept n =
        rw removal_is
        (removal_stays z img h.sound key e found
        (λ x one. n (record { extra = (x, (live-tier z img h.sound e (live_in_lem z img e m)).1); alone = one })))

    -- ---- a store in its place

    module _ (a : AloneInExtra block img e) (value : List ℕ) where
      room : ValueFits z.settings (length key) (length value) → no_room z img key value ≡ false
      room v =
          emptied-room z img h.sound key value e found
          (omega (arith, a.alone, removal_full z img (sound-but z img h.sound) e m)) v

      never-full : (policy : Policy) → answer_number (store policy block img key value).answer ≢ 10
      unfolding store_unless
      never-full policy =
          store-by-cases block img h policy key value (λ x. answer_number x.answer ≢ 10) (omega arith) (omega arith) (λ k v. rw (room v) (omega arith))

      module _ (policy : Policy) (kb : Bytes key) (vb : Bytes value) (moves : spot_of policy z img key value ≡ none) where
        abbrev Claim : Edited → Type 0
        Claim x = answer_number x.answer ≡ 0 → TierReplaced block img x.image e (taking_tier z img key value)

        by-room : KeyFits z.settings key → ValueFits z.settings (length key) (length value) → (b : Bool) → no_room z img key value ≡ b
            → Claim (store_unless policy z img key value b)
        unfolding store_unless store_image
        by-room k v true q n = absurd (omega arith)
        by-room k v false q n =
            rw moves (store-home z img h.sound key e found value (record { sound = h.sound; key_fits = k; value_fits = v }) kb vb a.alone a.extra.0)

        replaced : Claim (store policy block img key value)
        replaced =
            store-by-cases block img h policy key value Claim (λ n. absurd (omega arith)) (λ n. absurd (omega arith))
            (λ k v. by-room k v (no_room z img key value) refl)

  -- ---- no tier that an edit emptied is left in a chain

  none_here : NoneLeft block img img
  none_here t extra some-before none_after c = some-before none_after

  store-none-left : (policy : Policy) (key value : List ℕ) → Bytes key → Bytes value → NoneLeft block img (store policy block img key value).image
  unfolding store_unless
  store-none-left policy key value kb vb =
      store-by-cases block img h policy key value (λ x. NoneLeft block img x.image) none_here none_here
      (λ k v. by_row k v (no_room z img key value) refl)
    where
      by_row : KeyFits z.settings key → ValueFits z.settings (length key) (length value) → (b : Bool) → no_room z img key value ≡ b
          → NoneLeft block img (store_unless policy z img key value b).image
      by_row k v true q = none_here
      by_row k v false q =
          store-leaves-none policy z img key value (record { sound = h.sound; key_fits = k; value_fits = v }) kb vb q

  goes-home : EmptyTiers block img
  goes-home =
      record {
        removed = removed;
        kept = kept;
        none_left = λ key.
            removal_by key (NoneLeft block img) none_here (λ t extra some-before. removal_leaves-none z img h.sound key t extra some-before);
        none_left_by_store = store-none-left;
        never_full = λ policy e m key value is a. never-full e m key is a value policy;
        replaced = λ policy e m key value is kb vb n moves a. replaced e m key is a value policy kb vb moves n;
      }

pub empty-tiers : (block img : List ℕ) → Bytes img → Accepted block img → EmptyTiers block img
empty-tiers block img b a = goes-home block img (accepted-holds block img b a)
