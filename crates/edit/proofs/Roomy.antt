-- Where the row of 10 never holds: while a tier is free; for a replacement that takes as many chunks as the old entry, or fewer, because
-- its own tier takes it; and for one whose old entry was alone in its tier, because that tier takes any entry.
use Prim.Native.Nat.{ℕ, ◌≤◌, ◌<◌}
use mathlib.Core.List.{List, [], ◌∷◌, ◌++◌, Memᴰ}
use mathlib.Core.Path.{◌≡◌, refl, ap, sym, ◌∙◌, subst}
use mathlib.Core.Logic.{◌≢◌}
use mathlib.Core.Bool.{false}
use mathlib.Core.Option.{some}
use native.Mathlib.Omega.{arith}
use lib.ListN.{length}
use borrow.Author.Tests.{eq-eqb, ne_eqb}
use Rattle.layout.specs.declared.Shape.{Shape}
use Rattle.chains.specs.Chains.{chain, free_head}
use Rattle.entries.specs.declared.Live.{Live}
use Rattle.entries.specs.Keys.{segment_of}
use Rattle.entries.specs.Stored.{chunks_for, ValueFits}
use Rattle.entries.specs.Live.{full_slots, live}
use Rattle.entries.proofs.LiveLists.{IsLive, live_in_lem}
use Rattle.entries.proofs.Hashes.{segment-lt}
use Rattle.chunks.specs.Chunks.{clear, MarksFit}
use Rattle.sound.specs.Sound.{SoundImage}
use Rattle.sound.proofs.Sound.{sound-but}
use Rattle.sound.proofs.Empty.{none-clear}
use Rattle.removal.specs.Removal.{remove_entry}
use Rattle.removal.proofs.Removing.{removal_sound, removal_chain, removal_mark_in, removal_full}
use Rattle.placement.specs.declared.Run.{Run}
use Rattle.placement.specs.declared.Run.TheVariants.{At, Nowhere}
use Rattle.placement.specs.Runs.{first_run, run_for, full_in}
use Rattle.placement.proofs.Running.{Takes, run-found}
use Rattle.placement.proofs.Taking.{first_taken, first-within, some-empty-few}
use Rattle.edit.specs.Edits.{find, without, run_of, nowhere_to_go, no_room}
use Rattle.edit.proofs.Finding.{find-live, live-segment}
use Rattle.edit.proofs.Without.{without-found, without-head}
use Rattle.edit.proofs.Replacing.{live-range}

-- ---- a free tier takes any entry

module _ (z : Shape) (img : List ℕ) (sound : SoundImage z img) (key value : List ℕ) (ne : free_head z img ≢ 0) where
  free-room : (r : Run) → nowhere_to_go z (without z img key) r ≡ false
  free-room (At t c) = refl
  free-room Nowhere = ne_eqb _ 0 (λ e. ne (sym (without-head z img sound key) ∙ e))

  pub room-when-free : no_room z img key value ≡ false
  unfolding no_room
  room-when-free = free-room (run_of z (without z img key) key value)

-- ---- a replacement

module _ (z : Shape) (img : List ℕ) (sound : SoundImage z img) (key value : List ℕ) (e : Live) (f : find z img key ≡ some e) where
  abbrev n : ℕ
  n = chunks_for z.settings (length key) (length value)

  m : Memᴰ e (live z img)
  m = (find-live z img key e f).0

  found : IsLive z img e
  found = live_in_lem z img e m

  -- with the entry out, its tier has at most C - 2 full slots and its chunks are clear
  own-takes : n ≤ e.chunks → Takes z (full_in z (remove_entry z img e)) (clear z (remove_entry z img e)) e.tier e.chunk n
  own-takes h =
      record {
        roomy =
            omega (
              arith,
              removal_full z img (sound-but z img sound) e m,
              some-empty-few z img e.tier
                  (sound.fits.entries.tiers_fit e.segment found.segment_in e.tier found.tier_in).slots_fit.some_empty,
            );
        ends = omega (arith, live-range z img sound e found);
        clear = λ i a b. eq-eqb _ 0 (removal_mark_in z img (sound-but z img sound) e m i a (omega arith));
      }

  -- and it is a tier of the key's chain
  pub segment-is : e.segment ≡ segment_of z.settings key
  segment-is = sym (live-segment z img sound e found) ∙ ap (segment_of z.settings) (find-live z img key e f).1

  own_in : Memᴰ e.tier (chain z (remove_entry z img e) e.segment)
  own_in = subst (Memᴰ e.tier) (sym (removal_chain z img (sound-but z img sound) e m e.segment found.segment_in)) found.tier_in

  own-chain : Memᴰ e.tier (chain z (remove_entry z img e) (segment_of z.settings key))
  own-chain = subst (λ (s : ℕ). Memᴰ e.tier (chain z (remove_entry z img e) s)) segment-is own_in

  run-without : run_of z (without z img key) key value ≡ run_of z (remove_entry z img e) key value
  run-without = ap (λ (x : List ℕ). run_of z x key value) (without-found z img sound key e f)

  run_by : (c : ℕ) → Takes z (full_in z (remove_entry z img e)) (clear z (remove_entry z img e)) e.tier c n
      → run_of z (without z img key) key value ≢ Nowhere
  unfolding run_of run_for
  run_by c takes q = first_taken z _ _ n e.tier c takes _ own-chain (sym run-without ∙ q)

  room_by : (r : Run) → r ≢ Nowhere → nowhere_to_go z (without z img key) r ≡ false
  room_by (At t c) ne = refl
  room_by Nowhere ne = absurd (ne refl)

  pub replacement-room : chunks_for z.settings (length key) (length value) ≤ e.chunks → no_room z img key value ≡ false
  unfolding no_room
  replacement-room h = room_by _ (run_by e.chunk (own-takes h))

  -- ---- where the old entry was alone in its tier, that tier is clear and takes any entry

  module _ (none : length (full_slots z (remove_entry z img e) e.tier) ≡ 0) (fits : ValueFits z.settings (length key) (length value)) where
    marks : MarksFit z (remove_entry z img e) e.segment e.tier
    marks = (removal_sound z img (sound-but z img sound) e m).fits.chunks.marks e.segment found.segment_in e.tier own_in

    clear-takes : Takes z (full_in z (remove_entry z img e)) (clear z (remove_entry z img e)) e.tier 0 n
    clear-takes =
        record {
          roomy = omega (arith, none, sound.fits.valid.slots);
          ends = omega (arith, fits.not_too_many, sound.fits.valid.mostChunks);
          clear = λ i a b.
              eq-eqb _ 0
              (none-clear z (remove_entry z img e) e.tier none e.segment marks i (omega (arith, fits.not_too_many, sound.fits.valid.mostChunks)));
        }

    pub emptied-run : run_of z (without z img key) key value ≢ Nowhere
    emptied-run = run_by 0 clear-takes

    pub emptied-room : no_room z img key value ≡ false
    unfolding no_room
    emptied-room = room_by _ emptied-run

    -- an earlier tier takes it, or this one: never a later one
    pub emptied-within : (xs ys : List ℕ) → chain z img (segment_of z.settings key) ≡ xs ++ (e.tier ∷ ys) → (u c : ℕ)
        → run_of z (without z img key) key value ≡ At u c → Memᴰ u (xs ++ (e.tier ∷ []))
    unfolding run_of run_for
    emptied-within xs ys is u c q =
        let hs : segment_of z.settings key < z.settings.segments = segment-lt sound.fits.valid key in
        let there : chain z (remove_entry z img e) (segment_of z.settings key) ≡ xs ++ (e.tier ∷ ys) =
        removal_chain z img (sound-but z img sound) e m (segment_of z.settings key) hs ∙ is in
        let found_in : first_run z (full_in z (remove_entry z img e)) (clear z (remove_entry z img e)) (xs ++ (e.tier ∷ ys)) n ≡ At u c =
        rw there at (sym run-without ∙ q) in
        (run-found z _ _ (xs ++ (e.tier ∷ [])) n u c (sym (first-within z _ _ n e.tier 0 clear-takes xs ys) ∙ found_in)).0
