-- A store on the spot: what is known of the entry that it writes over, and the image after it.
use Prim.Native.Nat.{ℕ, ◌+◌}
use mathlib.Core.List.Memᴰ
use mathlib.Core.List.{List, Memᴰ}
use mathlib.Core.Path.{◌≡◌, ap, sym, ◌∙◌}
use mathlib.Core.Bool.{not}
use mathlib.Core.Option.{some}
use native.Mathlib.Omega.{arith}
use lib.ListN.{length}
use Rattle.lists.specs.Lists.{those, total}
use Rattle.words.specs.Bytes.{Bytes, same}
use Rattle.layout.specs.declared.Shape.{Shape}
use Rattle.entries.specs.declared.Live.{Live}
use Rattle.entries.specs.Stored.{chunks_for, key_of}
use Rattle.entries.specs.Live.{chunk_of, live_at, live}
use Rattle.entries.specs.Pairs.{Pair, pair_of, pairs_of}
use Rattle.entries.proofs.LiveLists.{IsLive, live_in_lem}
use Rattle.search.specs.Rules.{keyAt}
use Rattle.sound.specs.Sound.{SoundImage}
use Rattle.sound.proofs.Sound.{sound-but}
use Rattle.counters.specs.LowMarks.{LowMarks}
use Rattle.counters.specs.Recount.{settle}
use Rattle.removal.specs.Removal.{remove_entry}
use Rattle.removal.proofs.Removing.{removal_pairs}
use Rattle.placement.specs.Placement.{write_entry}
use Rattle.placement.proofs.Rewriting.{Rewrites, rewrite-lows}
use Rattle.placement.proofs.Rewritten.{rewrite-sound, rewrite-pairs}
use Rattle.unlinking.proofs.Emptied.{main-stays}
use Rattle.edit.specs.Edits.{find, tiers_by, entry_in, stored_entry}
use Rattle.edit.specs.Replaced.{Storable}
use Rattle.edit.proofs.Finding.{find-live}
use Rattle.edit.proofs.Without.{without-found, without-pairs}

-- where it stands, by its slot
pub spot-chunk : (z : Shape) (img key : List ℕ) (e : Live) → find z img key ≡ some e → e.chunk ≡ chunk_of z img e.tier e.slot
unfolding live_at
spot-chunk z img key e f = ap (λ (x : Live). x.chunk) (live_in_lem z img e (find-live z img key e f).0).is

-- what is known before: e has the key, and the new entry takes as many chunks
pub record WritesOver (z : Shape) (img key value : List ℕ) (e : Live) : Type 0 where
  pub storable : Storable z img key value
  pub key_bytes : Bytes key
  pub value_bytes : Bytes value
  pub is_found : find z img key ≡ some e
  pub as_many : e.chunks ≡ chunks_for z.settings (length key) (length value)

module _ {z : Shape} {img key value : List ℕ} {e : Live} (w : WritesOver z img key value e) where
  sound : SoundImage z img
  sound = w.storable.sound

  m : Memᴰ e (live z img)
  m = (find-live z img key e w.is_found).0

  found : IsLive z img e
  found = live_in_lem z img e m

  pub rewrites : Rewrites z img e.segment e.tier e.slot key value
  unfolding live_at keyAt
  rewrites =
      record {
        segment_in = found.segment_in;
        sound = sound;
        tier_in = found.tier_in;
        slot_in = found.slot_in;
        full = found.full;
        key_is = ap (λ (x : Live). key_of img x.entry) (sym found.is) ∙ (find-live z img key e w.is_found).1;
        key_bytes = w.key_bytes;
        value_bytes = w.value_bytes;
        value_fits = w.storable.value_fits;
        same_chunks = ap (λ (x : Live). x.chunks) (sym found.is) ∙ w.as_many;
      }

  -- the image after it
  pub spot_is : stored_entry z img key value (some e) ≡ write_entry z img e.tier (chunk_of z img e.tier e.slot) key value
  unfolding stored_entry entry_in settle
  spot_is = main-stays z _ 0 (omega arith) ∙ ap (λ (c : ℕ). write_entry z img e.tier c key value) (spot-chunk z img key e w.is_found)

  pub spot-sound : SoundImage z (stored_entry z img key value (some e))
  spot-sound = rw spot_is (rewrite-sound rewrites)

  pub spot-lows : LowMarks z img (stored_entry z img key value (some e)) (tiers_by z img key value (some e))
  spot-lows = rw spot_is (record { exact = λ t k. absurd (Memᴰ.not-nil k); others = λ t is out. rewrite-lows rewrites t is })

  pub spot-pairs : (F : Pair → ℕ) → total (pairs_of z (stored_entry z img key value (some e))) F
      ≡ F (record { key = key; value = value }) + total (those (pairs_of z img) (λ p. not (same p.key key))) F
  spot-pairs F =
      let pair_is : F (pair_of img e) ≡ F (pair_of img (live_at z img e.segment e.tier e.slot)) =
      ap (λ (x : Live). F (pair_of img x)) found.is in
      let left_over : total (pairs_of z (remove_entry z img e)) F ≡ total (those (pairs_of z img) (λ p. not (same p.key key))) F =
      rw (without-found z img sound key e w.is_found) at (without-pairs z img sound key F) in
      rw spot_is
      (omega (
        arith,
        rewrite-pairs rewrites F,
        pair_is,
        removal_pairs z img (sound-but z img sound) e m F,
        left_over,
      ))
