-- The tier's entries from before: none covers a chunk of the run, so each reads as it did.
use Prim.Native.Nat.{ℕ, ◌+◌, ◌*◌, ◌≤◌, ◌<◌}
use mathlib.Core.List.{List}
use mathlib.Core.Path.{◌≡◌, ap, sym, ◌∙◌}
use mathlib.Core.Logic.{◌≢◌}
use native.Mathlib.Omega.{arith}
use lib.ListN.{length}
use Rattle.layout.specs.declared.Shape.{Shape}
use Rattle.layout.specs.Places.{chunk_at}
use Rattle.layout.proofs.Chunks.{chunk-add, chunk-mono, chunk_inside}
use Rattle.probe.proofs.Table.{slot_total-has}
use Rattle.entries.specs.Stored.{entry_bytes, chunks_for}
use Rattle.entries.specs.Live.{slot_at, chunk_of, entry_at}
use Rattle.search.specs.Search.{slots_of}
use Rattle.search.specs.Rules.{chunks_at, EntryFits}
use Rattle.sound.proofs.Values.{entry_for, pair_for, if_full, full_is}
use Rattle.sound.proofs.AgreeEntry.{SameChunks, Moved, entry-stays}
use Rattle.placement.proofs.Written.{some-chunks, entry-fits}
use Rattle.placement.proofs.Before.{number_for, Places, can_write}
use Rattle.placement.proofs.Filling.{slot-old, bytes-old}
use Rattle.placement.proofs.Inserting.{place, after, writes, was-fitting, place_in, place-empty}
use Rattle.placement.proofs.Ranges.{within_in, covers_of, covered-total, entry-apart}

module _ {z : Shape} {img but : List ℕ} {s t c : ℕ} {key value : List ℕ} (p : Places z img but s t c key value) (k : ℕ)
    (hk : k < z.settings.slots) (fk : slot_at z img t k ≢ 0) where
  open z use {settings}
  open settings use {slots, chunkSize}

  abbrev n : ℕ
  n = chunks_for settings (length key) (length value)

  abbrev m' : List ℕ
  m' = after z img t c key value

  -- the entry of slot k: where it stands, how many chunks it covers
  abbrev d : ℕ
  d = chunk_of z img t k

  abbrev l : ℕ
  l = chunks_at z img t k

  was-entry : EntryFits z img s t k
  was-entry = (was-fitting p).slots_fit.full k hk fk

  not-both : (i : ℕ) → c ≤ i → i < c + n → d ≤ i → i < d + l → ⊥
  unfolding entry_at
  not-both i lo hi lo' hi' =
      omega (
        arith,
        p.clear_run i lo hi,
        p.sound.fits.chunks.marks s p.segment_in t p.tier_in i (omega (arith, p.range_ends)),
        covered-total z img s t i,
        slot_total-has (slots_of z t) (if_full (covers_of z img t i)) img slots k hk,
        full_is (covers_of z img t i) (slot_at z img t k) fk,
        within_in d l i lo' hi',
      )

  same-chunks : SameChunks z img m' t d l
  same-chunks =
      bytes-old z img t c n (entry_bytes settings key value) (writes p) (place z img t c key value) (number_for z key c) (place_in p)
      (chunk_at z t d) (l * chunkSize) (chunk-mono z t 0 d (omega arith))
      (omega (arith, chunk-add z t d l, chunk_inside z t (d + l) was-entry.range_ends))
      (entry-apart z img t k p.sound.fits.valid c n _ (some-chunks (can_write p)) (entry-fits (can_write p)) not-both)

  -- the slot that is filled was empty
  same-slot : slot_at z m' t k ≡ slot_at z img t k
  same-slot =
      slot-old z img t c n _ (writes p) (place z img t c key value) (number_for z key c) (place_in p) k hk
      (λ e. fk (ap (slot_at z img t) e ∙ place-empty p))

  -- ---- it reads as before

  pub moved : Moved z img (after z img t c key value) s t k k
  moved = entry-stays z img m' t s k k same-chunks same-slot was-entry

  pub entry_kept : entry_for z (after z img t c key value) t (slot_at z img t k) ≡ entry_for z img t (slot_at z img t k)
  entry_kept = ap (entry_for z m' t) (sym same-slot) ∙ moved.entry

  pub pair-kept : pair_for z (after z img t c key value) t (slot_at z img t k) ≡ pair_for z img t (slot_at z img t k)
  pair-kept = ap (pair_for z m' t) (sym same-slot) ∙ moved.pair
