-- The scan that counts the old entry as removed is the scan of the image without it.
use Prim.Native.Nat.{ℕ, ◌+◌, ◌≤◌, ◌<◌}
use mathlib.Core.List.{List, Memᴰ}
use mathlib.Core.Path.{◌≡◌, refl, ap, sym, ◌∙◌}
use mathlib.Core.Logic.{◌≢◌, inl, inr, ⊎_elim}
use mathlib.Core.Option.{Option as Maybe, none, some}
use Rattle.std.proofs.Common.{Option}
use native.Mathlib.Omega.{arith}
use lib.Dec.{eqb}
use lib.ListN.{length}
use borrow.Author.Tests.{eq-eqb}
use Rattle.lists.specs.Cases.{same_or, lt-or}
use Rattle.lists.specs.Quantify.{Every}
use Rattle.layout.specs.declared.Shape.{Shape}
use Rattle.layout.specs.Tiers.{IsTier}
use Rattle.layout.specs.Places.{mark}
use Rattle.chains.specs.Chains.{chain}
use Rattle.entries.specs.declared.Live.{Live}
use Rattle.entries.specs.Keys.{segment_of}
use Rattle.entries.specs.Stored.{chunks_for}
use Rattle.entries.specs.Live.{live}
use Rattle.entries.proofs.Hashes.{segment-lt}
use Rattle.chunks.specs.Chunks.{clear}
use Rattle.sound.specs.Sound.{SoundImage}
use Rattle.removal.specs.Removal.{remove_entry}
use Rattle.sound.proofs.Sound.{sound-but}
use Rattle.removal.proofs.Removing.{removal_chain, removal_mark_in, removal_mark-out, removal_mark-other, removal_full, removal_full-other}
use Rattle.placement.specs.declared.Old.{Old}
use Rattle.placement.specs.declared.Run.{Run}
use Rattle.placement.specs.Runs.{first_run, run_for, full_in, full_but, clear_but}
use Rattle.placement.proofs.OldEntry.{clear-old, clear_else, clear-before, clear-after, full-old, full_else}
use Rattle.placement.proofs.Running.{run-same, run-others}
use Rattle.edit.specs.Edits.{find, without_entry, without, run_of}
use Rattle.edit.specs.Replaced.{carried, old_of}
use Rattle.edit.proofs.Finding.{find-live}
use Rattle.edit.proofs.Replacing.{sound-tiers}

module _ (z : Shape) (img : List ℕ) (sound : SoundImage z img) where
  open z use {settings}
  open settings use {segments, chunks}

  -- ---- a tier, once an entry is removed

  module _ (e : Live) (m : Memᴰ e (live z img)) (t : ℕ) (is : IsTier z t) where
    full-after : full_but z img (old_of (some e)) t ≡ full_in z (remove_entry z img e) t
    unfolding old_of
    full-after =
        ⊎_elim
        (λ (q : t ≡ e.tier). sym (full-old z img (carried e) t q) ∙ rw q (omega (arith, removal_full z img (sound-but z img sound) e m)))
        (λ (q : t ≢ e.tier). sym (full_else z img (old_of (some e)) t q) ∙ sym (removal_full-other z img (sound-but z img sound) e m t is q))
        (same_or t e.tier)

    marked-same : (i : ℕ) → mark z (remove_entry z img e) t i ≡ mark z img t i → clear z img t i ≡ clear z (remove_entry z img e) t i
    marked-same i p = ap (λ (v : ℕ). eqb v 0) (sym p)

    clear-own : t ≡ e.tier → (i : ℕ) → i < chunks → clear_but z img (old_of (some e)) t i ≡ clear z (remove_entry z img e) t i
    unfolding old_of
    clear-own q i h =
        ⊎_elim
        (λ (a : i < e.chunk).
        sym (clear-before z img (carried e) t i a)
        ∙ marked-same i (rw q (removal_mark-out z img (sound-but z img sound) e m i h (inl a))))
        (λ (a : e.chunk ≤ i).
        ⊎_elim
        (λ (b : i < e.chunk + e.chunks).
        sym (clear-old z img (carried e) t i q a b)
        ∙ sym (eq-eqb (mark z (remove_entry z img e) t i) 0 (rw q (removal_mark_in z img (sound-but z img sound) e m i a b))))
        (λ (b : e.chunk + e.chunks ≤ i).
        sym (clear-after z img (carried e) t i b)
        ∙ marked-same i (rw q (removal_mark-out z img (sound-but z img sound) e m i h (inr b))))
        (lt-or i (e.chunk + e.chunks)))
        (lt-or i e.chunk)

    clear-there : (i : ℕ) → i < chunks → clear_but z img (old_of (some e)) t i ≡ clear z (remove_entry z img e) t i
    unfolding old_of
    clear-there i h =
        ⊎_elim
        (λ (q : t ≡ e.tier). clear-own q i h)
        (λ (q : t ≢ e.tier).
        sym (clear_else z img (old_of (some e)) t i q) ∙ marked-same i (removal_mark-other z img (sound-but z img sound) e m t i is q h))
        (same_or t e.tier)

  -- ---- the whole chain

  module _ (key : List ℕ) (n : ℕ) where
    abbrev s : ℕ
    s = segment_of settings key

    tiers-of : Every (chain z img s) (IsTier z)
    tiers-of = sound-tiers z img sound s (segment-lt sound.fits.valid key)

    scan-by : (o : Maybe Live) → find z img key ≡ o
        → first_run z (full_but z img (old_of o)) (clear_but z img (old_of o)) (chain z img s) n
        ≡ run_for z (without_entry z img o) (chain z (without_entry z img o) s) n
    unfolding old_of without_entry run_for
    scan-by none f = run-others z img (old_of none) (chain z img s) n (λ t mt. tt)
    scan-by (some e) f =
        let m : Memᴰ e (live z img) = (find-live z img key e f).0 in
        run-same z (full_but z img (old_of (some e))) (full_in z (remove_entry z img e)) (clear_but z img (old_of (some e)))
        (clear z (remove_entry z img e)) (chain z img s) n
        (λ t mt. full-after e m t (tiers-of t mt))
        (λ t mt i h. clear-there e m t (tiers-of t mt) i h)
        ∙ ap (λ (ts : List ℕ). first_run z (full_in z (remove_entry z img e)) (clear z (remove_entry z img e)) ts n)
        (sym (removal_chain z img (sound-but z img sound) e m s (segment-lt sound.fits.valid key)))

  pub scan-is : (key value : List ℕ) {old : Option Old} {r : Run} {n : ℕ} → old ≡ old_of (find z img key)
      → n ≡ chunks_for settings (length key) (length value)
      → r ≡ first_run z (full_but z img old) (clear_but z img old) (chain z img (segment_of settings key)) n
      → r ≡ run_of z (without z img key) key value
  unfolding run_of without
  scan-is key value {n = n} eo en e =
      e ∙ ap (λ (x : Option Old). first_run z (full_but z img x) (clear_but z img x) (chain z img (segment_of settings key)) n) eo
      ∙ scan-by key n (find z img key) refl
      ∙ ap (λ (x : ℕ). run_for z (without z img key) (chain z (without z img key) (segment_of settings key)) x) en
