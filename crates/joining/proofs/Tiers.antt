-- The tiers after a free tier joined the end of a chain: it has no full slot, the others hold what they held.
use Prim.Native.Nat.{ℕ, ◌<◌}
use mathlib.Core.List.Memᴰ
use mathlib.Core.List.{List, [], ◌∷◌, ◌++◌, Memᴰ}
use mathlib.Core.Path.{◌≡◌, ◌∙◌}
use mathlib.Core.Logic.{◌⊎◌, inl, inr, ⊎_elim, ◌≢◌}
use native.Mathlib.Omega.{arith}
use lib.ListN.{length}
use Rattle.lists.specs.Cases.{same_or}
use Rattle.lists.specs.Lists.{total}
use Rattle.lists.specs.Quantify.{Below, Every}
use Rattle.lists.proofs.Lists.{total-append}
use Rattle.layout.specs.declared.Shape.{Shape}
use Rattle.layout.specs.Places.{mark}
use Rattle.chains.specs.Chains.{chain, chained, free_head, last_tier}
use Rattle.entries.specs.Live.{slot_at, full_slots}
use Rattle.search.specs.Rules.{keyAt, TierSlotsFit}
use Rattle.chunks.specs.Chunks.{FreeTierFits}
use Rattle.entries.specs.Pairs.{Pair, pairs_of}
use Rattle.sound.specs.Sound.{SoundBut}
use Rattle.sound.proofs.Values.{weigh}
use Rattle.lists.proofs.Totals.{total-same}
use Rattle.sound.proofs.Sums.{pairs-total}
use Rattle.sound.proofs.Empty.{empty-none, empty-weigh}
use Rattle.chains.proofs.Chained.{chained_in}
use Rattle.chains.proofs.Tiers.{chain-tiers}
use Rattle.sound.proofs.AgreeEntry.{Moved, entry-moves}
use Rattle.sound.proofs.AgreeTier.{SameTier, same-weigh}
use Rattle.joining.proofs.Ends.{new_in, new-tier}
use Rattle.joining.proofs.Chains.{other-chain, longer-chain}
use Rattle.joining.proofs.Fitting.{chained-longer}
use Rattle.joining.proofs.Writes.{Joins}

module _ (z : Shape) (img : List ℕ) (s : ℕ) (hs : s < z.settings.segments) {but : List ℕ} (sound : SoundBut z img but) (ne : free_head z img ≢ 0)
    (img' : List ℕ) (j : Joins z img img' s (free_head z img) (last_tier z img s) (length (chain z img s))) where
  -- ---- the tier that joined

  new-same : SameTier z img img' (free_head z img)
  new-same = j.same_tiers (free_head z img) (new-tier z img s hs sound.fits.chains ne)

  new-free : FreeTierFits z img (free_head z img)
  new-free = sound.fits.chunks.free (free_head z img) (new_in z img s hs sound.fits.chains ne)

  pub new-slots : Below z.settings.slots (λ k. slot_at z img' (free_head z img) k ≡ 0)
  new-slots k h = new-same.slots k h ∙ new-free.slots_empty k h

  pub new-marks : Below z.settings.chunks (λ i. mark z img' (free_head z img) i ≡ 0)
  new-marks i h = new-same.marks i h ∙ new-free.chunks_clear i h

  pub new_none : length (full_slots z img' (free_head z img)) ≡ 0
  new_none = empty-none z img' (free_head z img) new-slots

  pub new-fits : (q : ℕ) → TierSlotsFit z img' q (free_head z img)
  new-fits q =
      record {
        slots_fit =
            record {
              some_empty = (0, (omega (arith, sound.fits.valid.slots.1.0), new-slots 0 (omega (arith, sound.fits.valid.slots.1.0))));
              full = λ k h f. absurd (f (new-slots k h));
            };
        reached = λ k h f. absurd (f (new-slots k h));
      }

  -- ---- the tiers of a chain are those of before, and in one chain the new one

  pub in_chain_lem : (q : ℕ) → q < z.settings.segments → (u : ℕ) → Memᴰ u (chain z img' q)
      → Memᴰ u (chain z img q) ⊎ (u ≡ free_head z img)
  in_chain_lem q hq u m =
      ⊎_elim
      (λ (e : q ≡ s).
      let c : chain z img' q ≡ chain z img q ++ (free_head z img ∷ []) = rw e (longer-chain z img s hs sound.fits.chains ne img' j) in
      ⊎_elim (λ k. inl k) (λ k. inr (Memᴰ.eq_of_singleton k)) (Memᴰ.append_cases (chain z img q) (rw c at m)))
      (λ (e : q ≢ s). inl (rw (other-chain z img s hs sound.fits.chains ne img' j q hq e) at m))
      (same_or q s)

  pub old-tier : (q : ℕ) → q < z.settings.segments → (u : ℕ) → Memᴰ u (chain z img q) → SameTier z img img' u
  old-tier q hq u m = j.same_tiers u (chain-tiers z img sound.fits.chains q hq u m)

  -- a full slot is one of before, with the key of before
  pub record Before (q u k : ℕ) : Type 0 where
    pub within : Memᴰ u (chain z img q)
    pub full : slot_at z img u k ≢ 0
    pub key : keyAt z img' u k ≡ keyAt z img u k

  pub full-before : (q : ℕ) → q < z.settings.segments → (u : ℕ) → Memᴰ u (chain z img' q) → (k : ℕ) → k < z.settings.slots
      → slot_at z img' u k ≢ 0 → Before q u k
  full-before q hq u m k hk f =
      ⊎_elim
      (λ (o : Memᴰ u (chain z img q)).
      let e : slot_at z img' u k ≡ slot_at z img u k = (old-tier q hq u o).slots k hk in
      let g : slot_at z img u k ≢ 0 = λ d. f (e ∙ d) in
      let w : Moved z img img' q u k k =
      entry-moves z img img' u (old-tier q hq u o).bytes q k k e ((sound.fits.entries.tiers_fit q hq u o).slots_fit.full k hk g) in
      record { within = o; full = g; key = w.key })
      (λ (e : u ≡ free_head z img). absurd (f (rw e (new-slots k hk))))
      (in_chain_lem q hq u m)

  -- ---- what the live entries hold

  old-weigh : (F : Pair → ℕ) → Every (chained z img) (λ u. weigh z img' F u ≡ weigh z img F u)
  old-weigh F u m =
      let c : (q : ℕ) × (q < z.settings.segments) × Memᴰ u (chain z img q) = chained_in z img sound.fits.chains u m in
      same-weigh z img img' u (old-tier c.0 c.1 u c.2) c.0 (sound.fits.entries.tiers_fit c.0 c.1 u c.2).slots_fit F

  pub pairs-same : (F : Pair → ℕ) → total (pairs_of z img') F ≡ total (pairs_of z img) F
  unfolding total
  pairs-same F =
      omega (
        arith,
        pairs-total z img F,
        pairs-total z img' F,
        chained-longer z img s hs sound.fits.chains ne img' j (λ xs. total xs (weigh z img' F)) (total-append (weigh z img' F)),
        empty-weigh z img' (free_head z img) new-slots F,
        total-same (chained z img) (weigh z img F) (weigh z img' F) (old-weigh F),
      )
