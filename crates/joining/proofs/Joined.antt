-- The first free tier joined a segment's chain: the image is sound but for the tier's two counters, and it holds what it held.
use Prim.Native.Nat.{ℕ, ◌<◌}
use mathlib.Core.List.Memᴰ
use mathlib.Core.List.{List, [], ◌∷◌, ◌++◌, Memᴰ}
use mathlib.Core.Path.{◌≡◌, refl, sym, ◌∙◌, subst}
use mathlib.Core.Logic.{⊎_elim, ◌≢◌}
use native.Mathlib.Omega.{arith}
use lib.ListN.{length}
use Rattle.lists.specs.Cases.{same_or}
use Rattle.lists.specs.Lists.{total}
use Rattle.lists.specs.Quantify.{Below, Every}
use Rattle.layout.specs.declared.Shape.{Shape}
use Rattle.layout.specs.Tiers.{IsTier, IsExtra}
use Rattle.layout.specs.declared.Global.TheVariants.{BulkCount as bulkCount, HeadersOffset as headersOffset, StoreSize as storeSize}
use Rattle.layout.specs.Places.{mark}
use Rattle.layout.proofs.Frames.{shape_same, fits-same}
use Rattle.chains.specs.Chains.{chain, free_head, free_chain, last_tier}
use Rattle.entries.specs.Live.{slot_at, full_slots}
use Rattle.search.specs.Rules.{keyAt, KeysOnce, EntriesFit}
use Rattle.chunks.specs.Chunks.{MarksFit, CountersFit, FreeTierFits}
use Rattle.entries.specs.Pairs.{Pair, pairs_of}
use Rattle.sound.specs.Sound.{SoundBut}
use Rattle.joining.specs.Joining.{join}
use Rattle.chains.proofs.Tiers.{chain-tiers}
use Rattle.sound.proofs.AgreeTier.{SameTier, SameCounters, same-tier-fits, same-marks, same-counters, same-free}
use Rattle.sound.proofs.Empty.{none-covers}
use Rattle.sound.proofs.Sound.{sound-image}
use Rattle.joining.proofs.Ends.{join-joins}
use Rattle.joining.proofs.Chains.{others-free, longer-chain, other-chain, shorter-free}
use Rattle.joining.proofs.Fitting.{chains-again}
use Rattle.joining.proofs.Tiers.{new-marks, new_none, new-fits, in_chain_lem, old-tier, Before, full-before, pairs-same}
use Rattle.joining.proofs.Writes.{Joins}

module _ (z : Shape) (img : List ℕ) (s : ℕ) (hs : s < z.settings.segments) {but : List ℕ} (sound : SoundBut z img but) (ne : free_head z img ≢ 0) where
  module _ (img' : List ℕ) (j : Joins z img img' s (free_head z img) (last_tier z img s) (length (chain z img s))) where
    keys-again : Below z.settings.segments (KeysOnce z img')
    keys-again q hq u mu i hi fu v mv k hk fv e =
        let a : Before z img s hs sound ne img' j q u i = full-before z img s hs sound ne img' j q hq u mu i hi fu in
        let b : Before z img s hs sound ne img' j q v k = full-before z img s hs sound ne img' j q hq v mv k hk fv in
        sound.fits.entries.keys_once q hq u a.within i hi a.full v b.within k hk b.full (sym a.key ∙ e ∙ b.key)

    entries-again : EntriesFit z img'
    entries-again =
        record {
          tiers_fit = λ q hq u m.
              ⊎_elim
              (λ k. same-tier-fits z img img' u (old-tier z img s hs sound ne img' j q hq u k) q (sound.fits.entries.tiers_fit q hq u k))
              (λ (e : u ≡ free_head z img). rw e (new-fits z img s hs sound ne img' j q))
              (in_chain_lem z img s hs sound ne img' j q hq u m);
          keys_once = keys-again;
        }

    marks-again : Below z.settings.segments (λ q. Every (chain z img' q) (MarksFit z img' q))
    marks-again q hq u m =
        ⊎_elim
        (λ k. same-marks z img img' u (old-tier z img s hs sound ne img' j q hq u k) q (sound.fits.chunks.marks q hq u k))
        (λ (e : u ≡ free_head z img).
        rw e
        (λ i hi. none-covers z img' (free_head z img) (new_none z img s hs sound ne img' j) q i ∙ sym (new-marks z img s hs sound ne img' j i hi)))
        (in_chain_lem z img s hs sound ne img' j q hq u m)

    counters-again : Below z.settings.segments
        (λ q. Every (chain z img' q) (λ u. (Memᴰ u (free_head z img ∷ but) → ⊥) → CountersFit z img' u))
    counters-again q hq u m out =
        ⊎_elim
        (λ k.
        let same : SameTier z img img' u = old-tier z img s hs sound ne img' j q hq u k in
        same-counters z img img' u same.slots same.marks
        (j.counts u (chain-tiers z img sound.fits.chains q hq u k))
        (sound.fits.chunks.counters q hq u k (λ w. out (Memᴰ.tail w))))
        (λ e. absurd (out (Memᴰ.head e)))
        (in_chain_lem z img s hs sound ne img' j q hq u m)

    free-again : Every (free_chain z img') (FreeTierFits z img')
    free-again =
        rw (shorter-free z img s hs sound.fits.chains ne img' j)
        (λ u m.
        let f : IsExtra z u = sound.fits.chains.free_fits.extras u (others-free z img s hs sound.fits.chains ne u m) in
        let same : SameTier z img img' u = j.same_tiers u (omega arith) in
        same-free z img img' u same.slots same.marks (sound.fits.chunks.free u (others-free z img s hs sound.fits.chains ne u m)))

    sound-again : SoundBut z img' (free_head z img ∷ but)
    sound-again =
        record {
          bytes = j.image.bytes;
          shape =
              shape_same z img img' (j.globals headersOffset (omega arith) (omega arith))
              (j.globals bulkCount (omega arith) (omega arith))
              ∙ sound.shape;
          fits = record {
            valid = sound.fits.valid;
            frame = fits-same z img img' j.long (j.globals storeSize (omega arith) (omega arith)) sound.fits.frame;
            chains = chains-again z img s hs sound.fits.chains ne img' j;
            entries = entries-again;
            chunks = record { marks = marks-again; counters = counters-again; free = free-again };
          };
        }

  -- ---- the results

  done : Joins z img (join z img s) s (free_head z img) (last_tier z img s) (length (chain z img s))
  done = join-joins z img s hs sound.fits.chains ne (sound-image z img sound)

  pub join-sound : SoundBut z (join z img s) (free_head z img ∷ but)
  join-sound = sound-again (join z img s) done

  -- every tier's slots, marks, bytes and two counters stay
  pub join-tiers : (u : ℕ) → IsTier z u → SameTier z img (join z img s) u × SameCounters z img (join z img s) u
  join-tiers u is = (done.same_tiers u is, done.counts u is)

  pub join-chain : chain z (join z img s) s ≡ chain z img s ++ (free_head z img ∷ [])
  join-chain = longer-chain z img s hs sound.fits.chains ne (join z img s) done

  -- a chained tier stays in its chain
  pub join-stays : (q u : ℕ) → q < z.settings.segments → Memᴰ u (chain z img q) → Memᴰ u (chain z (join z img s) q)
  join-stays q u hq m =
      ⊎_elim
      (λ (e : q ≡ s). subst (λ (x : ℕ). Memᴰ u (chain z (join z img s) x)) (sym e)
      (subst (Memᴰ u) (sym join-chain) (Memᴰ.append_left (free_head z img ∷ []) (subst (λ (x : ℕ). Memᴰ u (chain z img x)) e m))))
      (λ (e : q ≢ s). subst (Memᴰ u) (sym (other-chain z img s hs sound.fits.chains ne (join z img s) done q hq e)) m)
      (same_or q s)

  pub join_in : Memᴰ (free_head z img) (chain z (join z img s) s)
  join_in = rw join-chain (Memᴰ.append_right (chain z img s) (Memᴰ.head refl))

  pub join-pairs : (F : Pair → ℕ) → total (pairs_of z (join z img s)) F ≡ total (pairs_of z img) F
  join-pairs F = pairs-same z img s hs sound ne (join z img s) done F

  pub join-empty : length (full_slots z (join z img s) (free_head z img)) ≡ 0
  join-empty = new_none z img s hs sound ne (join z img s) done

  pub join-clear : (i : ℕ) → i < z.settings.chunks → mark z (join z img s) (free_head z img) i ≡ 0
  join-clear i h = new-marks z img s hs sound ne (join z img s) done i h

  -- a key that no slot of the chain stands for is in no slot of the longer chain
  pub join-absent : (key : List ℕ)
      → ((u : ℕ) → Memᴰ u (chain z img s) → (k : ℕ) → k < z.settings.slots → slot_at z img u k ≢ 0 → keyAt z img u k ≢ key)
      → (u : ℕ) → Memᴰ u (chain z (join z img s) s) → (k : ℕ) → k < z.settings.slots → slot_at z (join z img s) u k ≢ 0
      → keyAt z (join z img s) u k ≢ key
  join-absent key absent u m k hk f e =
      let b : Before z img s hs sound ne (join z img s) done s u k = full-before z img s hs sound ne (join z img s) done s hs u m k hk f in
      absent u b.within k hk b.full (sym b.key ∙ e)
