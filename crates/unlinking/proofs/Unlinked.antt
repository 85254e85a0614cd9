-- An extra tier without entries left its chain: the image is sound, and it holds what it held.
use Prim.Native.Nat.{ℕ, suc, ◌<◌}
use mathlib.Core.List.{List, ◌∷◌, ◌++◌, Memᴰ}
use mathlib.Core.Path.{◌≡◌, refl, sym, ◌∙◌, subst}
use mathlib.Core.Logic.{⊎_elim, ◌≢◌}
use native.Mathlib.Omega.{arith}
use lib.ListN.{length}
use Rattle.lists.specs.Cases.{same_or}
use Rattle.lists.specs.Lists.{total}
use Rattle.lists.specs.Quantify.{Below, Every}
use Rattle.lists.proofs.Lists.{total-append}
use Rattle.lists.proofs.Totals.{total-same}
use Rattle.links.proofs.Splits.{member-with}
use Rattle.links.proofs.Once.{linked-apart}
use Rattle.links.proofs.Runs.{linked-start}
use Rattle.layout.specs.declared.Shape.{Shape}
use Rattle.layout.specs.Tiers.{IsTier}
use Rattle.layout.specs.declared.Global.TheVariants.{BulkCount as bulkCount, HeadersOffset as headersOffset, StoreSize as storeSize}
use Rattle.layout.proofs.Frames.{shape_same, fits-same}
use Rattle.chains.specs.Chains.{chain, chained, free_chain, ChainsFit}
use Rattle.chains.proofs.Tiers.{chain-tiers, free-tiers}
use Rattle.chains.proofs.Linked.{linked-free}
use Rattle.chains.proofs.Chained.{chained_in}
use Rattle.entries.specs.Live.{slot_at, full_slots}
use Rattle.entries.specs.Pairs.{Pair, pairs_of}
use Rattle.search.specs.Rules.{keyAt, KeysOnce}
use Rattle.chunks.specs.Chunks.{MarksFit, TierChunksFit, FreeTierFits}
use Rattle.sound.specs.Sound.{SoundImage}
use Rattle.sound.proofs.Sound.{sound-image}
use Rattle.sound.proofs.Values.{weigh}
use Rattle.sound.proofs.Sums.{pairs-total}
use Rattle.sound.proofs.Empty.{none-slots, none_free, empty-weigh}
use Rattle.sound.proofs.AgreeEntry.{Moved, entry-moves}
use Rattle.sound.proofs.AgreeTier.{SameTier, SameCounters, same-tier-fits, same-marks, same-counters, same-free, same-weigh, full-before}
use Rattle.unlinking.specs.Unlinking.{before, unlink}
use Rattle.unlinking.specs.Asking.{ExtraOf}
use Rattle.unlinking.proofs.Neighbours.{front, rest, chain-at, tier_in_lem, linked-at, is-tier, before-tier, before_in, rest-linked, rest-tiers, later-is, used-some, rest-orders}
use Rattle.unlinking.proofs.Closing.{unlink-parts}
use Rattle.unlinking.proofs.Kept.{Taken}
use Rattle.unlinking.proofs.Writes.{Unlinks, unlinks}
use Rattle.unlinking.proofs.Chains.{other-chain, shorter-chain, longer-free, chained-shorter, chains-again}

module _ (z : Shape) (img : List ℕ) (s t : ℕ) (sound : SoundImage z img) (x : ExtraOf z img s t) where
  abbrev fits : ChainsFit z img
  fits = sound.fits.chains

  abbrev xs : List ℕ
  xs = front z img s t sound.fits.chains x

  abbrev ys : List ℕ
  ys = rest z img s t sound.fits.chains x

  -- ---- the writes

  taken : Taken z img t (before z img t) ys
  taken =
      record {
        image = sound-image z img sound;
        is_tier = is-tier z img s t fits x;
        prior_tier = before-tier z img s t fits x;
        apart = linked-apart (suc s ∷ xs) (t ∷ ys) (linked-at z img s t fits x) (before_in z img s t fits x) (mathlib.Core.List.Memᴰ.head refl);
        later_tiers = rest-tiers z img s t fits x;
        linked = rest-linked z img s t fits x;
        used_some = used-some z img s t fits x;
        not_first = rest-orders z img s t fits x;
        next_small = linked-start (rest-linked z img s t fits x) (λ u m. (rest-tiers z img s t fits x u m).1);
        head_small = linked-start (linked-free z img fits.free_fits) (λ u m. (free-tiers z img fits.free_fits u m).1);
      }

  done : Unlinks z img (unlink z img t) t (before z img t) ys
  done = rw (unlink-parts z img t, later-is z img s t fits x) (unlinks taken)

  -- ---- what stays

  abbrev img' : List ℕ
  img' = unlink z img t

  again : ChainsFit z img'
  again = chains-again z img s t fits x img' done

  -- a chained tier was in the same chain
  still : (q : ℕ) → q < z.settings.segments → (u : ℕ) → Memᴰ u (chain z img' q) → Memᴰ u (chain z img q)
  still q hq u m =
      ⊎_elim
      (λ (e : q ≡ s).
      let k : Memᴰ u (suc s ∷ (xs ++ ys)) = rw (e, shorter-chain z img s t fits x img' done) at m in
      subst (λ (i : ℕ). Memᴰ u (chain z img i)) (sym e) (rw (chain-at z img s t fits x) (member-with t (suc s ∷ xs) ys k)))
      (λ (ne : q ≢ s). rw (other-chain z img s t fits x img' done q hq ne) at m)
      (same_or q s)

  same : (q : ℕ) → q < z.settings.segments → (u : ℕ) → Memᴰ u (chain z img q) → SameTier z img img' u
  same q hq u m = done.same_tiers u (chain-tiers z img fits q hq u m)

  key-same : (q : ℕ) → q < z.settings.segments → (u : ℕ) → Memᴰ u (chain z img q) → (k : ℕ) → k < z.settings.slots
      → slot_at z img u k ≢ 0 → keyAt z img' u k ≡ keyAt z img u k
  key-same q hq u m k hk f =
      let w : Moved z img img' q u k k =
      entry-moves z img img' u (same q hq u m).bytes q k k ((same q hq u m).slots k hk) ((sound.fits.entries.tiers_fit q hq u m).slots_fit.full k hk f) in
      w.key

  keys-again : Below z.settings.segments (KeysOnce z img')
  keys-again q hq u mu i hi fu v mv k hk fv e =
      let a : Memᴰ u (chain z img q) = still q hq u mu in
      let b : Memᴰ v (chain z img q) = still q hq v mv in
      let fa : slot_at z img u i ≢ 0 = full-before z img img' u (same q hq u a).slots i hi fu in
      let fb : slot_at z img v k ≢ 0 = full-before z img img' v (same q hq v b).slots k hk fv in
      sound.fits.entries.keys_once q hq u a i hi fa v b k hk fb (sym (key-same q hq u a i hi fa) ∙ e ∙ key-same q hq v b k hk fb)

  chunks-again : Below z.settings.segments (λ q. Every (chain z img' q) (TierChunksFit z img' q))
  chunks-again q hq u m =
      let a : Memᴰ u (chain z img q) = still q hq u m in
      let was : TierChunksFit z img q u = sound.fits.chunks.tiers_fit q hq u a in
      let there : SameTier z img img' u = same q hq u a in
      record {
        marks = same-marks z img img' u there q was.marks;
        counters =
            same-counters z img img' u there.slots there.marks (done.counts u (chain-tiers z img fits q hq u a)) was.counters;
      }

  -- ---- where the tier has no entry

  module _ (none : length (full_slots z img t) ≡ 0) where
    free-again : Every (free_chain z img') (FreeTierFits z img')
    free-again =
        rw (longer-free z img s t fits x img' done)
        (λ u m.
        ⊎_elim
        (λ (e : u ≡ t).
        let there : SameTier z img img' t = done.same_tiers t (is-tier z img s t fits x) in
        let marks : MarksFit z img s t = (sound.fits.chunks.tiers_fit s x.segment_in t (tier_in_lem z img s t fits x)).marks in
        rw e (same-free z img img' t there.slots there.marks (none_free z img t none s marks)))
        (λ k.
        let there : SameTier z img img' u = done.same_tiers u (free-tiers z img fits.free_fits u k) in
        same-free z img img' u there.slots there.marks (sound.fits.chunks.free_fit u k))
        (mathlib.Core.List.Memᴰ.cases_cons m))

    pub unlink-sound : SoundImage z (unlink z img t)
    unlink-sound =
        record {
          bytes = done.image.bytes;
          shape =
              shape_same z img img' (done.globals headersOffset (omega arith) (omega arith)) (done.globals bulkCount (omega arith) (omega arith))
              ∙ sound.shape;
          fits = record {
            valid = sound.fits.valid;
            frame = fits-same z img img' done.long (done.globals storeSize (omega arith) (omega arith)) sound.fits.frame;
            chains = again;
            entries =
                record {
                  tiers_fit = λ q hq u m.
                      let a : Memᴰ u (chain z img q) = still q hq u m in
                      same-tier-fits z img img' u (same q hq u a) q (sound.fits.entries.tiers_fit q hq u a);
                  keys_once = keys-again;
                };
            chunks = record { tiers_fit = chunks-again; free_fit = free-again };
          };
        }

    still-weigh : (F : Pair → ℕ) → Every (chained z img') (λ u. weigh z img' F u ≡ weigh z img F u)
    still-weigh F u m =
        let c : (q : ℕ) × (q < z.settings.segments) × Memᴰ u (chain z img' q) = chained_in z img' again u m in
        let a : Memᴰ u (chain z img c.0) = still c.0 c.1 u c.2 in
        same-weigh z img img' u (same c.0 c.1 u a) c.0 (sound.fits.entries.tiers_fit c.0 c.1 u a).slots_fit F

    pub unlink-pairs : (F : Pair → ℕ) → total (pairs_of z (unlink z img t)) F ≡ total (pairs_of z img) F
    unfolding total
    unlink-pairs F =
        omega (
          arith,
          pairs-total z img F,
          pairs-total z img' F,
          chained-shorter z img s t fits x img' done (λ l. total l (weigh z img F)) (total-append (weigh z img F)),
          empty-weigh z img t (none-slots z img t none) F,
          total-same (chained z img') (weigh z img F) (weigh z img' F) (still-weigh F),
        )

  -- ---- the tiers and the chains

  pub unlink-tiers : (u : ℕ) → IsTier z u → SameTier z img (unlink z img t) u × SameCounters z img (unlink z img t) u
  unlink-tiers u is = (done.same_tiers u is, done.counts u is)

  pub unlink-chain : chain z (unlink z img t) s ≡ suc s ∷ (front z img s t sound.fits.chains x ++ rest z img s t sound.fits.chains x)
  unlink-chain = shorter-chain z img s t fits x img' done

  pub unlink-others : (q : ℕ) → q < z.settings.segments → q ≢ s → chain z (unlink z img t) q ≡ chain z img q
  unlink-others = other-chain z img s t fits x img' done

  pub unlink-free : free_chain z (unlink z img t) ≡ t ∷ free_chain z img
  unlink-free = longer-free z img s t fits x img' done
