-- One bulk more: the image is sound again, with the live entries that it had.
use Prim.Native.Nat.{ℕ, suc, ◌+◌, ◌-◌, ◌*◌, ◌/◌, ◌≤◌, ◌<◌}
use mathlib.Core.List.{List, ◌++◌, map, flat_map, Memᴰ}
use mathlib.Core.Path.{◌≡◌, ap, sym, ◌∙◌, subst}
use mathlib.Core.Logic.{⊎_elim}
use mathlib.Core.Bool.{false}
use native.Mathlib.Omega.{arith}
use lib.ListN.{length, get_or}
use Rattle.lists.specs.Lists.{span, below}
use Rattle.lists.specs.Quantify.{Below, Every}
use Rattle.lists.proofs.Lists.{span_in}
use Rattle.lists.proofs.SameLists.{same_map, same_flat_map}
use Rattle.layout.specs.declared.Shape.{Shape}
use Rattle.layout.specs.Tiers.{tiers, IsTier}
use Rattle.layout.specs.declared.Global.TheVariants.{HeadersOffset as headersOffset}
use Rattle.layout.specs.Places.{global, mark}
use Rattle.layout.specs.Frame.{shape_of, FrameFits, Image}
use Rattle.layout.proofs.Frames.{headers-get, bulks-get}
use Rattle.chains.specs.Chains.{chain, last_tier, free_head, free_chain}
use Rattle.chains.proofs.Tiers.{chain-tiers, free-tiers}
use Rattle.entries.specs.declared.Live.{Live}
use Rattle.entries.specs.Live.{live_in, live_of, live}
use Rattle.entries.specs.Pairs.{pair_of, pairs_of}
use Rattle.entries.proofs.LiveLists.{IsLive, live_in_lem}
use Rattle.search.specs.Search.{first_empty}
use Rattle.search.specs.Rules.{TierSlotsFit, KeysOnce, EntriesFit}
use Rattle.chunks.specs.Chunks.{FreeTierFits, ChunksFit}
use Rattle.sound.specs.Sound.{SoundImage}
use Rattle.sound.proofs.Sound.{sound-image}
use Rattle.growing.specs.Growing.{grown, no_bulk, new_tier, grow_image, IsNew}
use Rattle.growing.proofs.Reshaped.{tiers-grown, room-framed}
use Rattle.growing.proofs.NewTiers.{Grows, grow-grows}
use Rattle.growing.proofs.Chains.{grown-chain, grown-free, grown-chains}
use Rattle.growing.proofs.Tiers.{grown-slots, grown-marks, grown-counters, grown-nothing, grown_live_in, grown-empty, grown-full, grown-key, grown-pair}

module _ (z : Shape) (img : List ℕ) (sound : SoundImage z img) (room : no_bulk z (length img) ≡ false) where
  open z use {settings}
  open settings use {segments, bulkTiers}

  -- the image is long enough for the shape with the bulk
  pub room-image : Image (grown z) img
  room-image = record { bytes = sound.bytes; framed = room-framed z (sound-image z img sound).framed room }

  grows : Grows z img (grow_image z img)
  grows = grow-grows z room-image

  some : 1 ≤ bulkTiers
  some = sound.fits.valid.bulkTiers.0

  -- ---- the chains

  pub grow-chain : (s : ℕ) → s < segments → chain (grown z) (grow_image z img) s ≡ chain z img s
  grow-chain = grown-chain z img (grow_image z img) sound.fits.chains some grows

  pub grow-free : free_chain (grown z) (grow_image z img) ≡ span (suc (tiers z)) bulkTiers ++ free_chain z img
  grow-free = grown-free z img (grow_image z img) sound.fits.chains some grows

  pub grow-head : free_head (grown z) (grow_image z img) ≡ suc (tiers z)
  grow-head = grows.head_is

  -- ---- the tiers of a chain are those of before

  in_chain_lem : (s u : ℕ) → s < segments → Memᴰ u (chain (grown z) (grow_image z img) s) → Memᴰ u (chain z img s)
  in_chain_lem s u h m = subst (Memᴰ u) (grow-chain s h) m

  chain-tier : (s u : ℕ) → s < segments → Memᴰ u (chain z img s) → IsTier z u
  chain-tier s u h m = chain-tiers z img sound.fits.chains s h u m

  slots-fit : (s u : ℕ) → s < segments → Memᴰ u (chain z img s) → TierSlotsFit z img s u
  slots-fit s u h m = sound.fits.entries.tiers_fit s h u m

  -- ---- the rules

  shape-now : shape_of settings (grow_image z img) ≡ grown z
  unfolding shape_of
  shape-now =
      let img' : List ℕ = grow_image z img in
      let hh : (shape_of settings img').headers ≡ z.headers =
      sym (headers-get (grown z) img') ∙ grows.kept (global headersOffset) tt (omega arith) ∙ headers-get z img
      ∙ ap (λ (x : Shape). x.headers) sound.shape in
      let bb : (shape_of settings img').bulks ≡ z.bulks + 1 = sym (bulks-get (grown z) img') ∙ grows.bulk_count_is in
      λ i. record { settings = settings; headers = hh i; bulks = bb i }

  frame-now : FrameFits (grown z) (grow_image z img)
  frame-now =
      record {
        image_length = rw grows.long sound.fits.frame.image_length;
        headers_after = sound.fits.frame.headers_after;
        tier_count = room-image.framed.tier_count;
        store_size_is = grows.size_is;
        store_within = rw grows.long room-image.framed.within;
      }

  keys-now : Below segments (KeysOnce (grown z) (grow_image z img))
  keys-now s h u mu i hi fu v mv k hk fv e =
      let img' : List ℕ = grow_image z img in
      let ou : Memᴰ u (chain z img s) = in_chain_lem s u h mu in
      let ov : Memᴰ v (chain z img s) = in_chain_lem s v h mv in
      let full-u = grown-full z img img' grows u (chain-tier s u h ou) s (slots-fit s u h ou) i hi fu in
      let full-v = grown-full z img img' grows v (chain-tier s v h ov) s (slots-fit s v h ov) k hk fv in
      sound.fits.entries.keys_once s h u ou i hi full-u v ov k hk full-v
      (sym (grown-key z img img' grows u (chain-tier s u h ou) s (slots-fit s u h ou) i hi full-u) ∙ e
      ∙ grown-key z img img' grows v (chain-tier s v h ov) s (slots-fit s v h ov) k hk full-v)

  entries-now : EntriesFit (grown z) (grow_image z img)
  entries-now =
      record {
        tiers_fit = λ s h u m.
            let o : Memᴰ u (chain z img s) = in_chain_lem s u h m in
            grown-slots z img (grow_image z img) grows u (chain-tier s u h o) s (slots-fit s u h o);
        keys_once = keys-now;
      }

  -- a new tier is clear, an old free one still is
  new-free : (u : ℕ) → Memᴰ u (span (suc (tiers z)) bulkTiers) → FreeTierFits (grown z) (grow_image z img) u
  new-free u m =
      let row : (suc (tiers z) ≤ u) × (u < suc (tiers z) + bulkTiers) = span_in (suc (tiers z)) bulkTiers u m in
      let k : ℕ = u - suc (tiers z) in
      let is : new_tier z k ≡ u = omega arith in
      subst (FreeTierFits (grown z) (grow_image z img)) is (grows.new k (omega arith)).fits

  free-now : Every (span (suc (tiers z)) bulkTiers ++ free_chain z img) (FreeTierFits (grown z) (grow_image z img))
  free-now u m =
      ⊎_elim
      (λ c. new-free u c)
      (λ c.
      grown-nothing z img (grow_image z img) grows u (free-tiers z img sound.fits.chains.free_fits u c) (sound.fits.chunks.free_fit u c))
      (mathlib.Core.List.Memᴰ.append_cases (span (suc (tiers z)) bulkTiers) m)

  chunks-now : ChunksFit (grown z) (grow_image z img)
  chunks-now =
      record {
        tiers_fit = λ s h u m.
            let o : Memᴰ u (chain z img s) = in_chain_lem s u h m in
            let is : IsTier z u = chain-tier s u h o in
            record {
              marks = grown-marks z img (grow_image z img) grows u is s (sound.fits.chunks.tiers_fit s h u o).marks;
              counters = grown-counters z img (grow_image z img) grows u is (sound.fits.chunks.tiers_fit s h u o).counters;
            };
        free_fit = rw grow-free free-now;
      }

  pub grow-sound : SoundImage (grown z) (grow_image z img)
  grow-sound =
      record {
        bytes = grows.image.bytes;
        shape = shape-now;
        fits = record {
          valid = sound.fits.valid;
          frame = frame-now;
          chains = grown-chains z img (grow_image z img) sound.fits.chains some grows;
          entries = entries-now;
          chunks = chunks-now;
        };
      }

  -- ---- the live entries are the same, with the same keys and records

  live_of_now : (s : ℕ) → s < segments → live_of (grown z) (grow_image z img) s ≡ live_of z img s
  unfolding live_of
  live_of_now s h =
      ap (flat_map (live_in (grown z) (grow_image z img) s)) (grow-chain s h)
      ∙ same_flat_map (live_in (grown z) (grow_image z img) s) (live_in z img s) (chain z img s)
      (λ u m. grown_live_in z img (grow_image z img) grows u (chain-tier s u h m) s)

  pub grow-live : live (grown z) (grow_image z img) ≡ live z img
  unfolding live
  grow-live =
      same_flat_map (live_of (grown z) (grow_image z img)) (live_of z img) (below segments)
      (λ s m. live_of_now s (omega (arith, span_in 0 segments s m)))

  pub grow-pair : Every (live z img) (λ e. pair_of (grow_image z img) e ≡ pair_of img e)
  grow-pair e m =
      let w : IsLive z img e = live_in_lem z img e m in
      subst (λ (x : Live). pair_of (grow_image z img) x ≡ pair_of img x) (sym w.is)
      (grown-pair z img (grow_image z img) grows e.tier (chain-tier e.segment e.tier w.segment_in w.tier_in) e.segment
      (slots-fit e.segment e.tier w.segment_in w.tier_in) e.slot w.slot_in w.full)

  pub grow-pairs : pairs_of (grown z) (grow_image z img) ≡ pairs_of z img
  unfolding pairs_of
  grow-pairs = ap (map (pair_of (grow_image z img))) grow-live ∙ same_map (pair_of (grow_image z img)) (pair_of img) (live z img) grow-pair

  -- ---- and a search for an absent key ends where it ended

  pub grow_last : (s : ℕ) → s < segments → last_tier (grown z) (grow_image z img) s ≡ last_tier z img s
  grow_last s h = ap (λ (ts : List ℕ). get_or ts (length ts - 1) 0) (grow-chain s h)

  pub grow-empty : (key : List ℕ) (u : ℕ) → IsTier z u → first_empty (grown z) (grow_image z img) key u ≡ first_empty z img key u
  grow-empty key u is = grown-empty z img (grow_image z img) grows u is sound.fits.valid key

  -- ---- the bits behind the chunks of a new tier

  pub grow-bits : (t i : ℕ) → IsNew z t → z.settings.chunks ≤ i → 8 * (i / 8) < z.settings.chunks
      → mark (grown z) (grow_image z img) t i ≡ mark (grown z) img t i
  grow-bits t i new past within =
      let k : ℕ = t - suc (tiers z) in
      let is : new_tier z k ≡ t = omega arith in
      subst (λ (u : ℕ). mark (grown z) (grow_image z img) u i ≡ mark (grown z) img u i) is (grows.bits k i (omega (arith, tiers-grown z)) past within)
