-- An entry written over the old one of its key, in the same chunks: what is known before, and what the write leaves as it was.
use Prim.Native.Nat.{ℕ, ◌≤◌, ◌<◌}
use mathlib.Core.List.{List, Memᴰ}
use mathlib.Core.Path.{◌≡◌, subst}
use mathlib.Core.Logic.{◌≢◌}
use native.Mathlib.Omega.{arith}
use lib.ListN.{length}
use lib.Seq.{length-sets}
use Rattle.words.specs.Bytes.{Bytes}
use Rattle.layout.specs.declared.Shape.{Shape}
use Rattle.layout.specs.Tiers.{IsTier}
use Rattle.layout.specs.Places.{Place, tier, slot, In, get, chunk_at}
use Rattle.layout.specs.Frame.{Image}
use Rattle.layout.proofs.Places.{by_kind, shared_in, shared-byte}
use Rattle.layout.proofs.Chunks.{NoByte, image-sets, get-sets-other, mark-sets}
use Rattle.chains.specs.Chains.{chain}
use Rattle.chains.proofs.Tiers.{chain-tiers}
use Rattle.chains.proofs.AgreeChains.{same-chain}
use Rattle.entries.specs.Keys.{KeyFits}
use Rattle.entries.specs.Stored.{entry_bytes, chunks_for, ValueFits}
use Rattle.entries.specs.Live.{slot_at, chunk_of}
use Rattle.search.specs.Rules.{keyAt, chunks_at, EntryFits}
use Rattle.sound.specs.Sound.{SoundImage}
use Rattle.sound.proofs.Sound.{sound-image}
use Rattle.sound.proofs.AgreeTier.{SameMarks, SameCounters}
use Rattle.sound.proofs.Replaced.{OnlyTier}
use Rattle.sound.proofs.Elsewhere.{only-elsewhere}
use Rattle.counters.specs.LowMarks.{LowKept}
use Rattle.placement.specs.Placement.{write_entry}
use Rattle.placement.specs.Asking.{CanWrite}
use Rattle.placement.proofs.Written.{chunk-lt, entry-room, entry-bytes}

-- slot j of tier t has the key, and the new entry takes as many chunks as the one there
pub record Rewrites (z : Shape) (img : List ℕ) (s t j : ℕ) (key value : List ℕ) : Type 0 where
  pub segment_in : s < z.settings.segments
  pub sound : SoundImage z img
  pub tier_in : Memᴰ t (chain z img s)
  pub slot_in : j < z.settings.slots
  pub full : slot_at z img t j ≢ 0
  pub key_is : keyAt z img t j ≡ key
  pub key_bytes : Bytes key
  pub value_bytes : Bytes value
  pub value_fits : ValueFits z.settings (length key) (length value)
  pub same_chunks : chunks_at z img t j ≡ chunks_for z.settings (length key) (length value)

-- the image then
abbrev pub rewritten : Shape → List ℕ → ℕ → ℕ → List ℕ → List ℕ → List ℕ
rewritten z img t j key value = write_entry z img t (chunk_of z img t j) key value

module _ {z : Shape} {img : List ℕ} {s t j : ℕ} {key value : List ℕ} (w : Rewrites z img s t j key value) where
  open z use {settings}
  open settings use {segments, slots}

  abbrev c : ℕ
  c = chunk_of z img t j

  abbrev bs : List ℕ
  bs = entry_bytes settings key value

  image : Image z img
  image = sound-image z img w.sound

  pub is-tier : IsTier z t
  is-tier = chain-tiers z img w.sound.fits.chains s w.segment_in t w.tier_in

  pub was-entry : EntryFits z img s t j
  was-entry = (w.sound.fits.entries.tiers_fit s w.segment_in t w.tier_in).slots_fit.full j w.slot_in w.full

  pub key_fits : KeyFits z.settings key
  key_fits = subst (KeyFits settings) w.key_is was-entry.key_fits

  -- what the code asks for
  pub rewrite-asks : CanWrite z img t (chunk_of z img t j) key value
  rewrite-asks =
      record {
        tier = record { framed = image.framed; tier_in = is-tier };
        key_long = key_fits.not_longer;
        value_long = w.value_fits.not_longer;
        range_ends = omega (arith, was-entry.range_ends, w.same_chunks);
      }

  -- ---- nothing but the tier's chunks is written

  in_chunks_lem : c ≤ z.settings.chunks
  in_chunks_lem = omega (arith, chunk-lt rewrite-asks)

  same_place : (p : Place) → In z p → NoByte t p → get z (rewritten z img t j key value) p ≡ get z img p
  same_place p h ne = get-sets-other image.framed img t c bs p is-tier in_chunks_lem (entry-room rewrite-asks) h ne

  pub rewrite-only : OnlyTier z img (rewritten z img t j key value) t
  rewrite-only =
      only-elsewhere z img (rewritten z img t j key value) t
      (image-sets image (chunk_at z t c) bs (entry-bytes rewrite-asks w.key_bytes w.value_bytes))
      (length-sets img (chunk_at z t c) bs) (λ p h e. same_place p h e.bytes)

  pub rewrite-slots : (u k : ℕ) → IsTier z u → k < slots → slot_at z (rewritten z img t j key value) u k ≡ slot_at z img u k
  rewrite-slots u k is h = same_place (tier u (slot k)) (is, h) (λ i. by_kind (omega arith))

  pub rewrite-marks : (u : ℕ) → IsTier z u → SameMarks z img (rewritten z img t j key value) u
  rewrite-marks u is i h = mark-sets image.framed img t c bs u i is-tier in_chunks_lem (entry-room rewrite-asks) is h

  pub rewrite-counters : (u : ℕ) → IsTier z u → SameCounters z img (rewritten z img t j key value) u
  rewrite-counters u is =
      record {
        count = same_place _ (shared_in z _ _ u is) (shared-byte z _ _ u t);
        low = same_place _ (shared_in z _ _ u is) (shared-byte z _ _ u t);
      }

  pub rewrite-chain : (q : ℕ) → q < segments → chain z (rewritten z img t j key value) q ≡ chain z img q
  rewrite-chain = same-chain z img (rewritten z img t j key value) w.sound.fits.chains rewrite-only.chains

  pub rewrite-lows : (u : ℕ) → IsTier z u → LowKept z img (rewritten z img t j key value) u
  rewrite-lows u is = record { bits = rewrite-marks u is; field = (rewrite-counters u is).low }
