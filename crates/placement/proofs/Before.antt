-- What is known before an entry is placed, and what that says of its slot's number.
use Prim.Native.Nat.{ℕ, ◌+◌, ◌^◌, ◌≤◌, ◌<◌}
use mathlib.Core.List.{List, Memᴰ}
use mathlib.Core.Path.{◌≡◌}
use mathlib.Core.Logic.{◌≢◌}
use Rattle.std.proofs.Common.{Option}
use native.Mathlib.Omega.{arith}
use lib.ListN.{length}
use Rattle.words.specs.Bytes.{Bytes}
use Rattle.layout.specs.declared.Shape.{Shape}
use Rattle.layout.specs.Tiers.{IsTier}
use Rattle.layout.specs.Places.{mark}
use Rattle.layout.specs.Frame.{Image}
use Rattle.chains.specs.Chains.{chain}
use Rattle.entries.specs.Keys.{KeyFits, segment_of, lookup_key, slot_key, slot_chunk, slot_rest, slot_with}
use Rattle.entries.specs.Stored.{chunks_for, ValueFits}
use Rattle.entries.specs.Live.{full_slots}
use Rattle.entries.proofs.Hashes.{lookup-lt, lookup-full}
use Rattle.sound.specs.Sound.{SoundBut}
use Rattle.placement.specs.Asking.{CanWrite, KnownFor, CanPlace}
use Rattle.placement.proofs.Written.{chunk-lt}
use Rattle.chains.proofs.Tiers.{chain-tiers}
use Rattle.sound.proofs.Sound.{sound-image}
use Rattle.entries.proofs.Slots.{slot_key-with, slot_with-fits, slot_with-full, slot_chunk-with, slot_rest-with}
use Rattle.lists.specs.Quantify.{Every}
use Rattle.search.specs.Asking.{Lacks}

-- the number of a slot for this key, with its entry in chunk c
abbrev pub number_for : Shape → List ℕ → ℕ → ℕ
number_for z key c = slot_with z.settings (lookup_key z.settings key) c

-- what is known before an entry is placed
pub record Places (z : Shape) (img but : List ℕ) (s t c : ℕ) (key value : List ℕ) : Type 0 where
  pub segment_in : s < z.settings.segments
  pub sound : SoundBut z img but
  pub tier_in : Memᴰ t (chain z img s)
  pub key_bytes : Bytes key
  pub value_bytes : Bytes value
  pub key_fits : KeyFits z.settings key
  pub value_fits : ValueFits z.settings (length key) (length value)
  pub segment_is : segment_of z.settings key ≡ s
  pub roomy : length (full_slots z img t) + 2 ≤ z.settings.slots
  pub range_ends : c + chunks_for z.settings (length key) (length value) ≤ z.settings.chunks
  pub clear_run : (i : ℕ) → c ≤ i → i < c + chunks_for z.settings (length key) (length value) → mark z img t i ≡ 0
  pub absent : Every (chain z img s) (Lacks z img key)

module _ {z : Shape} {img but : List ℕ} {s t c : ℕ} {key value : List ℕ} (p : Places z img but s t c key value) where
  open z use {settings}
  open settings use {slotSize, chunkBits}

  pub image : Image z img
  image = sound-image z img p.sound

  pub is-tier : IsTier z t
  is-tier = chain-tiers z img p.sound.fits.chains s p.segment_in t p.tier_in

  -- what the code asks for
  pub can_write : CanWrite z img t c key value
  can_write =
      record {
        tier = record { framed = image.framed; tier_in = is-tier };
        key_long = p.key_fits.not_longer;
        value_long = p.value_fits.not_longer;
        range_ends = p.range_ends;
      }

  pub can-place : {slot : Option ℕ} → KnownFor z img t key slot → CanPlace z img t c slot key value
  can-place e =
      record {
        write = can_write;
        takes = record {
          some_empty = (p.sound.fits.entries.tiers_fit s p.segment_in t p.tier_in).slots_fit.some_empty;
          lacks = p.absent t p.tier_in;
        };
        slot_is = e;
      }

  -- ---- its slot's number

  chunk-bits : c < 2 ^ chunkBits
  chunk-bits = omega (arith, chunk-lt can_write, p.sound.fits.valid.chunkBits.1.1)

  pub number-full : number_for z key c ≢ 0
  number-full = slot_with-full settings (lookup_key settings key) c (lookup-full p.sound.fits.valid key)

  pub number_fits : number_for z key c < 256 ^ slotSize
  number_fits = slot_with-fits settings (lookup_key settings key) c (lookup-lt p.sound.fits.valid key) chunk-bits p.sound.fits.valid

  pub number-key : slot_key settings (number_for z key c) ≡ lookup_key settings key
  number-key = slot_key-with settings (lookup_key settings key) c (lookup-lt p.sound.fits.valid key)

  pub number-chunk : slot_chunk settings (number_for z key c) ≡ c
  number-chunk = slot_chunk-with settings (lookup_key settings key) c (lookup-lt p.sound.fits.valid key) chunk-bits

  pub number-rest : slot_rest settings (number_for z key c) ≡ 0
  number-rest = slot_rest-with settings (lookup_key settings key) c (lookup-lt p.sound.fits.valid key) chunk-bits
