-- A slot's parts and the slot that has them, over every count of bits.
use Prim.Native.Nat.{ℕ, ◌+◌, ◌*◌, ◌/◌, ◌^◌, ◌<◌}
use mathlib.Core.Path.{◌≡◌}
use mathlib.Core.Logic.{◌≢◌}
use native.Mathlib.Omega.{arith}
use native.Mathlib.Nat.{add_comm, mod-eq_of_lt, div-eq_of_lt, lt_of_lt_of_le}
use lib.Pow.{pow_mono, pow-add, high, low, shr-shr}
use lib.Arith.{digits_lt}
use Rattle.words.proofs.Bits.{pow-256}
use Rattle.settings.specs.declared.Settings.{Settings}
use Rattle.settings.specs.Rules.{Valid}
use Rattle.entries.specs.Keys.{slot_key, slot_chunk, slot_rest, slot_with}

-- ---- the parts of a slot that is put together

module _ (st : Settings) (l c : ℕ) (hl : l < 2 ^ st.keyBits) where
  open st use {keyBits, chunkBits, slotSize}

  pub slot_key-with : slot_key st (slot_with st l c) ≡ l
  slot_key-with = rw (add_comm l (c * 2 ^ keyBits)) (low c keyBits hl)

  rest-of-key : slot_with st l c / 2 ^ keyBits ≡ c
  rest-of-key = rw (add_comm l (c * 2 ^ keyBits)) (high c keyBits hl)

  module _ (hc : c < 2 ^ st.chunkBits) where
    pub slot_chunk-with : slot_chunk st (slot_with st l c) ≡ c
    slot_chunk-with = rw rest-of-key (mod-eq_of_lt hc)

    pub slot_rest-with : slot_rest st (slot_with st l c) ≡ 0
    slot_rest-with = rw (← shr-shr (slot_with st l c) keyBits chunkBits, rest-of-key) (div-eq_of_lt hc)

    slot_with-lt : slot_with st l c < 2 ^ (chunkBits + keyBits)
    slot_with-lt = rw (add_comm l (c * 2 ^ keyBits), pow-add 2 chunkBits keyBits) (digits_lt hc hl)

    pub slot_with-fits : Valid st → slot_with st l c < 256 ^ slotSize
    slot_with-fits v =
        rw (pow-256 slotSize)
        (lt_of_lt_of_le slot_with-lt (pow_mono {i = chunkBits + keyBits} {j = 8 * slotSize} (omega (arith, v.chunkBits.1.0))))

-- it is no empty slot
pub slot_with-full : (st : Settings) (l c : ℕ) → l ≢ 0 → slot_with st l c ≢ 0
slot_with-full st l c ne = omega arith
