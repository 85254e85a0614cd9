-- Keys, their hashes, and what a slot holds.
use Rattle.std.specs.Prelude.{ℕ, ◌+◌, ◌-◌, ◌*◌, ◌/◌, ◌%◌, ◌^◌, ◌≤◌, List, true, false, eqb, length}
use Rattle.std.proofs.Math.Decide.{dec_le}
use Rattle.lists.specs.Decide.{rule}
use Rattle.settings.specs.declared.Settings.{Settings}
use Rattle.xxh64.specs.Hash.{xxh64}

-- which bytes are a key: refusals 6, of a stored one, and 8, of a given one
abbrev pub longest_key : ℕ
longest_key = 1024

pub record KeyFits (st : Settings) (key : List ℕ) : Type 0 where
  pub some_byte : 1 ≤ length key
  pub not_longer : length key ≤ longest_key

unfoldable pub key_fits? : (st : Settings) (key : List ℕ) → Dec (KeyFits st key)
key_fits? st key =
    rule (λ f. f.some_byte) (dec_le 1 (length key)) λ a.
    rule (λ f. f.not_longer) (dec_le (length key) longest_key) λ b.
    yes (record { some_byte = a; not_longer = b })

module _ (st : Settings) where
  open st use {segments, slots, keyBits, chunkBits}

  -- S = 2 ^ k: the hash's low k bits are its rest by S
  abbrev pub segment_of_hash : ℕ → ℕ
  segment_of_hash h = h % segments

  unfoldable pub segment_of : List ℕ → ℕ
  segment_of key = segment_of_hash (xxh64 key)

  -- the next K bits, or all K ones if those are 0
  unfoldable pub lookup_of_hash : ℕ → ℕ
  lookup_of_hash h = elim (eqb (h / segments % 2 ^ keyBits) 0) [ true ↦ 2 ^ keyBits - 1 | false ↦ h / segments % 2 ^ keyBits ]

  unfoldable pub lookup_key : List ℕ → ℕ
  lookup_key key = lookup_of_hash (xxh64 key)

  -- the slot at which the search for a lookup key starts
  abbrev pub start : ℕ → ℕ
  start lookup = lookup % slots

  -- a full slot: its lookup key, its first chunk, and the bits above; and the slot that has them
  abbrev pub slot_key : ℕ → ℕ
  slot_key v = v % 2 ^ keyBits

  abbrev pub slot_chunk : ℕ → ℕ
  slot_chunk v = v / 2 ^ keyBits % 2 ^ chunkBits

  abbrev pub slot_rest : ℕ → ℕ
  slot_rest v = v / 2 ^ (keyBits + chunkBits)

  abbrev pub slot_with : ℕ → ℕ → ℕ
  slot_with lookup chunk = lookup + chunk * 2 ^ keyBits
