-- A pair of channels: its key, its record, and the sign of its order.
use Rattle.std.specs.Prelude.{ℕ, ◌≤◌, List, [], ◌∷◌, ◌≡◌, ◌≢◌, cond, ltb, length, ℤ, negsuc, neg_ℤ}
use Rattle.std.proofs.Math.Decide.{dec_le, ℕ_discrete}
use Rattle.std.proofs.Math.IntN.{ℤ_discrete}
use Rattle.std.specs.Int.{w32}
use Rattle.std.proofs.Common.{to_z, of_z}
use Rattle.lists.specs.Decide.{both, refuted}
use Rattle.words.specs.Numbers.{le, le_bytes}

-- 11: both channels are 1 to 32, and they differ
abbrev pub IsChannel : ℕ → Type 0
IsChannel c = (1 ≤ c) × (c ≤ 32)

abbrev pub ChannelsFit : ℕ → ℕ → Type 0
ChannelsFit a b = IsChannel a × (IsChannel b × (a ≢ b))

unfoldable pub is_channel? : (c : ℕ) → Dec (IsChannel c)
is_channel? c = both (dec_le 1 c) (λ _. dec_le c 32)

unfoldable pub channels_fit? : (a b : ℕ) → Dec (ChannelsFit a b)
channels_fit? a b = both (is_channel? a) (λ _. both (is_channel? b) (λ _. refuted (ℕ_discrete a b)))

-- the key of either order: the smaller channel first
unfoldable pub pair_key : ℕ → ℕ → List ℕ
pair_key a b = cond (ltb a b) (a ∷ b ∷ []) (b ∷ a ∷ [])

-- the record of a delay, and the delay of a record: four bytes, little-endian, two's complement
unfoldable pub delay_record : ℤ → List ℕ
delay_record d = le_bytes 4 (of_z w32 d)

unfoldable pub record_delay : List ℕ → ℤ
record_delay r = to_z w32 (le r 0 4)

-- the number of 32 bits without an opposite
abbrev pub most_negative : ℤ
most_negative = negsuc 2147483647

-- 12, of a stored record: four bytes that are not that number
abbrev pub RecordFits : List ℕ → Type 0
RecordFits r = (length r ≡ 4) × (record_delay r ≢ most_negative)

unfoldable pub record_fits? : (r : List ℕ) → Dec (RecordFits r)
record_fits? r = both (ℕ_discrete (length r) 4) (λ _. refuted (ℤ_discrete (record_delay r) most_negative))

-- what is kept is the delay with the smaller channel first; the other order has the other sign
abbrev pub in_order : ℕ → ℕ → ℤ → ℤ
in_order a b d = cond (ltb a b) d (neg_ℤ d)
