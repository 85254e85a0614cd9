-- The records of the worked store, 16 and minus 16 microseconds, and the limits of 32 bits, by computing the definitions.
use Prim.Native.Nat.{ℕ}
use mathlib.Core.List.{List, [], ◌∷◌, map}
use mathlib.Core.Path.{◌≡◌, refl}
use lib.IntN.{ℤ, pos, negsuc}
use Rattle.words.specs.Numbers.{le, le_bytes}
use Rattle.pairs.specs.Pairs.{pair_key, delay_record, record_delay, most_negative, in_order}

abbrev pub numbers : List ℤ
numbers = pos 16 ∷ negsuc 15 ∷ pos 0 ∷ pos 2147483647 ∷ negsuc 2147483646 ∷ most_negative ∷ []

abbrev pub records : List (List ℕ)
records =
    (16 ∷ 0 ∷ 0 ∷ 0 ∷ []) ∷ (240 ∷ 255 ∷ 255 ∷ 255 ∷ []) ∷ (0 ∷ 0 ∷ 0 ∷ 0 ∷ []) ∷ (255 ∷ 255 ∷ 255 ∷ 127 ∷ []) ∷ (1 ∷ 0 ∷ 0 ∷ 128 ∷ [])
    ∷ (0 ∷ 0 ∷ 0 ∷ 128 ∷ []) ∷ []

pub written : map delay_record numbers ≡ records
unfolding delay_record le_bytes
written = refl

pub read : map record_delay records ≡ numbers
unfolding record_delay le
read = refl

-- both orders of a pair have one key; the other order has the other sign
pub either_order : pair_key 2 1 ∷ pair_key 1 2 ∷ [] ≡ (1 ∷ 2 ∷ []) ∷ (1 ∷ 2 ∷ []) ∷ []
unfolding pair_key
either_order = refl

pub signs : in_order 1 2 (pos 16) ∷ in_order 2 1 (pos 16) ∷ in_order 2 1 (negsuc 15) ∷ [] ≡ pos 16 ∷ negsuc 15 ∷ pos 16 ∷ []
signs = refl
