-- The record of a delay: four bytes, which read back as the delay.
use Prim.Native.Nat.{ℕ, zero, suc, ◌/◌, ◌%◌, ◌≤◌, ◌<◌}
use mathlib.Core.List.{List, [], ◌∷◌}
use mathlib.Core.Path.{◌≡◌, refl, ap, sym, ◌∙◌, subst}
use mathlib.Core.Logic.{◌≢◌, ⊎_elim}
use native.Mathlib.Omega.{arith}
use lib.IntN.{ℤ}
use mir.Syntax.{w32}
use mir.Val.{SFits, to_z, of_z}
use native.Mathlib.Numerals.{towards_numerals}
use Rattle.std.specs.Int.{to_le_bytes, from_le_bytes}
use mir.ValLaws.{to_z-of_z, of_z_fits}
use Rattle.lists.specs.Cases.{lt-or}
use Rattle.words.specs.Bytes.{Bytes}
use Rattle.words.specs.Numbers.{le, le_bytes, put_le}
use Rattle.words.proofs.Numbers.{length_le_bytes, bytes-put_le, le-put_le-same}
use Rattle.pairs.specs.Pairs.{delay_record, record_delay, most_negative, RecordFits, in_order}
use Rattle.pairs.proofs.Numbers.{opposite-fits, opposite-not}
use Rattle.pairs.proofs.Orders.{sign-first, sign-last}

-- ---- written over zeros, as the code does

abbrev zeros : List ℕ
zeros = 0 ∷ 0 ∷ 0 ∷ 0 ∷ []

over_zeros : (v : ℕ) → put_le zeros 0 4 v ≡ le_bytes 4 v
unfolding put_le le_bytes
over_zeros v = refl

to_le_bytes-four : (v : ℕ) → to_le_bytes w32 v ≡ le_bytes 4 v
unfolding le_bytes
to_le_bytes-four v =
    let two : v / 65536 % 256 ≡ v / 256 / 256 % 256 = omega arith in
    let three : v / 16777216 % 256 ≡ v / 256 / 256 / 256 % 256 = omega arith in
    λ i. v % 256 ∷ v / 256 % 256 ∷ two i ∷ three i ∷ []

from_le_bytes-four : (bs : List ℕ) → from_le_bytes w32 bs ≡ le bs 0 4
unfolding le
from_le_bytes-four bs = simp towards_numerals (omega arith)

-- d is given as a local holds it
pub record_of : (d : ℤ) → SFits w32 d → to_le_bytes w32 (of_z w32 (to_z w32 (of_z w32 d))) ≡ delay_record d
unfolding delay_record
record_of d f = to_le_bytes-four _ ∙ ap (λ (x : ℤ). le_bytes 4 (of_z w32 x)) (to_z-of_z w32 d f)

pub delay_of : (r : List ℕ) {bs : List ℕ} {x : ℤ} → bs ≡ r → x ≡ to_z w32 (from_le_bytes w32 bs) → x ≡ record_delay r
unfolding record_delay
delay_of r {bs} e ex = ex ∙ ap (to_z w32) (from_le_bytes-four bs ∙ ap (λ (l : List ℕ). le l 0 4) e)

-- x is d with the sign of the order, both as locals hold them
pub record_in_order : (a b : ℕ) {d x : ℤ} → SFits w32 d → SFits w32 x → x ≡ in_order a b (to_z w32 (of_z w32 d)) → {bytes : List ℕ}
    → bytes ≡ delay_record (to_z w32 (of_z w32 x))
    → bytes ≡ delay_record (in_order a b d)
record_in_order a b {d} {x} fd fx ex e = e ∙ ap delay_record (to_z-of_z w32 x fx ∙ ex ∙ ap (in_order a b) (to_z-of_z w32 d fd))

-- ---- what it is

pub record_bytes_lem : (d : ℤ) → Bytes (delay_record d)
unfolding delay_record
record_bytes_lem d = rw (over_zeros (of_z w32 d)) at (bytes-put_le zeros 0 4 (of_z w32 d) all-zero)
  where
    all-zero : Bytes (0 ∷ 0 ∷ 0 ∷ 0 ∷ [])
    all-zero zero = omega arith
    all-zero (suc zero) = omega arith
    all-zero (suc (suc zero)) = omega arith
    all-zero (suc (suc (suc zero))) = omega arith
    all-zero (suc (suc (suc (suc i)))) = omega arith

pub record_back : (d : ℤ) → SFits w32 d → record_delay (delay_record d) ≡ d
unfolding delay_record record_delay
record_back d f =
    let e : le (le_bytes 4 (of_z w32 d)) 0 4 ≡ of_z w32 d =
    rw (over_zeros (of_z w32 d)) at (le-put_le-same zeros 0 4 (of_z w32 d) (omega arith) (of_z_fits w32 d f).fits) in
    ap (to_z w32) e ∙ to_z-of_z w32 d f

pub record_fits : (d : ℤ) → SFits w32 d → d ≢ most_negative → RecordFits (delay_record d)
unfolding delay_record
record_fits d f n = (length_le_bytes 4 (of_z w32 d), λ (e : record_delay (delay_record d) ≡ most_negative). n (sym (record_back d f) ∙ e))

-- with the sign of the order a delay still has 32 bits and an opposite
module _ (a b : ℕ) {d : ℤ} (f : SFits w32 d) (n : d ≢ most_negative) where
  pub sign_fits : SFits w32 (in_order a b d)
  sign_fits =
      ⊎_elim (λ (h : a < b). subst (SFits w32) (sym (sign-first a b d h)) f)
      (λ (h : b ≤ a). subst (SFits w32) (sym (sign-last a b d h)) (opposite-fits d f n)) (lt-or a b)

  pub sign-not : in_order a b d ≢ most_negative
  sign-not e = ⊎_elim (λ (h : a < b). n (sym (sign-first a b d h) ∙ e)) (λ (h : b ≤ a). opposite-not d f (sym (sign-last a b d h) ∙ e)) (lt-or a b)
