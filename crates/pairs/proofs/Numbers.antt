-- Signed numbers of 32 bits: the opposite, and the bits as the code works them out.
use Prim.Native.Nat.{zero, suc}
use mathlib.Core.Path.{◌≡◌, ap, sym, ◌∙◌, subst}
use mathlib.Core.Logic.{◌≢◌}
use native.Mathlib.Omega.{arith}
use lib.IntN.{ℤ, pos, negsuc, neg_ℤ, ◌-ℤ◌, neg_ℤ-neg_ℤ, +ℤ_idl}
use mir.Syntax.{w32}
use mir.Val.{SFits, to_z, of_z}
use mir.ValLaws.{to_z-of_z}
use Rattle.pairs.specs.Pairs.{most_negative}

-- ---- the most negative number

pub bits_most : {d : ℤ} → SFits w32 d → of_z w32 d ≡ 2147483648 → d ≡ most_negative
bits_most {d} f e = sym (to_z-of_z w32 d f) ∙ ap (to_z w32) e

pub most-bits : {d : ℤ} → d ≡ most_negative → of_z w32 d ≡ 2147483648
most-bits e = ap (of_z w32) e

-- what a local of 32 bits holds is the number itself
pub held-not : {d : ℤ} → SFits w32 d → d ≢ most_negative → to_z w32 (of_z w32 d) ≢ most_negative
held-not {d} f n e = n (sym (to_z-of_z w32 d f) ∙ e)

-- ---- the opposite

pub opposite-fits : (d : ℤ) → SFits w32 d → d ≢ most_negative → SFits w32 (neg_ℤ d)
opposite-fits (pos zero) f n = record { sfits = omega arith }
opposite-fits (pos (suc k)) f n = record { sfits = omega (arith, f.sfits) }
opposite-fits (negsuc k) f n = record { sfits = let m : k ≢ 2147483647 = λ (e : k ≡ 2147483647). n (ap negsuc e) in omega (arith, f.sfits) }

pub opposite-not : (d : ℤ) → SFits w32 d → neg_ℤ d ≢ most_negative
opposite-not d f e =
    let q : d ≡ pos 2147483648 = sym (neg_ℤ-neg_ℤ d) ∙ ap neg_ℤ e in
    let g : SFits w32 (pos 2147483648) = subst (SFits w32) q f in
    omega (arith, g.sfits)

module _ {d : ℤ} (f : SFits w32 d) (n : d ≢ most_negative) where
  zero-less : pos 0 -ℤ to_z w32 (of_z w32 d) ≡ neg_ℤ d
  zero-less = +ℤ_idl (neg_ℤ (to_z w32 (of_z w32 d))) ∙ ap neg_ℤ (to_z-of_z w32 d f)

  pub less-fits : SFits w32 (pos 0 -ℤ to_z w32 (of_z w32 d))
  less-fits = subst (SFits w32) (sym zero-less) (opposite-fits d f n)

  -- what 0 - d leaves
  pub less-is : to_z w32 (of_z w32 (pos 0 -ℤ to_z w32 (of_z w32 d))) ≡ neg_ℤ d
  less-is = to_z-of_z w32 (pos 0 -ℤ to_z w32 (of_z w32 d)) less-fits ∙ zero-less

  pub less-not : to_z w32 (of_z w32 (pos 0 -ℤ to_z w32 (of_z w32 d))) ≢ most_negative
  less-not e = opposite-not d f (sym less-is ∙ e)
