-- The key and the sign of a pair of channels, for either order.
use Prim.Native.Nat.{ℕ, zero, suc, ◌≤◌, ◌<◌}
use mathlib.Core.List.{[], ◌∷◌}
use mathlib.Core.Path.{◌≡◌, ap, sym, ◌∙◌}
use mathlib.Core.Logic.{◌≢◌, ⊎_elim}
use native.Mathlib.Omega.{arith}
use lib.ListN.{length}
use lib.IntN.{ℤ, neg_ℤ, neg_ℤ-neg_ℤ}
use borrow.Author.Tests.{lt-ltb, le-ltb}
use Rattle.lists.specs.Cases.{lt-or}
use Rattle.words.specs.Bytes.{Bytes}
use Rattle.settings.specs.declared.Settings.{Settings}
use Rattle.entries.specs.Keys.{KeyFits}
use Rattle.pairs.specs.Pairs.{ChannelsFit, pair_key, in_order}

module _ (a b : ℕ) where
  -- ---- the smaller first

  pub key-first : a < b → a ∷ b ∷ [] ≡ pair_key a b
  unfolding pair_key
  key-first h = rw (lt-ltb a b h)

  pub sign-first : (d : ℤ) → a < b → in_order a b d ≡ d
  sign-first d h = rw (lt-ltb a b h)

  -- ---- the smaller last

  pub key-last : b ≤ a → b ∷ a ∷ [] ≡ pair_key a b
  unfolding pair_key
  key-last h = rw (le-ltb a b h)

  pub sign-last : (d : ℤ) → b ≤ a → in_order a b d ≡ neg_ℤ d
  sign-last d h = rw (le-ltb a b h)

-- ---- one key for both orders, and opposite signs

pub key-either : (a b : ℕ) → a ≢ b → pair_key b a ≡ pair_key a b
key-either a b n =
    ⊎_elim (λ (h : a < b). sym (key-last b a (omega arith)) ∙ key-first a b h)
    (λ (h : b ≤ a). sym (key-first b a (omega arith)) ∙ key-last a b h) (lt-or a b)

pub sign-either : (a b : ℕ) (d : ℤ) → a ≢ b → in_order b a d ≡ neg_ℤ (in_order a b d)
sign-either a b d n =
    ⊎_elim
    (λ (h : a < b). sign-last b a d (omega arith) ∙ ap neg_ℤ (sym (sign-first a b d h)))
    (λ (h : b ≤ a). sign-first b a d (omega arith) ∙ sym (neg_ℤ-neg_ℤ d) ∙ ap neg_ℤ (sym (sign-last a b d h)))
    (lt-or a b)

-- the sign of the order, taken twice
pub sign-twice : (a b : ℕ) (d : ℤ) → in_order a b (in_order a b d) ≡ d
sign-twice a b d =
    ⊎_elim
    (λ (h : a < b). sign-first a b (in_order a b d) h ∙ sign-first a b d h)
    (λ (h : b ≤ a). sign-last a b (in_order a b d) h ∙ ap neg_ℤ (sign-last a b d h) ∙ neg_ℤ-neg_ℤ d)
    (lt-or a b)

-- ---- the key is two bytes

two_bytes : (a b : ℕ) → a ≤ 32 → b ≤ 32 → Bytes (a ∷ b ∷ [])
two_bytes a b ha hb zero = omega arith
two_bytes a b ha hb (suc zero) = omega arith
two_bytes a b ha hb (suc (suc i)) = omega arith

key-length : (a b : ℕ) → length (pair_key a b) ≡ 2
key-length a b = ⊎_elim (λ (h : a < b). ap length (sym (key-first a b h))) (λ (h : b ≤ a). ap length (sym (key-last a b h))) (lt-or a b)

pub key_fits : (a b : ℕ) (st : Settings) → KeyFits st (pair_key a b)
key_fits a b st = record { some_byte = omega (arith, key-length a b); not_longer = omega (arith, key-length a b) }

pub key-bytes : (a b : ℕ) → ChannelsFit a b → Bytes (pair_key a b)
key-bytes a b fit =
    ⊎_elim
    (λ (h : a < b). rw (key-first a b h) at (two_bytes a b fit.0.1 fit.1.0.1))
    (λ (h : b ≤ a). rw (key-last a b h) at (two_bytes b a fit.1.0.1 fit.0.1))
    (lt-or a b)
