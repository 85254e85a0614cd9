-- The tiers stand one after the other, from the end of the segment headers to the store's end.
use Prim.Native.Nat.{ℕ, ◌+◌, ◌-◌, ◌*◌, ◌/◌, ◌%◌, ◌≤◌, ◌<◌}
use mathlib.Core.Path.{◌≡◌, ap}
use mathlib.Core.Logic.{◌⊎◌, inl, inr, ⊎_elim, ◌≢◌}
use native.Mathlib.Omega.{arith}
use native.Mathlib.Nat.{mul-le-mul_right, div-add-mod', mod-lt}
use borrow.Author.Tests.{le-leb, lt-leb}
use Rattle.words.specs.Bytes.{Apart}
use Rattle.lists.specs.Cases.{lt-or}
use Rattle.lists.proofs.Numbers.{mul-add-le}
use Rattle.layout.specs.declared.Shape.{Shape}
use Rattle.layout.specs.Tiers.{tiers, mains, bulks_at, store_end, extra_at, tier_at, IsTier}
use Rattle.layout.specs.Frame.{Framed}

-- rows that are w wide
pub rows_apart : (w i j : ℕ) → i ≢ j → Apart (i * w) w (j * w) w
rows_apart w i j ne = ⊎_elim (λ h. inl (mul-add-le w i j h)) (λ (h : j ≤ i). inr (mul-add-le w j i (omega arith))) (lt-or i j)

module _ (z : Shape) where
  open z use {settings, headers, bulks}
  open settings use {segments, headerSize, tierSize, bulkSize}

  pub tier-main : (t : ℕ) → t ≤ segments → tier_at z t ≡ mains z + (t - 1) * tierSize
  unfolding tier_at
  tier-main t h = rw (le-leb t segments h, tier_at)

  pub tier-extra : (t : ℕ) → segments < t → tier_at z t ≡ bulks_at z + extra_at z (t - 1 - segments)
  unfolding tier_at
  tier-extra t h = rw (lt-leb t segments h, tier_at)

  tier-is : (t : ℕ)
      → ((t ≤ segments) × (tier_at z t ≡ mains z + (t - 1) * tierSize))
      ⊎ ((segments < t) × (tier_at z t ≡ bulks_at z + extra_at z (t - 1 - segments)))
  tier-is t = ⊎_elim (λ h. inr (h, tier-extra t h)) (λ h. inl (h, tier-main t h)) (lt-or segments t)

  pub mains-after : headers ≤ mains z
  unfolding mains
  mains-after = omega arith

  pub mains-end : mains z ≤ store_end z
  unfolding store_end bulks_at
  mains-end = omega arith

  pub tier-start : (t : ℕ) → mains z ≤ tier_at z t
  unfolding bulks_at
  tier-start t = ⊎_elim (λ s. omega arith) (λ s. omega arith) (tier-is t)

module _ {z : Shape} {len : ℕ} (fr : Framed z len) where
  open z use {settings, headers, bulks}
  open settings use {segments, tierSize, bulkInner, bulkTiers, bulkSize}

  -- a tier ends within its bulk
  extra-within : (e : ℕ) → extra_at z e + tierSize ≤ e / bulkTiers * bulkSize + bulkSize
  unfolding extra_at
  extra-within e = omega (arith, mul-add-le tierSize (e % bulkTiers) bulkTiers (mod-lt e fr.valid.bulkTiers.0), fr.valid.bulkSize.0)

  pub extra-before : (e f : ℕ) → e < f → extra_at z e + tierSize ≤ extra_at z f
  unfolding extra_at
  extra-before e f h =
      ⊎_elim
      (λ (l : q < q'). omega (arith, extra-within e, mul-add-le bulkSize q q' l))
      (λ (k : q' ≤ q).
      ⊎_elim
      (λ (l : q' < q). omega (arith, at-e, at_f, mul-add-le bulkTiers q' q l))
      (λ (l : q ≤ q').
      let same : q ≡ q' = omega arith in
      omega (
        arith,
        ap (λ (x : ℕ). x * bulkSize) same,
        mul-add-le tierSize (e % bulkTiers) (f % bulkTiers) (omega (arith, at-e, at_f, ap (λ (x : ℕ). x * bulkTiers) same)),
      ))
      (lt-or q' q))
      (lt-or q q')
    where
      q : ℕ
      q = e / bulkTiers

      q' : ℕ
      q' = f / bulkTiers

      at-e : e / bulkTiers * bulkTiers + e % bulkTiers ≡ e
      at-e = div-add-mod' e bulkTiers

      at_f : (f / bulkTiers * bulkTiers + f % bulkTiers ≡ f) × (f % bulkTiers < bulkTiers)
      at_f = (div-add-mod' f bulkTiers, mod-lt f fr.valid.bulkTiers.0)

  pub extra-end : (e : ℕ) → e < bulks * bulkTiers → extra_at z e + tierSize ≤ bulks * bulkSize
  extra-end e h =
      ⊎_elim
      (λ l. omega (arith, extra-within e, mul-add-le bulkSize (e / bulkTiers) bulks l))
      (λ l. absurd (omega (arith, div-add-mod' e bulkTiers, mul-le-mul_right bulkTiers l)))
      (lt-or (e / bulkTiers) bulks)

  pub tier-before : (t u : ℕ) → 1 ≤ t → t < u → tier_at z t + tierSize ≤ tier_at z u
  unfolding bulks_at
  tier-before t u h l =
      ⊎_elim
      (λ a.
      ⊎_elim
      (λ b. omega (arith, mul-add-le tierSize (t - 1) (u - 1) (omega arith)))
      (λ b. omega (arith, mul-add-le tierSize (t - 1) segments (omega arith)))
      (tier-is z u))
      (λ a.
      ⊎_elim
      (λ b. absurd (omega arith))
      (λ b. omega (arith, extra-before (t - 1 - segments) (u - 1 - segments) (omega arith)))
      (tier-is z u))
      (tier-is z t)

  pub tier-end : (t : ℕ) → IsTier z t → tier_at z t + tierSize ≤ store_end z
  unfolding tiers store_end bulks_at
  tier-end t h =
      ⊎_elim
      (λ a. omega (arith, mul-add-le tierSize (t - 1) segments (omega arith)))
      (λ a. omega (arith, extra-end (t - 1 - segments) (omega arith)))
      (tier-is z t)
