-- What the rules bound: the products and sums of the code fit.
use Prim.Native.Nat.{ℕ, ◌+◌, ◌*◌, ◌^◌, ◌≤◌, ◌<◌}
use mathlib.Core.Path.{◌≡◌}
use mathlib.Core.Logic.{◌⊎◌, ⊎_elim}
use native.Mathlib.Omega.{arith}
use native.Mathlib.Nat.{le_refl}
use Rattle.lists.proofs.Numbers.{mul-add-le}
use Rattle.settings.specs.Rules.{largest}
use Rattle.settings.proofs.Laws.{product_le}
use Rattle.layout.specs.declared.Shape.{Shape}
use Rattle.layout.specs.Tiers.{tiers, mains, bulks_at, store_end, extra_at, tier_at, IsTier}
use Rattle.layout.specs.Frame.{Bounded, Framed}
use Rattle.layout.proofs.Tiers.{mains-after, mains-end, extra-end, tier-end}

pub record Products (z : Shape) : Type 0 where
  pub headers : z.settings.segments * z.settings.headerSize ≤ 65536
  pub mains : z.settings.segments * z.settings.tierSize ≤ 4294967296
  pub bulks : z.bulks * z.settings.bulkSize ≤ 281474976710656
  pub extras : z.bulks * z.settings.bulkTiers ≤ 1073741824

pub products : {z : Shape} → Bounded z → Products z
products {z} b =
    record {
      headers = product_le {m = 256} {n = 256} b.valid.segments.1.1 b.valid.headerSize.1;
      mains = product_le {m = 256} {n = 16777216} b.valid.segments.1.1 b.valid.tierSize.1;
      bulks = product_le {m = 16777216} {n = 16777216} (omega (arith, b.bulks)) b.valid.bulkSize.1;
      extras = product_le {m = 16777216} {n = 64} (omega (arith, b.bulks)) b.valid.bulkTiers.1;
    }

pub mains-small : {z : Shape} → Bounded z → mains z < 2 ^ 33
unfolding mains
mains-small b = omega (arith, b.headers, (products b).headers)

pub bulks-small : {z : Shape} → Bounded z → bulks_at z < 2 ^ 34
unfolding bulks_at
bulks-small b = omega (arith, mains-small b, (products b).mains)

-- what a frame that fits bounds

pub framed-bounded : {z : Shape} {len : ℕ} → Framed z len → Bounded z
unfolding tiers
framed-bounded {z} fr =
    record {
      valid = fr.valid;
      headers = omega (arith, mains-after z, mains-end z, fr.within, fr.small);
      bulks = omega (arith, product_le {m = z.bulks} {n = z.settings.bulkTiers} (le_refl z.bulks) fr.valid.bulkTiers.0, fr.tier_count);
    }

pub framed-largest : {z : Shape} {len : ℕ} → Framed z len → Framed z largest
framed-largest fr =
    record {
      valid = fr.valid;
      headers_after = fr.headers_after;
      tier_count = fr.tier_count;
      within = omega (arith, fr.within, fr.small);
      small = le_refl largest;
    }

module _ {z : Shape} {len : ℕ} (fr : Framed z len) where
  open z use {settings, headers, bulks}
  open settings use {segments, headerSize, lookupSize, freeListSize, innerOffset, chunks, chunkSize, bulkTiers}

  pub header-room : (s : ℕ) → s < segments → headers + s * headerSize + 32 ≤ largest
  unfolding mains
  header-room s h = omega (arith, mul-add-le headerSize s segments h, fr.valid.headerSize.0, mains-end z, fr.within, fr.small)

  pub extra-room : (e : ℕ) → e < bulks * bulkTiers → extra_at z e ≤ largest
  unfolding store_end
  extra-room e h = omega (arith, extra-end fr e h, fr.within, fr.small)

  pub tier-room : (t : ℕ) → IsTier z t → tier_at z t + lookupSize + 64 + freeListSize + innerOffset + chunks * chunkSize ≤ largest
  tier-room t h = omega (arith, tier-end fr t h, fr.valid.tierSize.0, fr.within, fr.small)

-- a slot size that is not 4
pub slot-eight : {n : ℕ} → (n ≡ 4) ⊎ (n ≡ 8) → (n ≡ 4 → ⊥) → n ≡ 8
slot-eight s n = ⊎_elim (λ e. absurd (n e)) (λ e. e) s
