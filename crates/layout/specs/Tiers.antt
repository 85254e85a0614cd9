-- Where the tiers stand. Tier indexes count from 1, main tiers first; 0 is no tier.
use Rattle.std.specs.Prelude.{ℕ, ◌+◌, ◌-◌, ◌*◌, ◌/◌, ◌%◌, ◌≤◌, ◌<◌, true, false, leb}
use Rattle.layout.specs.declared.Shape.{Shape}

module _ (z : Shape) where
  open z use {settings, headers, bulks}
  open settings use {segments, headerSize, tierSize, bulkInner, bulkTiers, bulkSize}

  -- tiers in all
  unfoldable pub tiers : ℕ
  tiers = segments + bulks * bulkTiers

  -- where the main tiers start
  unfoldable pub mains : ℕ
  mains = headers + segments * headerSize

  -- where the bulks start
  unfoldable pub bulks_at : ℕ
  bulks_at = mains + segments * tierSize

  -- the end of the last bulk, or of the main tiers if there is none
  unfoldable pub store_end : ℕ
  store_end = bulks_at + bulks * bulkSize

  -- extra tier e, counted from 0, after the start of the first bulk
  unfoldable pub extra_at : ℕ → ℕ
  extra_at e = e / bulkTiers * bulkSize + bulkInner + e % bulkTiers * tierSize

  unfoldable pub tier_at : ℕ → ℕ
  tier_at t = elim (leb t segments) [ true ↦ mains + (t - 1) * tierSize | false ↦ bulks_at + extra_at (t - 1 - segments) ]

  -- a tier; one of a bulk
  abbrev pub IsTier : ℕ → Type 0
  IsTier t = (1 ≤ t) × (t ≤ tiers)

  abbrev pub IsExtra : ℕ → Type 0
  IsExtra t = (segments < t) × (t ≤ tiers)
