-- A removal of a live entry: the image stays sound, the one pair is gone, and marks and counts follow.
use Prim.Native.Nat.{ℕ, suc, ◌+◌, ◌≤◌, ◌<◌}
use mathlib.Core.List.{List, ◌∷◌, Memᴰ}
use mathlib.Core.Path.{◌≡◌, refl, ap, sym, ◌∙◌, subst}
use mathlib.Core.Logic.{◌⊎◌, ◌≢◌}
use native.Mathlib.Omega.{arith}
use lib.ListN.{length}
use Rattle.lists.specs.Lists.{total}
use Rattle.layout.specs.declared.Shape.{Shape}
use Rattle.layout.specs.Tiers.{IsTier}
use Rattle.layout.specs.Places.{mark}
use Rattle.chains.specs.Chains.{chain, free_head}
use Rattle.probe.specs.Table.{slot_total}
use Rattle.chains.proofs.Chained.{IsChained}
use Rattle.entries.specs.declared.Live.{Live}
use Rattle.entries.specs.Live.{slot_at, entry_at, full_slots, live_at, live}
use Rattle.entries.proofs.LiveLists.{IsLive, live_in_lem}
use Rattle.search.specs.Search.{slots_of}
use Rattle.entries.specs.Pairs.{Pair, pair_of, pairs_of}
use Rattle.sound.specs.Sound.{SoundBut}
use Rattle.removal.specs.Removal.{remove_entry}
use Rattle.sound.proofs.Values.{pair_for, if_full, weigh}
use Rattle.sound.proofs.Sums.{full-total, table_same}
use Rattle.chains.proofs.Tiers.{chain-tiers}
use Rattle.sound.proofs.AgreeTier.{same_full}
use Rattle.chains.proofs.AgreeChains.{same-chain}
use Rattle.sound.proofs.Replaced.{OnlyTier, tier-replaced, pairs-replaced}
use Rattle.sound.proofs.Sound.{sound-image}
use Rattle.removal.proofs.Slots.{remove_at-only}
use Rattle.removal.proofs.Numbers.{Removable, range_in, sums}
use Rattle.removal.proofs.Tier.{Stood, was, mark_in, mark-out, again}

module _ (z : Shape) (img : List ℕ) {but : List ℕ} (sound : SoundBut z img but) (e : Live) (m : Memᴰ e (live z img)) where
  open z use {settings}
  open settings use {segments, slots, chunks}
  open e use {segment, tier, slot, chunk, chunks as count}

  found : IsLive z img e
  found = live_in_lem z img e m

  is-tier : IsTier z tier
  is-tier = chain-tiers z img sound.fits.chains segment found.segment_in tier found.tier_in

  removable : Removable z img segment tier slot chunk count
  unfolding live_at
  removable =
      record {
        image = sound-image z img sound;
        tier_is = is-tier;
        slot_in = found.slot_in;
        full = found.full;
        fits = sound.fits.entries.tiers_fit segment found.segment_in tier found.tier_in;
        chunk_is = ap (λ (x : Live). x.chunk) found.is;
        chunks_is = ap (λ (x : Live). x.chunks) found.is;
      }

  -- the image without it
  abbrev after : List ℕ
  after = remove_entry z img e

  only : OnlyTier z img after tier
  only = remove_at-only (sound-image z img sound) tier is-tier slot chunk count found.slot_in (range_in removable)

  -- ---- the results

  pub removal_only : OnlyTier z img (remove_entry z img e) e.tier
  removal_only = only

  pub removal_sound : SoundBut z (remove_entry z img e) (e.tier ∷ but)
  removal_sound =
      tier-replaced z img segment tier found.segment_in sound found.tier_in after only
      (again removable found.tier_in (sound.fits.entries.keys_once segment found.segment_in)
      (sound.fits.chunks.marks segment found.segment_in tier found.tier_in))

  pub removal_chain : (s : ℕ) → s < z.settings.segments → chain z (remove_entry z img e) s ≡ chain z img s
  removal_chain = same-chain z img after sound.fits.chains only.chains

  -- its tier stays in its chain
  pub removal_tier : IsChained z (remove_entry z img e) e.tier
  removal_tier = (segment, (found.segment_in, subst (Memᴰ tier) (sym (removal_chain segment found.segment_in)) found.tier_in))

  pub removal_head : free_head z (remove_entry z img e) ≡ free_head z img
  removal_head = only.chains.head

  pub removal_mark_in : (i : ℕ) → e.chunk ≤ i → i < e.chunk + e.chunks → mark z (remove_entry z img e) e.tier i ≡ 0
  removal_mark_in = mark_in removable

  pub removal_mark-out : (i : ℕ) → i < z.settings.chunks → (i < e.chunk) ⊎ (e.chunk + e.chunks ≤ i)
      → mark z (remove_entry z img e) e.tier i ≡ mark z img e.tier i
  removal_mark-out = mark-out removable

  pub removal_mark-other : (u i : ℕ) → IsTier z u → u ≢ e.tier → i < z.settings.chunks → mark z (remove_entry z img e) u i ≡ mark z img u i
  removal_mark-other u i iu ne h = (only.others u iu ne).marks i h

  pub removal_full : suc (length (full_slots z (remove_entry z img e) e.tier)) ≡ length (full_slots z img e.tier)
  removal_full = omega (arith, full-total z after tier, full-total z img tier, sums removable (λ v. 1))

  pub removal_full-other : (u : ℕ) → IsTier z u → u ≢ e.tier → length (full_slots z (remove_entry z img e) u) ≡ length (full_slots z img u)
  removal_full-other u iu ne = ap length (same_full z img after u (only.others u iu ne).slots)

  -- ---- the pairs

  -- the sum over the tier's pairs after the removal, by the pairs as they were
  weigh-after : (F : Pair → ℕ) → weigh z after F tier ≡ slot_total (slots_of z tier) (if_full (λ v. F (pair_for z img tier v))) after slots
  unfolding weigh
  weigh-after F =
      table_same z tier after after (λ v. F (pair_for z img tier v)) (λ v. F (pair_for z after tier v)) (λ k hk. refl)
      (λ k hk fk.
      let a : Stood removable k = was removable k hk fk in
      ap F (a.moved.pair ∙ ap (pair_for z img tier) (sym a.is)))

  pair_is : pair_for z img tier (slot_at z img tier slot) ≡ pair_of img e
  unfolding live_at entry_at
  pair_is = sym (ap (pair_of img) found.is)

  lighter : (F : Pair → ℕ) → weigh z after F tier + F (pair_of img e) ≡ weigh z img F tier
  unfolding weigh
  lighter F = omega (arith, weigh-after F, sums removable (λ v. F (pair_for z img tier v)), ap F pair_is)

  pub removal_pairs : (F : Pair → ℕ) → total (pairs_of z (remove_entry z img e)) F + F (pair_of img e) ≡ total (pairs_of z img) F
  removal_pairs F =
      omega (
        arith,
        pairs-replaced z img segment tier found.segment_in sound found.tier_in after only F,
        lighter F,
      )
