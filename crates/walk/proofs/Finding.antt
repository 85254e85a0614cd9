-- What the walk finds in any image whose frame fits: an entry under the whole key, whose record stands within the image.
use Prim.Native.Nat.{ℕ, zero, suc, ◌+◌, ◌≤◌}
use mathlib.Core.List.{List}
use mathlib.Core.Path.{◌≡◌, refl, subst}
use mathlib.Core.Logic.{⊎_elim, ◌≢◌}
use native.Mathlib.Omega.{arith}
use lib.Dec.{eqb}
use lib.ListN.{length}
use Rattle.lists.specs.Cases.{by-test, same_or}
use Rattle.lists.proofs.Decides.{choose-by}
use Rattle.words.specs.Bytes.{same}
use Rattle.words.proofs.Bytes.{same_true}
use Rattle.settings.specs.Rules.{largest}
use Rattle.layout.specs.declared.Shape.{Shape}
use Rattle.layout.specs.Tiers.{tiers, IsTier, IsExtra}
use Rattle.layout.specs.Places.{chunk_at}
use Rattle.layout.specs.Frame.{Framed}
use Rattle.layout.proofs.Chunks.{chunks-inside}
use Rattle.probe.specs.Ring.{next}
use Rattle.chains.specs.Chains.{next_of, is_extra?}
use Rattle.chains.proofs.Segments.{segments-le}
use Rattle.entries.specs.declared.Entry.{Entry}
use Rattle.entries.specs.Keys.{lookup_key, slot_key, slot_chunk}
use Rattle.entries.specs.Stored.{key_of}
use Rattle.entries.specs.Live.{slot_at, chunk_of}
use Rattle.entries.proofs.Hashes.{segment-lt}
use Rattle.std.specs.Prelude.{Option, Some, None, Result, Ok, Err}
use Rattle.walk.specs.declared.Broken.{Broken}
use Rattle.walk.specs.declared.TierMet.{TierMet}
use Rattle.walk.specs.declared.TierMet.TheVariants as tier
use Rattle.walk.specs.declared.WalkEnd.{WalkEnd}
use Rattle.walk.specs.declared.WalkEnd.TheVariants as end
use Rattle.walk.specs.Walk.{entry_there, EntryReads, entry_reads?, compared, tested, at_slot, over_slots, in_tier, from_tier, walk}
use Rattle.walk.proofs.Walking.{slots-out, slots-empty, slots-holds, slots-broken, slots-pass, tiers-out, tiers-found, tiers-broken, tiers-end, tiers_astray, tiers-on}

module _ (z : Shape) (img key : List ℕ) where
  open z use {settings}
  open settings use {segments, slots, chunks}

  -- the entry at chunk c of tier t has the whole key, and ends within the tier's chunks
  pub record Keyed (t c : ℕ) (e : Entry) : Type 0 where
    pub there : e ≡ entry_there z img t c
    pub key_is : key_of img e ≡ key
    pub ends : e.valueAt + e.valueLength ≤ chunk_at z t chunks

  abbrev SlotKeyed : ℕ → ℕ → Result (Option Entry) Broken → Type 0
  SlotKeyed t c (Ok (Some e)) = Keyed t c e
  SlotKeyed t c (Err _) = Unit {0}
  SlotKeyed t c (Ok None) = Unit {0}

  abbrev TierKeyed : ℕ → Result TierMet Broken → Type 0
  TierKeyed t (Ok (tier.Holds j e)) = Keyed t (chunk_of z img t j) e
  TierKeyed t (Ok (tier.Empty j)) = Unit {0}
  TierKeyed t (Err _) = Unit {0}

  abbrev pub EndKeyed : Result WalkEnd Broken → Type 0
  EndKeyed (Ok (end.Found t j e)) = IsTier z t × Keyed t (chunk_of z img t j) e
  EndKeyed (Ok (end.Absent t j)) = Unit {0}
  EndKeyed (Err _) = Unit {0}

  compared-keyed : (t c : ℕ) → EntryReads z img t c → SlotKeyed t c (compared z img key (entry_there z img t c))
  unfolding compared
  compared-keyed t c r =
      by-test (same (key_of img (entry_there z img t c)) key)
      (λ q. rw (q, compared) (record { there = refl; key_is = same_true _ key q; ends = r.ends }))
      (λ q. rw (q, compared) tt)

  slot-keyed : (t v : ℕ) → SlotKeyed t (slot_chunk settings v) (at_slot z img key t v)
  unfolding at_slot tested
  slot-keyed t v =
      by-test (eqb (slot_key settings v) (lookup_key settings key))
      (λ q.
      rw (q, at_slot)
      (choose-by (entry_reads? z img t (slot_chunk settings v)) _ _ (SlotKeyed t (slot_chunk settings v)) (λ _. tt) (compared-keyed t (slot_chunk settings v))))
      (λ q. rw (q, at_slot) tt)

  slots-keyed : (t n j : ℕ) → TierKeyed t (over_slots z img key t n j)
  slots-keyed t zero j = rw (slots-out z img key t zero j (omega arith)) tt
  slots-keyed t (suc n) j =
      ⊎_elim
      (λ (e : slot_at z img t j ≡ 0). rw (slots-empty z img key t n refl j e) tt)
      (λ (full : slot_at z img t j ≢ 0). by-met full (at_slot z img key t (slot_at z img t j)) refl (slots-keyed t n (next slots j)))
      (same_or (slot_at z img t j) 0)
    where
      by-met : slot_at z img t j ≢ 0 → (m : Result (Option Entry) Broken) → at_slot z img key t (slot_at z img t j) ≡ m
          → TierKeyed t (over_slots z img key t n (next slots j)) → TierKeyed t (over_slots z img key t (suc n) j)
      by-met full (Ok (Some e)) q rest =
          rw (slots-holds z img key t n refl j full e q) (subst (SlotKeyed t (chunk_of z img t j)) q (slot-keyed t (slot_at z img t j)))
      by-met full (Err _) q rest = rw (slots-broken z img key t n refl j full q) tt
      by-met full (Ok None) q rest = rw (slots-pass z img key t n refl j full q) rest

  tier-keyed : (t : ℕ) → TierKeyed t (in_tier z img key t)
  unfolding in_tier
  tier-keyed t = slots-keyed t slots _

  tiers-keyed : (n t : ℕ) → IsTier z t → EndKeyed (from_tier z img key n t)
  tiers-keyed zero t it = rw (tiers-out z img key zero t (omega arith)) tt
  tiers-keyed (suc n) t it = by-met (in_tier z img key t) refl (λ extra. tiers-keyed n (next_of z img t) (omega (arith, extra)))
    where
      by-met : (m : Result TierMet Broken) → in_tier z img key t ≡ m → (IsExtra z (next_of z img t) → EndKeyed (from_tier z img key n (next_of z img t)))
          → EndKeyed (from_tier z img key (suc n) t)
      by-met (Ok (tier.Holds j e)) q rest = rw (tiers-found z img key n refl t j e q) (it, subst (TierKeyed t) q (tier-keyed t))
      by-met (Err _) q rest = rw (tiers-broken z img key n refl t q) tt
      by-met (Ok (tier.Empty j)) q rest =
          ⊎_elim
          (λ (e : next_of z img t ≡ 0). rw (tiers-end z img key n refl t j q e) tt)
          (λ (more : next_of z img t ≢ 0).
          elim (is_extra? z img (next_of z img t)) [
            | yes x ↦ rw (tiers-on z img key n refl t j q more x) (rest x)
            | no x ↦ rw (tiers_astray z img key n refl t j q more x) tt
          ])
          (same_or (next_of z img t) 0)

  pub walk-keyed : Framed z (length img) → EndKeyed (walk z img key)
  unfolding walk
  walk-keyed fr = tiers-keyed (tiers z) _ (omega (arith, segment-lt fr.valid key, segments-le z img))

  -- the record stands within the image
  pub keyed-within : Framed z (length img) → {t : ℕ} → IsTier z t → {c : ℕ} {e : Entry} → Keyed t c e
      → (e.valueAt + e.valueLength ≤ length img) × (length img ≤ largest)
  keyed-within fr {t} it k = (omega (arith, k.ends, chunks-inside fr t it, fr.within), fr.small)
