-- Slots of a chain that fit: what may be read of them.
use Prim.Native.Nat.{ℕ, ◌+◌, ◌-◌, ◌/◌, ◌%◌, ◌^◌, ◌≤◌, ◌<◌}
use mathlib.Core.Path.{◌≡◌, refl, ap, ap₂, sym, ◌∙◌, subst}
use mathlib.Core.List.{List, Memᴰ}
use mathlib.Core.Logic.{◌≢◌}
use mathlib.Core.Bool.{true, false}
use native.Mathlib.Omega.{arith}
use Rattle.std.specs.Prelude.{Option, Some, None}
use lib.ListN.{length, take, drop}
use Rattle.words.specs.Bytes.{cut}
use Rattle.xxh64.specs.Hash.{xxh64}
use Rattle.layout.specs.declared.Shape.{Shape}
use Rattle.layout.specs.Tiers.{IsTier}
use Rattle.layout.specs.FramedTier.{FramedTier, FramedSlot}
use Rattle.chains.specs.Chains.{chain}
use Rattle.entries.specs.declared.Entry.{Entry}
use Rattle.entries.specs.declared.Part.{Part}
use Rattle.entries.specs.Keys.{slot_key, slot_chunk}
use Rattle.entries.specs.Stored.{stored, entry_of, key_of}
use Rattle.entries.specs.Telling.{KeyPart}
use Rattle.entries.specs.Live.{slot_at, chunk_of, entry_at}
use Rattle.entries.specs.Asking.{WholeIn}
use Rattle.entries.proofs.Whole.{whole-sound, key_in_image}
use Rattle.search.specs.Rules.{IsWhole, keyAt}
use Rattle.search.specs.Asking.{ChainedTier, FittingSlot}
use Rattle.search.proofs.Fitting.{key-cut}
use Rattle.once.specs.declared.Sharing.{Sharing}
use Rattle.once.specs.Sharing.{pass_for, number_of}
use Rattle.once.specs.Asking.{FittingChain, ReadChain, ReadSlot, HoldsKey}
use Rattle.once.proofs.Refs.{Looks}

module _ {z : Shape} {img : List ℕ} {s t : ℕ} where
  module _ (c : FittingChain z img s) (m : Memᴰ t (chain z img s)) where
    pub chain-tier : IsTier z t
    chain-tier = c.chains.chain_tiers s c.segment_in t m

    pub framed-tier : FramedTier z img t
    framed-tier = record { framed = c.chains.framed; tier_in = chain-tier }

    pub framed-slot : {j : ℕ} → j < z.settings.slots → FramedSlot z img t j
    framed-slot h = record { tier = framed-tier; slot_in = h }

    pub chained-tier : ChainedTier z img s t
    chained-tier = record { chains = c.chains; segment_in = c.segment_in; tier_in = chain-tier }

  module _ (r : ReadChain z img s) (m : Memᴰ t (chain z img s)) {j : ℕ} (h : j < z.settings.slots) (full : slot_at z img t j ≢ 0) where
    pub fitting-slot : FittingSlot z img s t j
    fitting-slot =
        record {
          slot = record { tier = chained-tier r.fitting m; slot_in = h; full = full };
          fits = (r.slots_fit t m).slots_fit.full j h full;
        }

    pub looks : Looks z img (t, j)
    looks = ((r.slots_fit t m).slots_fit.full j h full).hashed.lookup_agrees

-- an entry that can be read is there
is_whole : (r : Option Entry) → IsWhole r → (e : Entry) × (r ≡ Some e)
is_whole (Some e) w = (e, refl)
is_whole None w = absurd w

-- ---- the number of a stored key

module _ {z : Shape} {img : List ℕ} {s t j v : ℕ} (k : HoldsKey z img s t j v) where
  pub number-lookup : (by : Sharing) → by.byHash ≡ false → slot_key z.settings v ≡ number_of by z.settings (keyAt z img t j)
  unfolding number_of
  number-lookup by e =
      rw (e, number_of) (ap (slot_key z.settings) k.holds ∙ sym k.slot.fits.hashed.lookup_agrees)

  module _ {c : ℕ} (ec : c ≡ slot_chunk z.settings v) where
    chunk-is : c ≡ chunk_of z img t j
    chunk-is = ec ∙ ap (slot_chunk z.settings) k.holds

    pub holds-whole : WholeIn z img t c
    holds-whole =
        let e : (e : Entry) × (stored z img t c ≡ Some e) =
        is_whole (stored z img t c) (subst (λ (x : ℕ). IsWhole (stored z img t x)) (sym chunk-is) k.slot.fits.whole) in
        let tier : ChainedTier z img s t = k.slot.slot.tier in
        record { tier = record { framed = tier.chains.framed; tier_in = tier.tier_in }; entry = e.0; whole = e.1 }

    module _ {r : Part} (q : KeyPart z img t c r) where
      pub part-inside : r.at + r.length ≤ length img
      part-inside =
          let w : WholeIn z img t c = holds-whole in
          let inside : w.entry.keyAt + w.entry.keyLength ≤ length img =
          key_in_image z img t c (whole-sound z img t c w.entry w.whole) w.tier.framed w.tier.tier_in in
          let same : entry_of (stored z img t c) ≡ w.entry = ap entry_of w.whole in
          omega (arith, q.at_is, q.length_is, ap (λ (e : Entry). e.keyAt) same, ap (λ (e : Entry). e.keyLength) same)

      part-key : take (r.at + r.length - r.at) (drop r.at img) ≡ keyAt z img t j
      unfolding keyAt entry_at
      part-key =
          let same : entry_of (stored z img t c) ≡ entry_at z img t j = ap (λ (x : ℕ). entry_of (stored z img t x)) chunk-is in
          key-cut img r.at r.length ∙ ap₂ (cut img) q.at_is q.length_is ∙ ap (key_of img) same

      pub number-hash : (by : Sharing) → by.byHash ≡ true
          → xxh64 (take (r.at + r.length - r.at) (drop r.at img)) / 256 ≡ number_of by z.settings (keyAt z img t j)
      unfolding number_of
      number-hash by e = rw (e, number_of) (ap (λ (x : List ℕ). xxh64 x / 256) part-key)

-- the pass of a full slot, by its lookup key
module _ {z : Shape} {img : List ℕ} {by : Sharing} {s t j : ℕ} (r : ReadSlot z img by s t j) (e : by.byHash ≡ false) where
  pub lookup-pass : {v : ℕ} → v ≡ slot_at z img t j → slot_at z img t j ≢ 0
      → slot_key z.settings v % 2 ^ by.passBits ≡ pass_for by.passBits (number_of by z.settings (keyAt z img t j))
  unfolding pass_for
  lookup-pass ev full =
      let k : HoldsKey z img s t j _ = record { slot = fitting-slot r.tier.pass.reads r.tier.tier_in r.slot_in full; holds = ev } in
      ap (λ (x : ℕ). x % 2 ^ by.passBits) (number-lookup k by e)
