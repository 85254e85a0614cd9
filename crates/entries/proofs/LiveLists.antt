-- Which entries are live.
use Prim.Native.Nat.{ℕ, ◌<◌}
use mathlib.Core.Path.{◌≡◌, refl, ap, sym, ◌∙◌, subst}
use mathlib.Core.List.{List, Memᴰ}
use mathlib.Core.Logic.{◌≢◌}
use mathlib.Core.Bool.{true, not}
use native.Mathlib.Omega.{arith}
use lib.Dec.{eqb}
use lib.ListN.{length, length-map}
use borrow.Author.Tests.{ne_eqb, eqb-false, not-true}
use Rattle.lists.specs.Lists.{below}
use Rattle.lists.proofs.Lists.{in_span, span_in}
use Rattle.layout.specs.declared.Shape.{Shape}
use Rattle.chains.specs.Chains.{chain}
use Rattle.entries.specs.declared.Entry.{Entry}
use Rattle.entries.specs.declared.Live.{Live}
use Rattle.entries.specs.Live.{slot_at, full_slots, chunk_of, entry_at, live_at, live_in, live_of, live}
use Rattle.entries.specs.Stored.{chunks_for, stored, entry_of}
use Rattle.lists.proofs.Members.{those_in, in_those, flat_map_in, in_flat_map}

module _ (z : Shape) (img : List ℕ) where
  open z use {settings}
  open settings use {segments, slots}

  -- ---- the entry of a slot, from its parts

  pub entry-made : (t j : ℕ) {c : ℕ} → c ≡ chunk_of z img t j → entry_of (stored z img t c) ≡ entry_at z img t j
  unfolding entry_at
  entry-made t j p = rw p

  pub live_made : (s t j : ℕ) {c n : ℕ} {e : Entry} → c ≡ chunk_of z img t j → e ≡ entry_at z img t j
      → n ≡ chunks_for settings e.keyLength e.valueLength
      → record { segment = s; tier = t; slot = j; chunk = c; chunks = n; entry = e } ≡ live_at z img s t j
  unfolding live_at
  live_made s t j p q r =
      let r' = r ∙ ap (λ (x : Entry). chunks_for settings x.keyLength x.valueLength) q in
      λ i. record { segment = s; tier = t; slot = j; chunk = p i; chunks = r' i; entry = q i }

  -- ---- the full slots of a tier

  pub full_slots_in : (t j : ℕ) → Memᴰ j (full_slots z img t) → (j < slots) × (slot_at z img t j ≢ 0)
  unfolding full_slots
  full_slots_in t j m =
      let r : Memᴰ j (below slots) × (not (eqb (slot_at z img t j) 0) ≡ true) = those_in (λ i. not (eqb (slot_at z img t i) 0)) j (below slots) m in
      (omega (arith, span_in 0 slots j r.0), eqb-false (slot_at z img t j) 0 (not-true _ r.1))

  pub in_full_slots : (t j : ℕ) → j < slots → slot_at z img t j ≢ 0 → Memᴰ j (full_slots z img t)
  unfolding full_slots
  in_full_slots t j h full =
      in_those (λ i. not (eqb (slot_at z img t i) 0)) j (below slots) (in_span 0 slots j (omega arith) (omega arith)) (rw (ne_eqb (slot_at z img t j) 0 full))

  -- ---- the live entries of a tier: one for each full slot

  pub length_live_in : (s t : ℕ) → length (live_in z img s t) ≡ length (full_slots z img t)
  unfolding live_in
  length_live_in s t = length-map (full_slots z img t) (live_at z img s t)

  pub live_in_in : (s t : ℕ) (e : Live) → Memᴰ e (live_in z img s t)
      → (j : ℕ) × (j < slots) × (slot_at z img t j ≢ 0) × (e ≡ live_at z img s t j)
  unfolding live_in
  live_in_in s t e m =
      let r : (j : ℕ) × Memᴰ j (full_slots z img t) × (live_at z img s t j ≡ e) = mathlib.Core.List.Memᴰ.of_map (live_at z img s t) (full_slots z img t) m in
      let f : (r.0 < slots) × (slot_at z img t r.0 ≢ 0) = full_slots_in t r.0 r.1 in
      (r.0, f.0, f.1, sym r.2)

  pub in_live_in : (s t j : ℕ) → j < slots → slot_at z img t j ≢ 0 → Memᴰ (live_at z img s t j) (live_in z img s t)
  unfolding live_in
  in_live_in s t j h full = mathlib.Core.List.Memᴰ.map (live_at z img s t) (in_full_slots t j h full)

  -- ---- those of the image

  pub record IsLive (e : Live) : Type 0 where
    pub segment_in : e.segment < segments
    pub tier_in : Memᴰ e.tier (chain z img e.segment)
    pub slot_in : e.slot < slots
    pub full : slot_at z img e.tier e.slot ≢ 0
    pub is : e ≡ live_at z img e.segment e.tier e.slot

  pub in_live : (s t j : ℕ) → s < segments → Memᴰ t (chain z img s) → j < slots → slot_at z img t j ≢ 0
      → Memᴰ (live_at z img s t j) (live z img)
  unfolding live live_of
  in_live s t j hs mt hj full =
      in_flat_map (live_of z img) (below segments) (in_span 0 segments s (omega arith) (omega arith))
      (in_flat_map (live_in z img s) (chain z img s) mt (in_live_in s t j hj full))

  is_live : (s t j : ℕ) (e : Live) → e ≡ live_at z img s t j → s < segments → Memᴰ t (chain z img s) → j < slots → slot_at z img t j ≢ 0
      → IsLive e
  unfolding live_at
  is_live s t j e is hs mt hj full =
      subst IsLive (sym is) (record { segment_in = hs; tier_in = mt; slot_in = hj; full = full; is = refl })

  pub live_in_lem : (e : Live) → Memᴰ e (live z img) → IsLive e
  unfolding live live_of
  live_in_lem e m =
      let a : (s : ℕ) × Memᴰ s (below segments) × Memᴰ e (live_of z img s) = flat_map_in (live_of z img) (below segments) m in
      let b : (t : ℕ) × Memᴰ t (chain z img a.0) × Memᴰ e (live_in z img a.0 t) =
      flat_map_in (live_in z img a.0) (chain z img a.0) a.2 in
      let c : (j : ℕ) × (j < slots) × (slot_at z img b.0 j ≢ 0) × (e ≡ live_at z img a.0 b.0 j) = live_in_in a.0 b.0 e b.2 in
      is_live a.0 b.0 c.0 e c.3 (omega (arith, span_in 0 segments a.0 a.1)) b.1 c.1 c.2
