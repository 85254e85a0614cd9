-- What the loops of the walk keep: what is left gives the same as the whole.
use Prim.Native.Nat.{ℕ, zero, suc, ◌+◌, ◌-◌, ◌≤◌, ◌<◌}
use mathlib.Core.List.{List}
use mathlib.Core.Path.{◌≡◌, refl, ap, sym, ◌∙◌}
use mathlib.Core.Logic.{◌≢◌}
use native.Mathlib.Omega.{arith}
use borrow.Author.Tests.{eq-eqb, ne_eqb}
use Rattle.lists.proofs.Decides.{choose_no, choose_yes}
use Rattle.layout.specs.declared.Shape.{Shape}
use Rattle.layout.specs.Tiers.{tiers, IsTier, IsExtra}
use Rattle.chains.specs.Chains.{next_of, is_extra?}
use Rattle.chains.proofs.Segments.{segments-le}
use Rattle.probe.specs.Ring.{next}
use Rattle.probe.proofs.Ring.{next-lt}
use Rattle.entries.specs.declared.Entry.{Entry}
use Rattle.entries.specs.Keys.{segment_of, lookup_key, start}
use Rattle.entries.specs.Live.{slot_at}
use Rattle.std.specs.Prelude.{Option, Some, None, Result, Ok}
use Rattle.walk.specs.declared.Broken.{Broken}
use Rattle.walk.specs.declared.TierMet.{TierMet}
use Rattle.walk.specs.declared.TierMet.TheVariants.{Holds, Empty}
use Rattle.walk.specs.declared.WalkEnd.TheVariants.{Found, Absent}
use Rattle.walk.specs.Walk.{broken, at_slot, over_slots, in_tier, from_tier, walk}

module _ (z : Shape) (img key : List ℕ) where
  open z use {settings}
  open settings use {segments, slots}

  -- ---- the steps over the slots of tier t, for a loop that has n slots left

  module _ (t : ℕ) where
    pub slots-out : (n j : ℕ) → n ≤ 0 → over_slots z img key t n j ≡ broken
    unfolding over_slots
    slots-out zero j h = refl
    slots-out (suc n) j h = absurd (omega arith)

    module _ (n : ℕ) {m : ℕ} (e : m ≡ suc n) (j : ℕ) where
      pub slots-empty : slot_at z img t j ≡ 0 → over_slots z img key t m j ≡ Ok (Empty j)
      unfolding over_slots
      slots-empty h = rw (e, over_slots, eq-eqb (slot_at z img t j) 0 h)

      module _ (full : slot_at z img t j ≢ 0) where
        pub slots-holds : (x : Entry) → at_slot z img key t (slot_at z img t j) ≡ Ok (Some x) → over_slots z img key t m j ≡ Ok (Holds j x)
        unfolding over_slots
        slots-holds x s = rw (e, over_slots, ne_eqb (slot_at z img t j) 0 full, s)

        pub slots-broken : at_slot z img key t (slot_at z img t j) ≡ broken → over_slots z img key t m j ≡ broken
        unfolding over_slots
        slots-broken s = rw (e, over_slots, ne_eqb (slot_at z img t j) 0 full, s)

        pub slots-pass : at_slot z img key t (slot_at z img t j) ≡ Ok None → over_slots z img key t m j ≡ over_slots z img key t n (next slots j)
        unfolding over_slots
        slots-pass s = rw (e, over_slots, ne_eqb (slot_at z img t j) 0 full, s)

    -- ---- the loop of `in_tier`

    pub record InTier (j left : ℕ) : Type 0 where
      pub lt : j < slots
      pub is : over_slots z img key t left j ≡ in_tier z img key t

    pub tier-starts : (j lookup : ℕ) → lookup ≡ lookup_key settings key → j ≡ start settings lookup → j < slots → {left : ℕ} → left ≡ slots → InTier j left
    unfolding in_tier
    tier-starts j lookup e q h el = record { lt = h; is = rw el (ap (over_slots z img key t slots) (q ∙ ap (start settings) e)) }

    module _ {j left : ℕ} (w : InTier j left) where
      pub tier-out : left ≤ 0 → broken ≡ in_tier z img key t
      tier-out h = sym (slots-out left j h) ∙ w.is

      module _ (pos : 0 < left) (v : ℕ) (ev : v ≡ slot_at z img t j) where
        one_more : left ≡ suc (left - 1)
        one_more = omega arith

        pub tier-empty : v ≡ 0 → Ok (Empty j) ≡ in_tier z img key t
        tier-empty q = sym (slots-empty (left - 1) one_more j (sym ev ∙ q)) ∙ w.is

        module _ (full : v ≢ 0) {met : Result (Option Entry) Broken} (em : met ≡ at_slot z img key t v) where
          there : slot_at z img t j ≢ 0
          there q = full (ev ∙ q)

          met-is : at_slot z img key t (slot_at z img t j) ≡ met
          met-is = sym (em ∙ ap (at_slot z img key t) ev)

          pub tier-holds : (x : Entry) → met ≡ Ok (Some x) → Ok (Holds j x) ≡ in_tier z img key t
          tier-holds x q = sym (slots-holds (left - 1) one_more j there x (met-is ∙ q)) ∙ w.is

          pub tier-broken : met ≡ broken → broken ≡ in_tier z img key t
          tier-broken q = sym (slots-broken (left - 1) one_more j there (met-is ∙ q)) ∙ w.is

          pub tier-turns : met ≡ Ok None → (i : ℕ) → i ≡ next slots j → {rest : ℕ} → rest ≡ left - 1 → InTier i rest
          tier-turns q i ei er =
              rw er (record {
                lt = rw ei (next-lt slots w.lt);
                is = ap (over_slots z img key t (left - 1)) ei ∙ sym (slots-pass (left - 1) one_more j there (met-is ∙ q)) ∙ w.is;
              })

  -- ---- the steps over the tiers, for a loop that has n tiers left

  pub tiers-out : (n t : ℕ) → n ≤ 0 → from_tier z img key n t ≡ broken
  unfolding from_tier
  tiers-out zero t h = refl
  tiers-out (suc n) t h = absurd (omega arith)

  module _ (n : ℕ) {m : ℕ} (e : m ≡ suc n) (t : ℕ) where
    pub tiers-found : (j : ℕ) (x : Entry) → in_tier z img key t ≡ Ok (Holds j x) → from_tier z img key m t ≡ Ok (Found t j x)
    unfolding from_tier
    tiers-found j x q = rw (e, from_tier, q)

    pub tiers-broken : in_tier z img key t ≡ broken → from_tier z img key m t ≡ broken
    unfolding from_tier
    tiers-broken q = rw (e, from_tier, q)

    module _ (j : ℕ) (q : in_tier z img key t ≡ Ok (Empty j)) where
      pub tiers-end : next_of z img t ≡ 0 → from_tier z img key m t ≡ Ok (Absent t j)
      unfolding from_tier
      tiers-end h = rw (e, from_tier, q, eq-eqb (next_of z img t) 0 h)

      module _ (more : next_of z img t ≢ 0) where
        pub tiers_astray : (IsExtra z (next_of z img t) → ⊥) → from_tier z img key m t ≡ broken
        unfolding from_tier
        tiers_astray h = rw (e, from_tier, q, ne_eqb (next_of z img t) 0 more) (choose_no (is_extra? z img (next_of z img t)) _ _ h)

        pub tiers-on : IsExtra z (next_of z img t) → from_tier z img key m t ≡ from_tier z img key n (next_of z img t)
        unfolding from_tier
        tiers-on h = rw (e, from_tier, q, ne_eqb (next_of z img t) 0 more) (choose_yes (is_extra? z img (next_of z img t)) _ _ h)

  -- ---- the loop of `walk`

  pub record Walking (t left : ℕ) : Type 0 where
    pub tier_in : IsTier z t
    pub is : from_tier z img key left t ≡ walk z img key

  pub walk-starts : (most t s : ℕ) → most ≡ tiers z → t ≡ s + 1 → s ≡ segment_of settings key → s < segments → {left : ℕ} → left ≡ most → Walking t left
  unfolding walk
  walk-starts most t s em et es h el =
      let q : t ≡ suc (segment_of settings key) = et ∙ omega arith in
      record { tier_in = omega (arith, segments-le z img); is = rw (el, em, q) }

  module _ {t left : ℕ} (w : Walking t left) where
    pub walk-out : left ≤ 0 → broken ≡ walk z img key
    walk-out h = sym (tiers-out left t h) ∙ w.is

    module _ (pos : 0 < left) {met : Result TierMet Broken} (em : met ≡ in_tier z img key t) where
      another : left ≡ suc (left - 1)
      another = omega arith

      pub walk-found : (j : ℕ) (x : Entry) → met ≡ Ok (Holds j x) → Ok (Found t j x) ≡ walk z img key
      walk-found j x q = sym (tiers-found (left - 1) another t j x (sym em ∙ q)) ∙ w.is

      pub walk-broken : met ≡ broken → broken ≡ walk z img key
      walk-broken q = sym (tiers-broken (left - 1) another t (sym em ∙ q)) ∙ w.is

      module _ (j : ℕ) (q : met ≡ Ok (Empty j)) (u : ℕ) (eu : u ≡ next_of z img t) where
        pub walk_ends : u ≡ 0 → Ok (Absent t j) ≡ walk z img key
        walk_ends h = sym (tiers-end (left - 1) another t j (sym em ∙ q) (sym eu ∙ h)) ∙ w.is

        module _ (more : u ≢ 0) where
          pub walk_astray : (IsExtra z u → ⊥) → broken ≡ walk z img key
          walk_astray h =
              sym (tiers_astray (left - 1) another t j (sym em ∙ q) (λ e. more (eu ∙ e)) (λ x. h (rw eu x))) ∙ w.is

          pub walk-turns : IsExtra z u → {rest : ℕ} → rest ≡ left - 1 → Walking u rest
          walk-turns h er =
              rw er (record {
                tier_in = omega arith;
                is = ap (from_tier z img key (left - 1)) eu
                    ∙ sym (tiers-on (left - 1) another t j (sym em ∙ q) (λ e. more (eu ∙ e)) (rw eu at h))
                    ∙ w.is;
              })
