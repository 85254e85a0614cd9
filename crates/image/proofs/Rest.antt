-- What is left of the live entries from a cursor on, and how the cursor moves on.
use Prim.Native.Nat.{ℕ, suc, ◌+◌, ◌-◌, ◌≤◌, ◌<◌}
use mathlib.Core.List.Memᴰ
use mathlib.Core.List.{List, [], ◌∷◌, ◌++◌, map, flat_map, append_assoc}
use mathlib.Core.Path.{◌≡◌, refl, ap, sym, ◌∙◌, subst}
use mathlib.Core.Logic.{◌≢◌}
use mathlib.Core.Bool.{Bool, not}
use native.Mathlib.Omega.{arith}
use native.Mathlib.Numerals.{add-one}
use lib.Dec.{eqb}
use lib.ListN.{drop, length-append}
use lib.Seq.{drop-nil, drop-append-add}
use borrow.Author.Tests.{ne_eqb, eq-eqb}
use Rattle.lists.specs.Lists.{span, those}
use Rattle.lists.specs.Quantify.{every-none}
use Rattle.lists.proofs.Rows.{from_next, from_end, from_zero, those-keep, those-drop}
use Rattle.links.proofs.Follow.{follow-none, follow-more, follow-out}
use Rattle.layout.specs.declared.Shape.{Shape}
use Rattle.layout.specs.Tiers.{tiers, IsTier}
use Rattle.chains.specs.Chains.{follow, chain, next_of}
use Rattle.entries.specs.declared.Live.{Live}
use Rattle.entries.specs.Live.{slot_at, full_slots, live_at, live_in, live_of, live}
use Rattle.search.specs.Search.{ChainTiers}
use Rattle.image.specs.declared.cursor.LiveCursor.{LiveCursor}
use Rattle.std.specs.Prelude.{Option, Some}
use Rattle.image.specs.Cursor.{start_of, full_from, live_from, live_since, ahead, rest, InChain, Begins, Steps}
use Rattle.image.specs.Moving.{OnFull, Moves, InTier, Settled}

-- the same cursor at another slot; at the chain's next tier; with no tier left
abbrev pub at_slot : LiveCursor → ℕ → ℕ → LiveCursor
at_slot c j k = record { segment = c.segment; tier = c.tier; left = c.left; slot = j; skip = k }

abbrev at_tier : LiveCursor → ℕ → LiveCursor
at_tier c t = record { segment = c.segment; tier = t; left = c.left - 1; slot = 0; skip = c.skip }

abbrev at_end : LiveCursor → LiveCursor
at_end c = record { segment = c.segment; tier = c.tier; left = 0; slot = c.slot; skip = c.skip }

module _ (z : Shape) (img : List ℕ) where
  open z use {settings}
  open settings use {segments, slots}

  -- ---- the full slots of a tier

  abbrev is_full : ℕ → ℕ → Bool
  is_full t j = not (eqb (slot_at z img t j) 0)

  module _ (t j : ℕ) where
    pub full-empty : j < slots → slot_at z img t j ≡ 0 → full_from z img t j ≡ full_from z img t (j + 1)
    unfolding full_from
    full-empty h e = rw (from_next j slots h) (those-drop (is_full t) j (span (j + 1) (slots - (j + 1))) (ap not (eq-eqb (slot_at z img t j) 0 e)))

    full-here : j < slots → slot_at z img t j ≢ 0 → full_from z img t j ≡ j ∷ full_from z img t (j + 1)
    unfolding full_from
    full-here h e = rw (from_next j slots h) (those-keep (is_full t) j (span (j + 1) (slots - (j + 1))) (ap not (ne_eqb (slot_at z img t j) 0 e)))

    full-none : slots ≤ j → full_from z img t j ≡ []
    unfolding full_from those
    full-none h = rw (from_end j slots h)

  full-all : (t : ℕ) → full_from z img t 0 ≡ full_slots z img t
  unfolding full_from full_slots
  full-all t = rw (from_zero slots)

  -- ---- the segments from one on

  since-next : (s : ℕ) → s < segments → live_since z img s ≡ live_of z img s ++ live_since z img (s + 1)
  unfolding live_since flat_map
  since-next s h = rw (from_next s segments h)

  since_none : (s : ℕ) → segments ≤ s → live_since z img s ≡ []
  unfolding live_since flat_map
  since_none s h = rw (from_end s segments h)

  since-all : live_since z img 0 ≡ live z img
  unfolding live_since live
  since-all = rw (from_zero segments)

  -- ---- a chain's start

  from_first : (s : ℕ) (ts : List ℕ) → live_from z img s 0 ts ≡ flat_map (live_in z img s) ts
  unfolding live_from live_in flat_map
  from_first s [] = refl
  from_first s (t ∷ ts) = rw (full-all t)

  module _ (s n : ℕ) (h : s < segments) where
    start-ahead : ahead z img (start_of z s n) ≡ live_since z img s
    unfolding ahead live_of chain
    start-ahead =
        rw (from_first s (follow z img (tiers z) (s + 1)))
        (ap (λ (t : ℕ). flat_map (live_in z img s) (follow z img (tiers z) t) ++ live_since z img (s + 1)) (add-one s) ∙ sym (since-next s h))

    pub start_in : ChainTiers z img → InChain z img (start_of z s n)
    unfolding chain
    start_in is = record { segment_in = h; tiers_in = rw (add-one s) (is s h) }

  module _ (h : 0 < segments) where
    pub start-all : (n : ℕ) → ahead z img (start_of z 0 n) ≡ live z img
    start-all n = start-ahead 0 n h ∙ since-all

    pub begins : ChainTiers z img → Begins z img (start_of z 0 0)
    unfolding rest
    begins is = record { in_chain = start_in 0 0 h is; rest_is = start-all 0 }

  -- ---- a tier of a chain

  module _ (d : LiveCursor) where
    open d use {segment, tier, left, slot}

    none_left : left ≡ 0 → ahead z img d ≡ live_since z img (segment + 1)
    unfolding ahead live_from
    none_left e = rw (e, follow-out (next_of z img) tier)

    chain-over : tier ≡ 0 → ahead z img d ≡ live_since z img (segment + 1)
    unfolding ahead live_from
    chain-over e = rw (e, follow-none (next_of z img) left)

    module _ (some : left ≢ 0) (ne : tier ≢ 0) where
      follow-here : follow z img left tier ≡ tier ∷ follow z img (left - 1) (next_of z img tier)
      follow-here = let e : left ≡ suc (left - 1) = omega arith in ap (λ (n : ℕ). follow z img n tier) e ∙ follow-more (next_of z img) (left - 1) tier ne

      pub met-tier : InChain z img d → IsTier z tier
      met-tier w = rw follow-here at w.tiers_in tier (Memᴰ.head refl)

      -- the tier's entries, those of the chain's later tiers, those of the later segments
      ahead-here : {js : List ℕ} → full_from z img tier slot ≡ js
          → ahead z img d
          ≡ (map (live_at z img segment tier) js ++ live_from z img segment 0 (follow z img (left - 1) (next_of z img tier))) ++ live_since z img (segment + 1)
      unfolding ahead live_from
      ahead-here e = rw (follow-here, e, from_first segment (follow z img (left - 1) (next_of z img tier)))

  module _ (d : LiveCursor) (some : d.left ≢ 0) (ne : d.tier ≢ 0) where
    ahead-empty : d.slot < slots → slot_at z img d.tier d.slot ≡ 0 → ahead z img d ≡ ahead z img (at_slot d (d.slot + 1) d.skip)
    ahead-empty h e =
        ahead-here d some ne (full-empty d.tier d.slot h e) ∙ sym (ahead-here (at_slot d (d.slot + 1) d.skip) some ne refl)

    ahead-full : d.slot < slots → slot_at z img d.tier d.slot ≢ 0 → (k : ℕ)
        → ahead z img d ≡ live_at z img d.segment d.tier d.slot ∷ ahead z img (at_slot d (d.slot + 1) k)
    ahead-full h e k =
        ahead-here d some ne (full-here d.tier d.slot h e)
        ∙ ap (λ (es : List Live). live_at z img d.segment d.tier d.slot ∷ es) (sym (ahead-here (at_slot d (d.slot + 1) k) some ne refl))

    ahead-next : slots ≤ d.slot → ahead z img d ≡ ahead z img (at_tier d (next_of z img d.tier))
    unfolding ahead
    ahead-next h = ahead-here d some ne (full-none d.tier d.slot h)

  pub slot_in_lem : {d : LiveCursor} → InChain z img d → (j k : ℕ) → InChain z img (at_slot d j k)
  slot_in_lem w j k = record { segment_in = w.segment_in; tiers_in = w.tiers_in }

  -- ---- passing over

  pub moves-starts : {c : LiveCursor} → InChain z img c → Moves z img c c
  moves-starts w = record { in_chain = w; passed = []; split = refl; count = omega arith }

  pub moves-rest : {c d : LiveCursor} → Moves z img c d → rest z img c ≡ rest z img d
  unfolding rest
  moves-rest {c} {d} w = rw (w.split, w.count) (drop-append-add w.passed (ahead z img d) d.skip)

  pub moves_more : {b c d : LiveCursor} → Moves z img b c → Moves z img c d → Moves z img b d
  moves_more {b} {c} {d} v w =
      record {
        in_chain = w.in_chain;
        passed = v.passed ++ w.passed;
        split = v.split ∙ ap (λ (es : List Live). v.passed ++ es) w.split ∙ sym (append_assoc v.passed w.passed (ahead z img d));
        count = omega (arith, v.count, w.count, length-append v.passed w.passed);
      }

  -- over no entry; over one
  moves-on : {c d : LiveCursor} → InChain z img d → ahead z img c ≡ ahead z img d → c.skip ≡ d.skip → Moves z img c d
  moves-on w p q = record { in_chain = w; passed = []; split = p; count = omega (arith, q) }

  moves-over : {c d : LiveCursor} {e : Live} → InChain z img d → ahead z img c ≡ e ∷ ahead z img d → c.skip ≡ d.skip + 1 → Moves z img c d
  moves-over {c} {d} {e} w p q = record { in_chain = w; passed = e ∷ []; split = p; count = omega (arith, q) }

  -- ---- the slots of a tier

  pub tier-starts : {c : LiveCursor} → InChain z img c → InTier z img c c
  tier-starts w = record { moves = moves-starts w; segment_is = refl; tier_is = refl; left_is = refl }

  module _ {c d : LiveCursor} (some : c.left ≢ 0) (ne : c.tier ≢ 0) (w : InTier z img c d) where
    pub still-left : d.left ≢ 0
    still-left e = some (sym w.left_is ∙ e)

    pub still-tier : d.tier ≢ 0
    still-tier e = ne (sym w.tier_is ∙ e)

    pub tier-met : IsTier z d.tier
    tier-met = met-tier d still-left still-tier w.moves.in_chain

    module _ (h : d.slot < slots) where
      tier-moves : {k : ℕ} → Moves z img d (at_slot d (d.slot + 1) k) → InTier z img c (at_slot d (d.slot + 1) k)
      tier-moves v = record { moves = moves_more w.moves v; segment_is = w.segment_is; tier_is = w.tier_is; left_is = w.left_is }

      module _ {v : ℕ} (is : v ≡ slot_at z img d.tier d.slot) where
        pub tier-empty : v ≡ 0 → InTier z img c (at_slot d (d.slot + 1) d.skip)
        tier-empty e = tier-moves (moves-on (slot_in_lem w.moves.in_chain _ _) (ahead-empty d still-left still-tier h (sym is ∙ e)) refl)

        module _ (full : v ≢ 0) where
          full' : slot_at z img d.tier d.slot ≢ 0
          full' e = full (is ∙ e)

          pub tier-over : d.skip ≢ 0 → InTier z img c (at_slot d (d.slot + 1) (d.skip - 1))
          tier-over k = tier-moves (moves-over (slot_in_lem w.moves.in_chain _ _) (ahead-full d still-left still-tier h full' (d.skip - 1)) (omega arith))

          pub tier-found : d.skip ≡ 0 → OnFull z img d
          tier-found k = record { some = still-left; tier_in = tier-met; slot_in = h; full = full'; skip_is = k }

  -- ---- the tiers of a chain

  module _ {d : LiveCursor} (w : InChain z img d) where
    pub moves-end : d.tier ≡ 0 → Moves z img d (at_end d)
    moves-end e =
        moves-on
        (record { segment_in = w.segment_in; tiers_in = rw (follow-out (next_of z img) d.tier) (every-none (IsTier z)) })
        (chain-over d e ∙ sym (none_left (at_end d) refl))
        refl

    pub moves_next : d.left ≢ 0 → d.tier ≢ 0 → slots ≤ d.slot → {t : ℕ} → t ≡ next_of z img d.tier → Moves z img d (at_tier d t)
    moves_next some ne h e =
        rw e
        (moves-on
        (record { segment_in = w.segment_in; tiers_in = λ u m. rw (follow-here d some ne) at w.tiers_in u (Memᴰ.tail m) })
        (ahead-next d some ne h)
        refl)

  -- ---- the segments

  module _ {d : LiveCursor} (none : d.left ≡ 0) where
    pub moves-segment : ChainTiers z img → d.segment + 1 < segments → {e : LiveCursor} → e ≡ start_of z (d.segment + 1) d.skip → Moves z img d e
    moves-segment is h p =
        rw p (moves-on (start_in (d.segment + 1) _ h is) (none_left d none ∙ sym (start-ahead (d.segment + 1) _ h)) refl)

    pub settled-end : segments ≤ d.segment + 1 → Settled z img d
    settled-end h = record { on_full = λ some. absurd (some none); none = λ e. none_left d e ∙ since_none (d.segment + 1) h }

  -- ---- the entry of the slot, and the cursor after it

  module _ {d : LiveCursor} (w : InChain z img d) (f : OnFull z img d) where
    abbrev here : Live
    here = live_at z img d.segment d.tier d.slot

    abbrev after : LiveCursor
    after = at_slot d (d.slot + 1) 0

    pub ahead-cons : ahead z img d ≡ here ∷ ahead z img after
    ahead-cons = let ne : d.tier ≢ 0 = omega (arith, f.tier_in) in ahead-full d f.some ne f.slot_in f.full 0

    pub rest-cons : {e : Live} → e ≡ here → rest z img d ≡ e ∷ rest z img after
    unfolding rest
    rest-cons p = ap (λ (k : ℕ). drop k (ahead z img d)) f.skip_is ∙ ahead-cons ∙ ap (λ (x : Live). x ∷ ahead z img after) (sym p)

  pub rest-none : (d : LiveCursor) → ahead z img d ≡ [] → rest z img d ≡ []
  unfolding rest
  rest-none d e = rw e (drop-nil d.skip)

  -- what a caller has from a step that gave an entry
  pub step-at : {es : List Live} {r : Option (Live × LiveCursor)} {e : Live} {d : LiveCursor} → Steps z img es r → r ≡ Some (e, d)
      → InChain z img d × (es ≡ e ∷ rest z img d)
  step-at {es} s p = subst (Steps z img es) p s
