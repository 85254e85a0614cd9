-- A cursor over the live entries: those that are left from it on, and what a step answers.
use Rattle.std.specs.Prelude.{ℕ, ◌+◌, ◌-◌, ◌<◌, ◌≡◌, not, eqb, drop, Option, Some, None}
use mathlib.Core.List.{List, [], ◌∷◌, ◌++◌, map, flat_map}
use Rattle.lists.specs.Lists.{span, those}
use Rattle.lists.specs.Quantify.{Every}
use Rattle.layout.specs.declared.Shape.{Shape}
use Rattle.layout.specs.Tiers.{tiers, IsTier}
use Rattle.chains.specs.Chains.{follow}
use Rattle.entries.specs.declared.Live.{Live}
use Rattle.entries.specs.Live.{slot_at, live_at, live_in, live_of, live}
use Rattle.image.specs.declared.cursor.LiveCursor.{LiveCursor}

-- before the entries of segment s, with n to pass over
abbrev pub start_of : Shape → ℕ → ℕ → LiveCursor
start_of z s n = record { segment = s; tier = s + 1; left = tiers z; slot = 0; skip = n }

module _ (z : Shape) (img : List ℕ) where
  open z use {settings}
  open settings use {segments, slots}

  -- ---- what is left

  -- the full slots of tier t from slot j on
  unfoldable pub full_from : ℕ → ℕ → List ℕ
  full_from t j = those (span j (slots - j)) (λ i. not (eqb (slot_at z img t i) 0))

  -- the live entries of some tiers of segment s's chain, those of the first tier from slot j on
  unfoldable pub live_from : ℕ → ℕ → List ℕ → List Live
  live_from s j [] = []
  live_from s j (t ∷ ts) = map (live_at z img s t) (full_from t j) ++ flat_map (live_in z img s) ts

  -- those of segment s and the later ones
  unfoldable pub live_since : ℕ → List Live
  live_since s = flat_map (live_of z img) (span s (segments - s))

  -- those from the cursor's slot on; what is left of them once it has passed over as many as it is to
  unfoldable pub ahead : LiveCursor → List Live
  ahead c = live_from c.segment c.slot (follow z img c.left c.tier) ++ live_since (c.segment + 1)

  unfoldable pub rest : LiveCursor → List Live
  rest c = drop c.skip (ahead c)

  -- ---- what a step asks and gives

  -- the cursor stands in a segment's chain, and meets tiers only
  pub record InChain (c : LiveCursor) : Type 0 where
    pub segment_in : c.segment < segments
    pub tiers_in : Every (follow z img c.left c.tier) (IsTier z)

  -- before all entries
  pub record Begins (c : LiveCursor) : Type 0 where
    pub in_chain : InChain c
    pub rest_is : rest c ≡ live z img

  -- of the entries that are left, the first, and a cursor before the others; or none is left
  abbrev pub Steps : List Live → Option (Live × LiveCursor) → Type 0
  Steps es (Some (e, c)) = InChain c × (es ≡ e ∷ rest c)
  Steps es None = es ≡ []
