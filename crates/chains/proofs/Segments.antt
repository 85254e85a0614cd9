-- A segment's chain, and the chains of the segments one after the other.
use Prim.Native.Nat.{ℕ, zero, suc, ◌+◌, ◌-◌, ◌*◌, ◌^◌, ◌≤◌, ◌<◌}
use mathlib.Core.List.{List, [], ◌∷◌, ◌++◌, flat_map, Memᴰ}
use mathlib.Core.Path.{◌≡◌, refl, ap, sym, ◌∙◌}
use mathlib.Core.Logic.{◌≢◌}
use native.Mathlib.Omega.{arith}
use native.Mathlib.Numerals.{add-one}
use lib.ListN.{length, get_or, drop, length-append}
use Rattle.lists.specs.Lists.{span}
use Rattle.lists.specs.Quantify.{Below, below_suc}
use Rattle.lists.proofs.Lists.{member, last-after, flat_map_below}
use Rattle.links.proofs.Follow.{follow-more, end_more, length-follow}
use Rattle.layout.specs.declared.Shape.{Shape}
use Rattle.layout.specs.Tiers.{tiers}
use Rattle.layout.specs.Frame.{Framed}
use Rattle.std.specs.Prelude.{Some, None}
use Rattle.chains.specs.Chains.{follow, end_of, next_of, chain, last_tier, chained_extra, ChainFits}
use Rattle.chains.specs.Walk.{tally, Met, extras_of, extras_before, AllWalk, MetAtMost, Counting}
use Rattle.chains.proofs.Tally.{tally-append, length-tally, met-tally}

module _ (z : Shape) (img : List ℕ) where
  open z use {settings, bulks}
  open settings use {segments, bulkTiers}

  pub segments-le : segments ≤ tiers z
  unfolding tiers
  segments-le = omega arith

  module _ (s : ℕ) (h : s < segments) where
    -- the main tier, and the extra tiers after it
    pub chain-cons : chain z img s ≡ suc s ∷ follow z img (tiers z - 1) (next_of z img (suc s))
    unfolding chain
    chain-cons =
        let e : tiers z ≡ suc (tiers z - 1) = omega (arith, segments-le) in
        let ne : suc s ≢ 0 = omega arith in
        (ap (λ (n : ℕ). follow z img n (suc s)) e) ∙ follow-more (next_of z img) (tiers z - 1) (suc s) ne

    pub chain-end : end_of z img (tiers z) (suc s) ≡ end_of z img (tiers z - 1) (next_of z img (suc s))
    chain-end =
        let e : tiers z ≡ suc (tiers z - 1) = omega (arith, segments-le) in
        let ne : suc s ≢ 0 = omega arith in
        (ap (λ (n : ℕ). end_of z img n (suc s)) e) ∙ end_more (next_of z img) (tiers z - 1) (suc s) ne

    pub extras-of : extras_of z img s ≡ follow z img (tiers z - 1) (next_of z img (suc s))
    extras-of = ap (drop 1) chain-cons

    pub chain_length : length (chain z img s) ≡ suc (length (extras_of z img s))
    chain_length = ap length chain-cons ∙ ap (λ (r : List ℕ). suc (length r)) (sym extras-of)

    pub chain-some : 0 < length (chain z img s)
    chain-some = omega (arith, chain_length)

    pub last-in : Memᴰ (last_tier z img s) (chain z img s)
    last-in = member (chain z img s) (length (chain z img s) - 1) (omega (arith, chain-some))

    -- the last tier, where 0 is met before the first
    pub last-met : get_or (0 ∷ chain z img s) (length (chain z img s)) 0 ≡ last_tier z img s
    last-met = last-after 0 (chain z img s) chain-some

-- ---- the segments one after the other

module _ (z : Shape) (img : List ℕ) where
  open z use {settings, bulks}
  open settings use {segments, bulkTiers}

  pub before-none : extras_before z img 0 ≡ []
  unfolding extras_before flat_map span
  before-none = refl

  pub before_more : (s : ℕ) → extras_before z img (s + 1) ≡ extras_before z img s ++ extras_of z img s
  unfolding extras_before
  before_more s = flat_map_below (extras_of z img) s

  pub before-all : extras_before z img segments ≡ chained_extra z img
  unfolding extras_before chained_extra
  before-all = refl

  extras-short : (s : ℕ) → s < segments → length (extras_of z img s) ≤ tiers z
  extras-short s h = rw (extras-of z img s h) (omega (arith, length-follow (next_of z img) (tiers z - 1) (next_of z img (suc s))))

  pub before-short : (s : ℕ) → s ≤ segments → tiers z ≤ 1024 → length (extras_before z img s) ≤ s * 1024
  before-short zero h c = rw before-none (omega arith)
  before-short (suc s) h c =
      rw (← add-one s, before_more s, length-append)
      (omega (arith, before-short s (omega arith) c, extras-short s (omega arith)))

  -- a tier is met at most as often as there are tiers in the chains
  pub met-before : (times : List ℕ) → MetAtMost times 0 → (s : ℕ) → s ≤ segments → segments ≤ 256 → tiers z ≤ 1024
      → MetAtMost (tally times (extras_before z img s)) (2 ^ 32)
  met-before times zeros s h few c u = omega (arith, met-tally times (extras_before z img s) 0 zeros u, before-short s h c)

  pub record AllWalking (times₀ times : List ℕ) (total s : ℕ) : Type 0 where
    pub low : s ≤ segments
    pub fits : Below s (ChainFits z img)
    pub count : total ≡ length (extras_before z img s)
    pub tallied : times ≡ tally times₀ (extras_before z img s)

  pub all-starts : (times₀ : List ℕ) → AllWalking times₀ times₀ 0 0
  unfolding tally
  all-starts times₀ = record { low = omega arith; fits = λ i h. absurd (omega arith); count = rw before-none; tallied = rw before-none }

  module _ {times₀ times : List ℕ} {total s : ℕ} (w : AllWalking times₀ times total s) where
    pub all-long : length times ≡ length times₀
    all-long = ap length w.tallied ∙ length-tally times₀ (extras_before z img s)

    pub all-counting : Counting z img times₀ 0 → Counting z img times (2 ^ 32)
    all-counting c =
        let fr : Framed z (length img) = c.framed in
        record {
          framed = fr;
          long = all-long ∙ c.long;
          met = λ u. rw w.tallied (met-before times₀ c.met s w.low fr.valid.segments.1.1 fr.tier_count u);
        }

    pub all_short : segments ≤ 256 → tiers z ≤ 1024 → total ≤ 262144
    all_short few c = omega (arith, w.count, before-short s w.low c, w.low)

  pub all-turns : {times₀ times : List ℕ} {total s : ℕ} → AllWalking times₀ times total s → s < segments → {times' : List ℕ} {k : ℕ}
      → Met (ChainFits z img s) (extras_of z img s) times times' k → AllWalking times₀ times' (total + k) (s + 1)
  all-turns {times₀} {times} {total} {s} w h {times'} {k} c =
      record {
        low = omega arith;
        fits = rw add-one (below_suc (ChainFits z img) s w.fits c.holds);
        count = rw (before_more s, length-append, ← w.count, ← c.count);
        tallied = rw (before_more s, tally-append, ← w.tallied) c.tallied;
      }

  pub all-lost : {times₀ times : List ℕ} {s : ℕ} → s < segments → (ChainFits z img s → ⊥) → AllWalk z img segments times₀ times None
  all-lost {s = s} h n = record { so = λ f. n (f s h) }

  pub all-ends : {times₀ times : List ℕ} {total s : ℕ} → AllWalking times₀ times total s → segments ≤ s
      → AllWalk z img segments times₀ times (Some total)
  all-ends {times₀} {times} {total} {s} w h =
      let e : s ≡ segments = omega (arith, w.low) in
      let f : Below s (ChainFits z img) = w.fits in
      let g : total ≡ length (extras_before z img s) = w.count in
      let t : times ≡ tally times₀ (extras_before z img s) = w.tallied in
      record { so = record { holds = rw e at f; count = rw e at g; tallied = rw e at t } }
