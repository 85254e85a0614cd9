-- The chains of tiers: refusal 5.
use Rattle.std.specs.Prelude.{ℕ, suc, ◌*◌, ◌-◌, ◌≡◌, eqb, length, get_or, drop, Option, Some, None}
use mathlib.Core.List.{List, ◌∷◌, ◌++◌, flat_map}
use Rattle.std.proofs.Math.Decide.{dec_le, dec_lt, ℕ_discrete}
use Rattle.lists.specs.Lists.{span, below, how_many}
use Rattle.lists.specs.Decide.{both, rule, choose}
use Rattle.lists.specs.Quantify.{Below, Every, below?, every?}
use Rattle.links.specs.Links as links
use Rattle.layout.specs.declared.Shape.{Shape}
use Rattle.layout.specs.Tiers.{tiers, IsExtra}
use Rattle.layout.specs.declared.Global.TheVariants.{FirstFree as firstFree, UsedTiers as usedTiers}
use Rattle.layout.specs.declared.Counter.TheVariants.{Previous as previous, Segment as segment, Order as order}
use Rattle.layout.specs.Places.{get, global, tier, counter, next_place}

module _ (z : Shape) (img : List ℕ) where
  open z use {settings, bulks}
  open settings use {segments, bulkTiers}

  -- ---- the chains as lists

  -- the tier after t
  abbrev pub next_of : ℕ → ℕ
  next_of t = get z img (next_place z t)

  -- the tiers met from t on, following next up to 0, at most n of them; and the index that is met after those
  abbrev pub follow : ℕ → ℕ → List ℕ
  follow n t = links.follow next_of n t

  abbrev pub end_of : ℕ → ℕ → ℕ
  end_of n t = links.end_of next_of n t

  -- segment s's chain, and the free chain
  unfoldable pub chain : ℕ → List ℕ
  chain s = follow (tiers z) (suc s)

  -- the last tier of segment s's chain
  abbrev pub last_tier : ℕ → ℕ
  last_tier s = get_or (chain s) (length (chain s) - 1) 0

  abbrev pub free_head : ℕ
  free_head = get z img (global firstFree)

  unfoldable pub free_chain : List ℕ
  free_chain = follow (tiers z) free_head

  -- all the segments' tiers; the extra ones among them
  unfoldable pub chained : List ℕ
  chained = flat_map chain (below segments)

  unfoldable pub chained_extra : List ℕ
  chained_extra = flat_map (λ s. drop 1 (chain s)) (below segments)

  -- the tiers of the bulks
  abbrev pub extra_tiers : List ℕ
  extra_tiers = span (suc segments) (bulks * bulkTiers)

  -- ---- the rules

  -- tier t says that it is at place i of segment s's chain, after tier u
  pub record StandsAt (s i t u : ℕ) : Type 0 where
    pub segment_is : get z img (tier t (counter segment)) ≡ s
    pub order_is : get z img (tier t (counter order)) ≡ i
    pub previous_is : get z img (tier t (counter previous)) ≡ u

  -- the tier at place i says so; before the main tier there is none
  abbrev pub Stands : ℕ → ℕ → Type 0
  Stands s i = StandsAt s i (get_or (chain s) i 0) (get_or (0 ∷ chain s) i 0)

  pub record ChainFits (s : ℕ) : Type 0 where
    pub extras : Every (drop 1 (chain s)) (IsExtra z)
    pub standing : Below (length (chain s)) (Stands s)
    pub ends : end_of (tiers z) (suc s) ≡ 0

  pub record FreeChainFits : Type 0 where
    pub extras : Every free_chain (IsExtra z)
    pub ends : end_of (tiers z) free_head ≡ 0

  -- t stands once, in a segment's chain or in the free chain
  abbrev pub Once : ℕ → Type 0
  Once t = how_many (chained_extra ++ free_chain) (eqb t) ≡ 1

  pub record ChainsFit : Type 0 where
    pub segments_fit : Below segments ChainFits
    pub free_fits : FreeChainFits
    pub once : Every extra_tiers Once
    pub used_is : get z img (global usedTiers) ≡ length chained_extra

  -- ---- decided

  unfoldable pub is_extra? : (t : ℕ) → Dec (IsExtra z t)
  is_extra? t = both (dec_lt segments t) (λ _. dec_le t (tiers z))

  unfoldable pub stands_at? : (s i t u : ℕ) → Dec (StandsAt s i t u)
  stands_at? s i t u =
      rule (λ v. v.segment_is) (ℕ_discrete (get z img (tier t (counter segment))) s) λ a.
      rule (λ v. v.order_is) (ℕ_discrete (get z img (tier t (counter order))) i) λ b.
      rule (λ v. v.previous_is) (ℕ_discrete (get z img (tier t (counter previous))) u) λ c.
      yes (record { segment_is = a; order_is = b; previous_is = c })

  unfoldable pub chain_fits? : (s : ℕ) → Dec (ChainFits s)
  chain_fits? s =
      rule (λ v. v.extras) (every? (IsExtra z) is_extra? (drop 1 (chain s))) λ a.
      rule (λ v. v.standing) (below? (Stands s) (λ i. stands_at? s i (get_or (chain s) i 0) (get_or (0 ∷ chain s) i 0)) (length (chain s))) λ b.
      rule (λ v. v.ends) (ℕ_discrete (end_of (tiers z) (suc s)) 0) λ c.
      yes (record { extras = a; standing = b; ends = c })

  unfoldable pub free_chain_fits? : Dec FreeChainFits
  free_chain_fits? =
      rule (λ v. v.extras) (every? (IsExtra z) is_extra? free_chain) λ a.
      rule (λ v. v.ends) (ℕ_discrete (end_of (tiers z) free_head) 0) λ b.
      yes (record { extras = a; ends = b })

  unfoldable pub chains_fit? : Dec ChainsFit
  chains_fit? =
      rule (λ v. v.segments_fit) (below? ChainFits chain_fits? segments) λ a.
      rule (λ v. v.free_fits) free_chain_fits? λ b.
      rule (λ v. v.once) (every? Once (λ t. ℕ_discrete (how_many (chained_extra ++ free_chain) (eqb t)) 1) extra_tiers) λ c.
      rule (λ v. v.used_is) (ℕ_discrete (get z img (global usedTiers)) (length chained_extra)) λ d.
      yes (record { segments_fit = a; free_fits = b; once = c; used_is = d })

  -- ---- the answer: how many tiers are chained, and how many free

  unfoldable pub chains_of : Option (ℕ × ℕ)
  chains_of = choose chains_fit? (λ _. None) (λ _. Some (length chained, length free_chain))
