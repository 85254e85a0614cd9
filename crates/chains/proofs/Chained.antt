-- What fitting chains say of single tiers.
use Prim.Native.Nat.{ℕ, suc, ◌+◌, ◌-◌, ◌*◌, ◌<◌}
use mathlib.Core.List.{List, ◌∷◌, ◌++◌, Memᴰ}
use mathlib.Core.Path.{◌≡◌, sym, ◌∙◌, subst}
use mathlib.Core.Logic.{⊎_elim, ◌≢◌}
use native.Mathlib.Omega.{arith}
use lib.Dec.{eqb}
use lib.ListN.{length, get_or}
use Rattle.lists.specs.Lists.{below, how_many, total}
use Rattle.lists.proofs.Lists.{in_span, span_in, how_many-append}
use Rattle.lists.proofs.Rows.{how_many-span_in}
use Rattle.lists.proofs.Members.{flat_map_in, in_flat_map}
use Rattle.lists.proofs.Counted.{member-met, stranger_unmet, member-place}
use Rattle.lists.proofs.Totals.{total-change, total-zero, how_many_flat_map}
use Rattle.links.proofs.Once.{linked-once}
use Rattle.layout.specs.declared.Shape.{Shape}
use Rattle.layout.specs.Tiers.{tiers, IsExtra}
use Rattle.layout.specs.declared.Counter.TheVariants.{Segment as segment}
use Rattle.layout.specs.Places.{get, tier, counter}
use Rattle.chains.specs.Chains.{follow, next_of, chain, free_chain, chained, chained_extra, ChainsFit}
use Rattle.chains.specs.Walk.{extras_of}
use Rattle.chains.proofs.Segments.{chain-cons, extras-of}
use Rattle.chains.proofs.Linked.{linked-chain}

-- t stands in some segment's chain
abbrev pub IsChained : Shape → List ℕ → ℕ → Type 0
IsChained z img t = (s : ℕ) × ((s < z.settings.segments) × Memᴰ t (chain z img s))

module _ (z : Shape) (img : List ℕ) (fits : ChainsFit z img) where
  -- ---- what a tier's counters say of where it stands

  pub says-segment : (s t : ℕ) → s < z.settings.segments → Memᴰ t (chain z img s) → get z img (tier t (counter segment)) ≡ s
  says-segment s t hs m =
      let r : (i : ℕ) × (i < length (chain z img s)) × (get_or (chain z img s) i 0 ≡ t) = member-place t (chain z img s) m in
      subst (λ (u : ℕ). get z img (tier u (counter segment)) ≡ s) r.2 ((fits.segments_fit s hs).standing r.0 r.1).segment_is

  -- a tier is in one segment's chain
  pub chain-segment : (s s' t : ℕ) → s < z.settings.segments → s' < z.settings.segments → Memᴰ t (chain z img s)
      → Memᴰ t (chain z img s') → s ≡ s'
  chain-segment s s' t hs hs' m m' = sym (says-segment s t hs m) ∙ says-segment s' t hs' m'

  -- and once
  pub chain-once : (s t : ℕ) → s < z.settings.segments → Memᴰ t (chain z img s) → how_many (chain z img s) (eqb t) ≡ 1
  chain-once s t hs m = linked-once (linked-chain z img s (fits.segments_fit s hs)) t m

  -- ---- chained and free

  pub extra-once : (t : ℕ) → IsExtra z t → how_many (chained_extra z img ++ free_chain z img) (eqb t) ≡ 1
  unfolding tiers
  extra-once t x = fits.once t (in_span (suc z.settings.segments) (z.bulks * z.settings.bulkTiers) t (omega arith) (omega arith))

  pub free-not-chained : (s t u : ℕ) → s < z.settings.segments → Memᴰ t (chain z img s) → Memᴰ u (free_chain z img) → u ≢ t
  unfolding chained_extra
  free-not-chained s t u hs m mu e =
      let x : IsExtra z u = fits.free_fits.extras u mu in
      let n : Memᴰ t (suc s ∷ follow z img (tiers z - 1) (next_of z img (suc s))) = rw (chain-cons z img s hs) at m in
      ⊎_elim
      (λ (q : t ≡ suc s). omega (arith, e, x.0))
      (λ k.
      let k' : Memᴰ u (extras_of z img s) = rw (e, extras-of z img s hs) k in
      let c : Memᴰ u (chained_extra z img) =
      in_flat_map (extras_of z img) (below z.settings.segments) (in_span 0 z.settings.segments s (omega arith) (omega arith)) k' in
      omega (
        arith,
        extra-once u x,
        how_many-append (eqb u) (chained_extra z img) (free_chain z img),
        member-met u (chained_extra z img) c,
        member-met u (free_chain z img) mu,
      ))
      (mathlib.Core.List.Memᴰ.cases_cons n)

  pub chained-once : (s t : ℕ) → s < z.settings.segments → Memᴰ t (chain z img s) → how_many (chained z img) (eqb t) ≡ 1
  unfolding chained
  chained-once s t hs m =
      let ss : List ℕ = below z.settings.segments in
      let f : ℕ → ℕ = λ s'. how_many (chain z img s') (eqb t) in
      let sum : total ss f + 0 ≡ total ss (λ _. 0) + f s =
      total-change ss s (λ _. 0) f (how_many-span_in 0 z.settings.segments s (omega arith) (omega arith))
      (λ s' ms ne.
      stranger_unmet t (chain z img s') (λ m'. ne (chain-segment s' s t (omega (arith, span_in 0 z.settings.segments s' ms)) hs m' m))) in
      omega (arith, how_many_flat_map (chain z img) ss (eqb t), sum, total-zero ss, chain-once s t hs m)

  -- a chained tier stands in a segment's chain
  pub chained_in : (t : ℕ) → Memᴰ t (chained z img) → (s : ℕ) × (s < z.settings.segments) × Memᴰ t (chain z img s)
  unfolding chained
  chained_in t m =
      let r : (s : ℕ) × Memᴰ s (below z.settings.segments) × Memᴰ t (chain z img s) =
      flat_map_in (chain z img) (below z.settings.segments) m in
      (r.0, omega (arith, span_in 0 z.settings.segments r.0 r.1), r.2)
