-- The chains after a bulk was added: the segments' are as they were, and the new tiers stand in a row before the old free ones.
use Prim.Native.Nat.{ℕ, suc, ◌+◌, ◌-◌, ◌*◌, ◌≤◌, ◌<◌}
use mathlib.Core.List.Memᴰ
use mathlib.Core.List.{List, ◌++◌}
use mathlib.Core.Path.{◌≡◌, ap, sym, ◌∙◌}
use mathlib.Core.Logic.{⊎_elim}
use native.Mathlib.Omega.{arith}
use lib.Dec.{eqb}
use lib.ListN.{length}
use Rattle.lists.specs.Cases.{lt-or}
use Rattle.lists.specs.Lists.{span, how_many}
use Rattle.lists.specs.Quantify.{Every}
use Rattle.lists.proofs.Lists.{in_span, span_in, how_many-append}
use Rattle.lists.proofs.Rows.{how_many-span-before, how_many-span_in}
use Rattle.lists.proofs.Counted.{stranger_unmet}
use Rattle.links.specs.Links.{Linked}
use Rattle.links.proofs.Runs.{run-from, run-same}
use Rattle.links.proofs.Edits.{linked-block}
use Rattle.layout.specs.declared.Shape.{Shape}
use Rattle.layout.specs.Tiers.{tiers, IsTier, IsExtra}
use Rattle.layout.specs.declared.Global.TheVariants.{UsedTiers as usedTiers}
use Rattle.layout.specs.declared.Header.TheVariants.{NextTier as nextTier}
use Rattle.layout.specs.declared.Counter.{Counter}
use Rattle.layout.specs.declared.Counter.TheVariants.{Next as next, Previous as previous, Segment as segment, Order as order}
use Rattle.layout.specs.Places.{global, tier, counter, shared_place, get}
use Rattle.layout.proofs.Places.{kind, shared_in, shared-extra, shared-kind}
use Rattle.chains.specs.Chains.{next_of, chain, free_head, free_chain, chained_extra, Once, ChainsFit}
use Rattle.chains.proofs.Tiers.{free-tiers}
use Rattle.chains.proofs.Linked.{linked-free, free-linked, linked-ends}
use Rattle.chains.proofs.Counts.{extras_in}
use Rattle.chains.proofs.AgreeChains.{SameLinks, extra-more, links-chain, links-extras, links-fit}
use Rattle.growing.specs.Growing.{grown, new_tier}
use Rattle.growing.proofs.Reshaped.{tiers-grown, new-extra}
use Rattle.growing.proofs.NewTiers.{after_last, after-other, new_next, Grows}

-- numbers of a row each stand once in two lists, and so do those of a longer row where its end is put in between
once-longer : (xs zs : List ℕ) (a m k : ℕ) → Every (xs ++ zs) (λ x. x < a + m) → Every (span a m) (λ x. how_many (xs ++ zs) (eqb x) ≡ 1)
    → Every (span a (m + k)) (λ x. how_many (xs ++ (span (a + m) k ++ zs)) (eqb x) ≡ 1)
once-longer xs zs a m k old once x w =
    let row : (a ≤ x) × (x < a + (m + k)) = span_in a (m + k) x w in
    let parts : how_many (xs ++ (span (a + m) k ++ zs)) (eqb x) ≡ how_many (xs ++ zs) (eqb x) + how_many (span (a + m) k) (eqb x) =
    omega (
      arith,
      how_many-append (eqb x) xs zs,
      how_many-append (eqb x) xs (span (a + m) k ++ zs),
      how_many-append (eqb x) (span (a + m) k) zs,
    ) in
    ⊎_elim
    (λ (h : x < a + m). omega (arith, parts, once x (in_span a m x (omega arith) h), how_many-span-before (a + m) k x h))
    (λ (h : a + m ≤ x).
    let none : how_many (xs ++ zs) (eqb x) ≡ 0 = stranger_unmet x (xs ++ zs) (λ c. let l : x < a + m = old x c in omega arith) in
    omega (arith, parts, none, how_many-span_in (a + m) k x h (omega arith)))
    (lt-or x (a + m))

module _ (z : Shape) (img img' : List ℕ) (fits : ChainsFit z img) (some : 1 ≤ z.settings.bulkTiers) (g : Grows z img img') where
  open z use {settings, bulks}
  open settings use {segments, bulkTiers}

  -- ---- the links

  next-kept : (u : ℕ) → IsTier z u → next_of (grown z) img' u ≡ next_of z img u
  unfolding shared_place
  next-kept u is =
      g.kept (shared_place z nextTier next u) (shared_in z nextTier next u is)
      (⊎_elim
      (λ (e : kind (shared_place z nextTier next u) ≡ 7). omega arith)
      (λ (e : kind (shared_place z nextTier next u) ≡ 9). omega arith)
      (shared-kind z nextTier next u))

  next-new : (k : ℕ) → k < bulkTiers → next_of (grown z) img' (new_tier z k) ≡ new_next z img k
  next-new k h = rw (shared-extra (grown z) nextTier next (new_tier z k) (new-extra z k h).0) (g.new k h).next_is

  counter-kept : (f : Counter) (u : ℕ) → IsTier z u → get (grown z) img' (tier u (counter f)) ≡ get z img (tier u (counter f))
  counter-kept f u is = g.kept (tier u (counter f)) (is, tt) (omega arith)

  links : SameLinks z (bulks + 1) img img'
  links u is =
      record {
        next = next-kept u is;
        previous = counter-kept previous u is;
        segment = counter-kept segment u is;
        order = counter-kept order u is;
      }

  -- ---- the segments' chains

  pub grown-chain : (s : ℕ) → s < z.settings.segments → chain (grown z) img' s ≡ chain z img s
  grown-chain = links-chain z (bulks + 1) (omega arith) img img' fits links

  -- ---- the free chain

  abbrev new_free : List ℕ
  new_free = span (suc (tiers z)) bulkTiers ++ free_chain z img

  free-now : Linked (next_of (grown z) img') (free_head (grown z) img') new_free
  free-now =
      let last : ℕ = bulkTiers - 1 in
      let all : suc last ≡ bulkTiers = omega arith in
      let old : Linked (next_of (grown z) img') (free_head z img) (free_chain z img) =
      run-same (λ u m. next-kept u (free-tiers z img fits.free_fits u m)) (linked-free z img fits.free_fits) in
      let row : Linked (next_of (grown z) img') (suc (tiers z)) (span (suc (tiers z)) (suc last) ++ free_chain z img) =
      linked-block (suc (tiers z)) last (omega arith)
      (λ i h. next-new i (omega arith) ∙ after-other (new_tier z i) (tiers (grown z)) (free_head z img) (omega (arith, tiers-grown z)))
      (next-new last (omega arith) ∙ after_last (new_tier z last) (tiers (grown z)) (free_head z img) (omega (arith, tiers-grown z))) old in
      run-from g.head_is (rw all at row)

  free-extras : Every new_free (IsExtra (grown z))
  unfolding tiers
  free-extras u m =
      ⊎_elim
      (λ c. omega (arith, span_in (suc (tiers z)) bulkTiers u c))
      (λ c. extra-more z (bulks + 1) (omega arith) u (fits.free_fits.extras u c))
      (Memᴰ.append_cases (span (suc (tiers z)) bulkTiers) m)

  free-tiers-now : Every new_free (IsTier (grown z))
  free-tiers-now u m = let x : IsExtra (grown z) u = free-extras u m in omega arith

  pub grown-free : free_chain (grown z) img' ≡ span (suc (tiers z)) bulkTiers ++ free_chain z img
  grown-free = free-linked (grown z) img' free-tiers-now free-now

  -- ---- the whole

  same-extras : chained_extra (grown z) img' ≡ chained_extra z img
  same-extras = links-extras z (bulks + 1) (omega arith) img img' fits links

  once-again : Every (span (suc segments) ((bulks + 1) * bulkTiers)) (Once (grown z) img')
  unfolding tiers
  once-again =
      let all : (bulks + 1) * bulkTiers ≡ bulks * bulkTiers + bulkTiers = omega arith in
      let first : suc (tiers z) ≡ suc segments + bulks * bulkTiers = omega arith in
      rw (all, grown-free, same-extras, first)
      (once-longer (chained_extra z img) (free_chain z img) (suc segments) (bulks * bulkTiers) bulkTiers
      (λ u m. let x : IsExtra z u = extras_in z img fits u m in omega arith) fits.once)

  pub grown-chains : ChainsFit (grown z) img'
  grown-chains =
      record {
        segments_fit = links-fit z (bulks + 1) (omega arith) img img' fits links;
        free_fits = record { extras = rw grown-free free-extras; ends = linked-ends (grown z) img' free-tiers-now free-now };
        once = once-again;
        used_is = g.kept (global usedTiers) tt (omega arith) ∙ fits.used_is ∙ ap length (sym same-extras);
      }
