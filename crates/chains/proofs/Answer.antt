-- The answer by its decision, and how many tiers are chained.
use Prim.Native.Nat.{ℕ, zero, suc, ◌+◌, ◌≤◌}
use mathlib.Core.List.{List, ◌++◌, flat_map}
use mathlib.Core.Path.{◌≡◌, ap, sym, ◌∙◌}
use native.Mathlib.Omega.{arith}
use native.Mathlib.Numerals.{add-one}
use lib.ListN.{length, length-append}
use Rattle.lists.specs.Lists.{below, span}
use Rattle.lists.proofs.Decides.{choose-by, choose_no, choose_yes}
use Rattle.lists.proofs.Lists.{flat_map_below}
use Rattle.layout.specs.declared.Shape.{Shape}
use Rattle.layout.specs.Tiers.{tiers}
use Rattle.std.specs.Prelude.{Some, None}
use Rattle.chains.specs.Chains.{chain, free_head, free_chain, chained, chained_extra, FreeChainFits, ChainsFit, chains_fit?, chains_of}
use Rattle.chains.specs.Walk.{Extras, extras_of, extras_before}
use Rattle.chains.proofs.Segments.{before-none, before_more, before-all, chain_length}

module _ (z : Shape) (img : List ℕ) where
  open z use {settings, bulks}
  open settings use {segments, bulkTiers}

  -- ---- the decision

  pub chains-fit : ChainsFit z img → chains_of z img ≡ Some (length (chained z img), length (free_chain z img))
  unfolding chains_of
  chains-fit f = choose_yes (chains_fit? z img) _ _ f

  pub chains-broken : (ChainsFit z img → ⊥) → chains_of z img ≡ None
  unfolding chains_of
  chains-broken n = choose_no (chains_fit? z img) _ _ n

  -- nothing else is accepted
  pub chains-only : (m n : ℕ) → chains_of z img ≡ Some (m, n) → ChainsFit z img
  unfolding chains_of
  chains-only m n =
      choose-by (chains_fit? z img) _ _ (λ x. x ≡ Some (m, n) → ChainsFit z img) (λ _ e. absurd (let q : ◌≡◌ {A = ℕ} 0 1 = cc in omega arith)) (λ f _. f)

  -- ---- how many tiers are chained

  up_to_length : (s : ℕ) → s ≤ segments → length (flat_map (chain z img) (below s)) ≡ s + length (extras_before z img s)
  unfolding flat_map span
  up_to_length zero h = rw (before-none z img) (omega arith)
  up_to_length (suc s) h =
      let more : flat_map (chain z img) (below (suc s)) ≡ flat_map (chain z img) (below s) ++ chain z img s =
      ap (λ (n : ℕ). flat_map (chain z img) (below n)) (sym (add-one s)) ∙ flat_map_below (chain z img) s in
      let more' : extras_before z img (suc s) ≡ extras_before z img s ++ extras_of z img s =
      ap (extras_before z img) (sym (add-one s)) ∙ before_more z img s in
      omega (
        arith,
        ap length more,
        ap length more',
        length-append (flat_map (chain z img) (below s)) (chain z img s),
        length-append (extras_before z img s) (extras_of z img s),
        chain_length z img s (omega arith),
        up_to_length s (omega arith),
      )

  pub chained-length : length (chained z img) ≡ segments + length (chained_extra z img)
  unfolding chained
  chained-length = up_to_length segments (omega arith) ∙ ap (λ (r : List ℕ). segments + length r) (before-all z img)

  -- ---- the free chain

  pub free-extras : FreeChainFits z img → Extras z img (tiers z) (free_head z img)
  unfolding free_chain
  free-extras f = record { extras = f.extras; ends = f.ends }

  pub free-fits : Extras z img (tiers z) (free_head z img) → FreeChainFits z img
  unfolding free_chain
  free-fits x = record { extras = x.extras; ends = x.ends }
