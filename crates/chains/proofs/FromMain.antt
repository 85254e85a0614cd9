-- One segment's chain: from the walk along its extra tiers, and from what its tiers say.
use Prim.Native.Nat.{ℕ, suc, ◌+◌, ◌-◌, ◌≤◌}
use mathlib.Core.List.{List}
use mathlib.Core.Path.{◌≡◌, ap, sym, ◌∙◌, subst₂}
use native.Mathlib.Omega.{arith}
use native.Mathlib.Numerals.{add-one}
use lib.ListN.{length}
use Rattle.lists.specs.Quantify.{Below, Every}
use Rattle.links.proofs.Follow.{length-follow}
use Rattle.layout.specs.declared.Shape.{Shape}
use Rattle.layout.specs.Tiers.{tiers, IsExtra}
use Rattle.std.specs.Prelude.{Option, Some, None}
use Rattle.chains.specs.Chains.{follow, next_of, chain, Stands}
use Rattle.chains.specs.Walk.{tally, Met, Extras, Walks, extras_of, ChainWalks, CanWalkChain, CanAllStand}
use Rattle.chains.proofs.Walking.{told-ended, told-lost}
use Rattle.chains.proofs.Segments.{chain-end, extras-of, chain_length}

-- the walk goes from the main tier's next on
module _ {z : Shape} {img : List ℕ} {s : ℕ} {times : List ℕ} (can : CanWalkChain z img s times) {m n : ℕ} {a b : List ℕ} {r : Option ℕ}
    (em : m ≡ tiers z) (en : n ≡ next_of z img (s + 1)) (w : Walks z img (m - 1) n a b r) where
  walk : Walks z img (tiers z - 1) (next_of z img (suc s)) a b r
  walk = let e : n ≡ next_of z img (suc s) = en ∙ ap (next_of z img) (add-one s) in subst₂ (λ (x y : ℕ). Walks z img (x - 1) y a b r) em e w

  pub main-lost : r ≡ None → ChainWalks z img s a b None
  main-lost e =
      let same : extras_of z img s ≡ follow z img (tiers z - 1) (next_of z img (suc s)) = extras-of z img s can.segment_in in
      record { so = λ f. told-lost walk e (record { extras = rw same at f.extras; ends = sym (chain-end z img s can.segment_in) ∙ f.ends }) }

  module _ {k : ℕ} (e : r ≡ Some k) where
    met : Met (Extras z img (tiers z - 1) (next_of z img (suc s))) (follow z img (tiers z - 1) (next_of z img (suc s))) a b k
    met = told-ended walk e

    pub main-few : k ≤ 1024
    main-few = omega (arith, met.count, length-follow (next_of z img) (tiers z - 1) (next_of z img (suc s)), can.counting.framed.tier_count)

    count : k ≡ length (extras_of z img s)
    count = met.count ∙ ap length (sym (extras-of z img s can.segment_in))

    number : k + 1 ≡ length (chain z img s)
    number = omega (arith, count, chain_length z img s can.segment_in)

    extras : Every (extras_of z img s) (IsExtra z)
    extras = rw (extras-of z img s can.segment_in) met.holds.extras

    -- then each tier is asked where it stands

    pub main-asks : CanAllStand z img s (k + 1)
    main-asks = record { framed = can.counting.framed; segment_in = can.segment_in; number = number; extras = extras }

    pub main-refutes : (Below (k + 1) (Stands z img s) → ⊥) → ChainWalks z img s a b None
    main-refutes n = record { so = λ f. n (rw number f.standing) }

    pub main-fits : Below (k + 1) (Stands z img s) → ChainWalks z img s a b (Some k)
    main-fits stand =
        record {
          so =
              record {
                holds = record { extras = extras; standing = rw number at stand; ends = chain-end z img s can.segment_in ∙ met.holds.ends };
                count = count;
                tallied = met.tallied ∙ ap (tally a) (sym (extras-of z img s can.segment_in));
              };
        }
