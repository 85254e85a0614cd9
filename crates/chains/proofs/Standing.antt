-- The loop that asks each tier of a chain where it stands.
use Prim.Native.Nat.{ℕ, suc, ◌+◌, ◌≤◌, ◌<◌}
use mathlib.Core.List.{List, ◌∷◌}
use mathlib.Core.Path.{◌≡◌, refl, ap, sym}
use native.Mathlib.Omega.{arith}
use native.Mathlib.Numerals.{add-one}
use lib.ListN.{length, get_or}
use Rattle.lists.specs.Quantify.{Below, below_suc}
use Rattle.lists.proofs.Lists.{member}
use Rattle.links.proofs.Runs.{run-next}
use Rattle.links.proofs.Follow.{run-follow}
use Rattle.layout.specs.declared.Shape.{Shape}
use Rattle.layout.specs.Tiers.{tiers, IsTier}
use Rattle.chains.specs.Chains.{next_of, chain, Stands}
use Rattle.chains.specs.Walk.{CanAllStand}
use Rattle.chains.proofs.Segments.{chain-cons}
use Rattle.chains.proofs.Tiers.{chain-from-extras}

module _ (z : Shape) (img : List ℕ) (s n : ℕ) where
  -- the tiers before place i said so
  pub record Standing (i t prev : ℕ) : Type 0 where
    pub low : i ≤ n
    pub here : i < n → t ≡ get_or (chain z img s) i 0
    pub before : prev ≡ get_or (0 ∷ chain z img s) i 0
    pub stood : Below i (Stands z img s)

  module _ (can : CanAllStand z img s n) where
    pub standing-starts : Standing 0 (suc s) 0
    standing-starts =
        record {
          low = omega arith;
          here = λ l. sym (ap (λ (r : List ℕ). get_or r 0 0) (chain-cons z img s can.segment_in));
          before = refl;
          stood = λ i l. absurd (omega arith);
        }

    module _ {i t prev : ℕ} (w : Standing i t prev) where
      pub standing-tier : i < n → IsTier z t
      standing-tier l =
          let k : i < length (chain z img s) = omega (arith, can.number) in
          rw (w.here l) (chain-from-extras z img s can.segment_in can.extras _ (member (chain z img s) i k))

      pub standing-turns : i < n → Stands z img s i → {u : ℕ} → u ≡ next_of z img t → Standing (i + 1) u t
      unfolding chain
      standing-turns l f {u} e =
          record {
            low = omega arith;
            here = λ k.
                let m : suc i < length (chain z img s) = omega (arith, can.number) in
                rw (add-one, e, w.here l) (sym (run-next i (run-follow (next_of z img) (tiers z) (suc s)) m));
            before = rw (add-one, w.here l);
            stood = rw add-one (below_suc (Stands z img s) i w.stood f);
          }

      pub standing-ends : n ≤ i → Below n (Stands z img s)
      standing-ends l = let e : i ≡ n = omega (arith, w.low) in rw e at w.stood
