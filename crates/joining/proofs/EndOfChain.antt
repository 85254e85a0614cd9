-- The loop to the end of a segment's chain: the last tier that it has met.
use Prim.Native.Nat.{ℕ, suc, ◌+◌, ◌<◌}
use mathlib.Core.List.{List, [], ◌∷◌, ◌++◌}
use mathlib.Core.Path.{◌≡◌, refl, sym, ◌∙◌, ap, subst}
use mathlib.Core.Logic.{◌≢◌}
use native.Mathlib.Omega.{arith}
use lib.ListN.{length, get_or, length-append}
use lib.Seq.{get_or-append_seam}
use Rattle.layout.specs.declared.Shape.{Shape}
use Rattle.layout.specs.Tiers.{tiers, IsTier}
use Rattle.chains.specs.Chains.{chain, next_of, last_tier}
use Rattle.chains.proofs.Segments.{last-in, last-met}
use Rattle.chains.proofs.Along.{AlongChain, chain-starts, chain-ends, chain-out, chain_in, chain-turns}
use Rattle.joining.specs.Asking.{EndsAt, CanFollow}

module _ (z : Shape) (img : List ℕ) (s : ℕ) where
  pub last-tier : CanFollow z img s → IsTier z (last_tier z img s)
  last-tier can = can.tiers_of (last_tier z img s) (last-in z img s can.segment_in)

  pub record Ending (most last t k : ℕ) : Type 0 where
    pub done : List ℕ
    pub along : AlongChain z img s most done t k
    pub last_is : last ≡ get_or (0 ∷ done) (length done) 0

  pub ending-starts : {most t : ℕ} → most ≡ tiers z → t ≡ s + 1 → Ending most 0 t 0
  ending-starts em et = record { done = []; along = chain-starts z img s em et; last_is = refl }

  module _ {most last t k : ℕ} (w : Ending most last t k) (can : CanFollow z img s) where
    ended : w.done ≡ chain z img s → EndsAt z img s last k
    ended e =
        record {
          last_is = w.last_is ∙ ap (λ (l : List ℕ). get_or (0 ∷ l) (length l) 0) e ∙ last-met z img s can.segment_in;
          length_is = sym w.along.count ∙ ap length e;
        }

    pub ending-ends : t ≡ 0 → EndsAt z img s last k
    ending-ends e = ended (chain-ends z img s w.along e)

    pub ending-out : k ≡ most → EndsAt z img s last most
    ending-out e = subst (EndsAt z img s last) e (ended (chain-out z img s w.along (omega arith)))

    module _ (h : k < most) (ne : t ≢ 0) where
      pub ending-tier : IsTier z t
      ending-tier = can.tiers_of t (chain_in z img s w.along h ne)

      pub ending-turns : {u : ℕ} → u ≡ next_of z img t → Ending most t u (k + 1)
      ending-turns e =
          let long : length (w.done ++ (t ∷ [])) ≡ suc (length w.done) = omega (arith, length-append w.done (t ∷ [])) in
          record {
            done = w.done ++ (t ∷ []);
            along = chain-turns z img s w.along h ne e;
            last_is = rw long (sym (get_or-append_seam (0 ∷ w.done) t [] 0));
          }
