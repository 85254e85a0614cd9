-- A loop along a segment's chain, which counts the tiers that it has met.
use Prim.Native.Nat.{ℕ, suc, ◌+◌, ◌-◌, ◌≤◌, ◌<◌}
use mathlib.Core.List.{List, [], ◌∷◌, ◌++◌, Memᴰ}
use mathlib.Core.Path.{◌≡◌, refl}
use mathlib.Core.Logic.{◌≢◌}
use native.Mathlib.Omega.{arith}
use lib.ListN.{length, length-append}
use Rattle.lists.specs.Quantify.{Every}
use Rattle.links.proofs.Runs.{run-positive}
use Rattle.links.proofs.Follow.{run-follow}
use Rattle.links.proofs.Along.{Along, along-starts, along-ends, along-out, along-splits, along_in, along-turns}
use Rattle.layout.specs.declared.Shape.{Shape}
use Rattle.layout.specs.Tiers.{tiers}
use Rattle.chains.specs.Chains.{follow, chain, next_of}

module _ (z : Shape) (img : List ℕ) (s : ℕ) where
  -- no tier of it is 0
  pub chain-positive : Every (chain z img s) (λ t. t ≢ 0)
  unfolding chain
  chain-positive = run-positive (run-follow (next_of z img) (tiers z) (suc s))

  -- k tiers were met, those of done, and the loop is at t
  pub record AlongChain (most : ℕ) (done : List ℕ) (t k : ℕ) : Type 0 where
    pub along : Along (next_of z img) (tiers z) (suc s) done t
    pub count : length done ≡ k
    pub most_is : most ≡ tiers z

  pub chain-starts : {most t : ℕ} → most ≡ tiers z → t ≡ s + 1 → AlongChain most [] t 0
  chain-starts {t = t} em et =
      let e : t ≡ suc s = omega arith in
      rw e (record { along = along-starts (next_of z img) (tiers z) (suc s); count = refl; most_is = em })

  module _ {most : ℕ} {done : List ℕ} {t k : ℕ} (w : AlongChain most done t k) where
    -- the tiers that were met, and those from t on
    pub chain_left : chain z img s ≡ done ++ follow z img (tiers z - k) t
    unfolding chain
    chain_left = rw (← w.count) w.along.splits

    pub chain-ends : t ≡ 0 → done ≡ chain z img s
    unfolding chain
    chain-ends e = along-ends w.along e

    pub chain-out : most ≤ k → done ≡ chain z img s
    unfolding chain
    chain-out h = along-out w.along (omega (arith, w.count, w.most_is))

    module _ (h : k < most) (ne : t ≢ 0) where
      low : length done < tiers z
      low = omega (arith, w.count, w.most_is)

      abbrev pub chain_after : List ℕ
      chain_after = follow z img (tiers z - suc (length done)) (next_of z img t)

      pub chain-splits : chain z img s ≡ done ++ (t ∷ chain_after)
      unfolding chain
      chain-splits = along-splits w.along low ne

      pub chain_in : Memᴰ t (chain z img s)
      unfolding chain
      chain_in = along_in w.along low ne

      pub chain-turns : {u : ℕ} → u ≡ next_of z img t → AlongChain most (done ++ (t ∷ [])) u (k + 1)
      chain-turns e =
          record {
            along = along-turns w.along low ne e;
            count = omega (arith, w.count, length-append done (t ∷ []));
            most_is = w.most_is;
          }
