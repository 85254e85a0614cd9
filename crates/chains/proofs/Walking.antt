-- What a walk tells, and what the loop of `walk` keeps: the tiers that it has met are extra tiers, and each was counted.
use Prim.Native.Nat.{ℕ, ◌+◌, ◌^◌, ◌≤◌, ◌<◌}
use mathlib.Core.List.{List, [], ◌∷◌, ◌++◌}
use mathlib.Core.Path.{◌≡◌, refl, ap, sym, ◌∙◌, subst}
use mathlib.Core.Logic.{◌≢◌}
use native.Mathlib.Omega.{arith}
use lib.ListN.{length, get_or, set, length-set, length-append}
use Rattle.lists.specs.Quantify.{Every, every-none}
use Rattle.lists.proofs.Members.{every_more}
use Rattle.links.proofs.Along.{Along, along-starts, along-ends, along-end, along-lost, along_in, along-turns}
use Rattle.layout.specs.declared.Shape.{Shape}
use Rattle.layout.specs.Tiers.{IsExtra}
use Rattle.std.specs.Prelude.{Option, Some, None}
use Rattle.chains.specs.Chains.{follow, next_of}
use Rattle.chains.specs.Walk.{tally, Met, Tells, Told, Walks, MetAtMost}
use Rattle.chains.proofs.Tally.{tally-append, met-tally}

-- ---- what a walk tells, by its answer

module _ {P : Type 0} {l times times' : List ℕ} {r : Option ℕ} (w : Told P l times times' r) where
  pub told-ended : {k : ℕ} → r ≡ Some k → Met P l times times' k
  told-ended e = subst (Tells P l times times') e w.so

  pub told-lost : r ≡ None → P → ⊥
  told-lost e = subst (Tells P l times times') e w.so

-- ---- the loop

module _ (z : Shape) (img : List ℕ) (most start : ℕ) (times₀ : List ℕ) where
  pub record Walking (times : List ℕ) (t k : ℕ) : Type 0 where
    pub done : List ℕ
    pub along : Along (next_of z img) most start done t
    pub count : length done ≡ k
    pub long : length times ≡ length times₀
    pub extras : Every done (IsExtra z)
    pub tallied : times ≡ tally times₀ done

  pub walk-starts : Walking times₀ start 0
  unfolding tally
  walk-starts =
      record { done = []; along = along-starts (next_of z img) most start; count = refl; long = refl; extras = every-none (IsExtra z); tallied = refl }

  module _ {times : List ℕ} {t k : ℕ} (w : Walking times t k) where
    pub walk-met : MetAtMost times₀ (2 ^ 32) → MetAtMost times (2 ^ 32 + k)
    walk-met met u = rw (w.tallied, ← w.count) (met-tally times₀ w.done (2 ^ 32) met u)

    -- the end is reached
    pub walk_ends : t ≡ 0 → {n : ℕ} → n ≡ k → Walks z img most start times₀ times (Some n)
    walk_ends e q =
        let all : w.done ≡ follow z img most start = along-ends w.along e in
        record {
          so =
              record {
                holds = record { extras = rw all at w.extras; ends = along-end w.along e };
                count = q ∙ sym w.count ∙ ap length all;
                tallied = w.tallied ∙ ap (tally times₀) all;
              };
        }

    module _ (h : k < most) (ne : t ≢ 0) where
      low : length w.done < most
      low = omega (arith, w.count)

      -- t is no extra tier
      pub walk-lost : (IsExtra z t → ⊥) → Walks z img most start times₀ times None
      walk-lost n = record { so = λ x. n (x.extras t (along_in w.along low ne)) }

      pub walk-turns : IsExtra z t → {n : ℕ} → n ≡ next_of z img t → Walking (set times t (get_or times t 0 + 1)) n (k + 1)
      unfolding tally
      walk-turns x e =
          record {
            done = w.done ++ (t ∷ []);
            along = along-turns w.along low ne e;
            count = omega (arith, w.count, length-append w.done (t ∷ []));
            long = length-set times t _ ∙ w.long;
            extras = every_more w.done t w.extras x;
            tallied = rw w.tallied (sym (tally-append times₀ w.done (t ∷ [])));
          }

    -- no end was found
    pub walk-out : most ≤ k → t ≢ 0 → Walks z img most start times₀ times None
    walk-out h ne = record { so = λ x. ne (sym (along-lost w.along (omega (arith, w.count))) ∙ x.ends) }
