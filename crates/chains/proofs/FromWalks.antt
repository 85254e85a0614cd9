-- The answer, from the walks along all the chains.
use Prim.Native.Nat.{ℕ, suc, ◌+◌, ◌-◌, ◌*◌, ◌^◌, ◌≤◌, ◌<◌}
use mathlib.Core.List.{List, ◌++◌}
use mathlib.Core.Path.{◌≡◌, ap, ap₂, sym, ◌∙◌, subst₂}
use native.Mathlib.Omega.{arith}
use lib.Dec.{eqb}
use lib.ListN.{length, get_or, replicate, length-replicate}
use Rattle.lists.specs.Lists.{how_many}
use Rattle.lists.specs.Quantify.{Below, Every}
use Rattle.lists.proofs.Lists.{in_span, span_in}
use Rattle.layout.specs.declared.Shape.{Shape}
use Rattle.layout.specs.Tiers.{tiers}
use Rattle.layout.specs.declared.Global.TheVariants.{UsedTiers as usedTiers}
use Rattle.layout.specs.Places.{get, global}
use Rattle.layout.specs.Frame.{Framed}
use Rattle.std.specs.Prelude.{Option, Some, None}
use Rattle.chains.specs.Chains.{follow, free_head, free_chain, chained, chained_extra, extra_tiers, ChainFits, Once, chains_of}
use Rattle.chains.specs.Walk.{tally, Met, Extras, Walks, extras_before, AllWalk, counts, Counting}
use Rattle.chains.proofs.Tally.{tally-append, length-tally, get_or-tally, zeros-met}
use Rattle.chains.proofs.Walking.{told-ended, told-lost}
use Rattle.chains.proofs.Segments.{before-all, before-short, met-before}
use Rattle.chains.proofs.Answer.{chains-fit, chains-broken, chained-length, free-extras, free-fits}

-- ---- the counts before the first walk

-- no tier was met
abbrev pub no_times : List ℕ
no_times = replicate counts 0

pub counting-starts : {z : Shape} {img : List ℕ} → Framed z (length img) → Counting z img no_times 0
counting-starts fr = record { framed = fr; long = length-replicate {A = ℕ} counts 0; met = zeros-met counts }

-- ---- the walk along the segments' chains

module _ {z : Shape} {img times₁ : List ℕ} {r₁ : Option ℕ} (fr : Framed z (length img))
    (a : AllWalk z img z.settings.segments no_times times₁ r₁) where
  open z use {settings, bulks}
  open settings use {segments, bulkTiers}

  few : segments ≤ 256
  few = fr.valid.segments.1.1

  pub first-lost : r₁ ≡ None → chains_of z img ≡ None
  first-lost e = chains-broken z img (λ f. told-lost a e f.segments_fit)

  module _ {k : ℕ} (e₁ : r₁ ≡ Some k) where
    ended : Met (Below segments (ChainFits z img)) (extras_before z img segments) no_times times₁ k
    ended = told-ended a e₁

    extras-count : k ≡ length (chained_extra z img)
    extras-count = ended.count ∙ ap length (before-all z img)

    first-long : length times₁ ≡ counts
    first-long = ap length ended.tallied ∙ length-tally no_times (extras_before z img segments) ∙ length-replicate {A = ℕ} counts 0

    pub first-counting : Counting z img times₁ (2 ^ 32)
    first-counting =
        record {
          framed = fr;
          long = first-long;
          met = λ u. rw ended.tallied (met-before z img no_times (zeros-met counts) segments (omega arith) few fr.tier_count u);
        }

    pub first-few : k ≤ 262144
    first-few = omega (arith, ended.count, before-short z img segments (omega arith) fr.tier_count, few)

    -- ---- and after it the walk along the free chain

    module _ {most head : ℕ} {times₂ : List ℕ} {r₂ : Option ℕ} (em : most ≡ tiers z) (eh : head ≡ free_head z img)
        (w : Walks z img most head times₁ times₂ r₂) where
      from-head : Walks z img (tiers z) (free_head z img) times₁ times₂ r₂
      from-head = subst₂ (λ (x y : ℕ). Walks z img x y times₁ times₂ r₂) em eh w

      pub free-lost : r₂ ≡ None → chains_of z img ≡ None
      free-lost e = chains-broken z img (λ f. told-lost from-head e (free-extras z img f.free_fits))

      module _ {f : ℕ} (e₂ : r₂ ≡ Some f) where
        free_ended : Met (Extras z img (tiers z) (free_head z img)) (follow z img (tiers z) (free_head z img)) times₁ times₂ f
        free_ended = told-ended from-head e₂

        pub second-long : length times₂ ≡ counts
        second-long = ap length free_ended.tallied ∙ length-tally times₁ (follow z img (tiers z) (free_head z img)) ∙ first-long

        -- each tier was met as often as it stands in the chains
        pub times-met : (t : ℕ) → t < counts → get_or times₂ t 0 ≡ how_many (chained_extra z img ++ free_chain z img) (eqb t)
        unfolding free_chain
        times-met t h =
            let e : times₂ ≡ tally no_times (chained_extra z img ++ free_chain z img) =
            free_ended.tallied ∙ ap (λ (r : List ℕ). tally r (free_chain z img)) (ended.tallied ∙ ap (tally no_times) (before-all z img))
            ∙ sym (tally-append no_times (chained_extra z img) (free_chain z img)) in
            omega (
              arith,
              ap (λ (r : List ℕ). get_or r t 0) e,
              get_or-tally no_times (chained_extra z img ++ free_chain z img) t (omega (arith, length-replicate {A = ℕ} counts 0)),
              zeros-met counts t,
            )

        -- each extra tier was met once
        abbrev MetOnce : Type 0
        MetOnce = Below (bulks * bulkTiers) (λ j. get_or times₂ (suc segments + j) 0 ≡ 1)

        all_once : MetOnce → Every (extra_tiers z img) (Once z img)
        unfolding tiers
        all_once o t m =
            let i : (suc segments ≤ t) × (t < suc segments + bulks * bulkTiers) = span_in (suc segments) (bulks * bulkTiers) t m in
            let e : suc segments + (t - suc segments) ≡ t = omega arith in
            let q : get_or times₂ (suc segments + (t - suc segments)) 0 ≡ 1 = o (t - suc segments) (omega arith) in
            sym (times-met t (omega (arith, fr.tier_count))) ∙ (rw e at q)

        once-met : Every (extra_tiers z img) (Once z img) → MetOnce
        unfolding tiers
        once-met o j h =
            times-met (suc segments + j) (omega (arith, fr.tier_count))
            ∙ o (suc segments + j) (in_span (suc segments) (bulks * bulkTiers) (suc segments + j) (omega arith) (omega arith))

        pub met-wrong : (MetOnce → ⊥) → chains_of z img ≡ None
        met-wrong n = chains-broken z img (λ c. n (once-met c.once))

        module _ {u : ℕ} (eu : u ≡ get z img (global usedTiers)) where
          pub used-wrong : (u ≡ k → ⊥) → chains_of z img ≡ None
          used-wrong n = chains-broken z img (λ c. n (eu ∙ c.used_is ∙ sym extras-count))

          pub all_right : MetOnce → u ≡ k → chains_of z img ≡ Some (segments + k, f)
          unfolding free_chain
          all_right o q =
              let c : length (chained z img) ≡ segments + k = chained-length z img ∙ ap (λ (n : ℕ). segments + n) (sym extras-count) in
              chains-fit z img
              (record {
                segments_fit = ended.holds;
                free_fits = free-fits z img free_ended.holds;
                once = all_once o;
                used_is = sym eu ∙ q ∙ extras-count;
              })
              ∙ ap₂ (λ (m n : ℕ). Some (m, n)) c (sym free_ended.count)
