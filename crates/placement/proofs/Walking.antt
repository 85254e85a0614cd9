-- What a walk along the chain of a key keeps, and what it gives.
use Prim.Native.Nat.{ℕ, ◌+◌, ◌≤◌, ◌<◌}
use mathlib.Core.List.Memᴰ
use mathlib.Core.List.{List, [], ◌∷◌, ◌++◌, append-nil, Memᴰ}
use mathlib.Core.Path.{◌≡◌, ap, sym, ◌∙◌}
use mathlib.Core.Logic.{◌≢◌}
use Rattle.std.proofs.Common.{Option, None, Some}
use Rattle.std.proofs.lemmas.Option.{none-some, same_Some}
use native.Mathlib.Omega.{arith}
use Rattle.lists.specs.Quantify.{Every, every-none}
use Rattle.lists.proofs.Members.{every_more}
use Rattle.layout.specs.declared.Shape.{Shape}
use Rattle.layout.specs.Tiers.{tiers}
use Rattle.layout.specs.Frame.{Framed}
use Rattle.chains.specs.Chains.{chain, next_of}
use Rattle.chains.proofs.Along.{AlongChain, chain-positive, chain-starts, chain_left, chain-ends, chain-out, chain-splits, chain_in, chain-turns}
use Rattle.entries.specs.Keys.{segment_of}
use Rattle.search.specs.declared.Sought.TheVariants.{Holds, Empty}
use Rattle.search.specs.declared.Found.TheVariants.{At as FoundAt, Absent}
use Rattle.search.specs.Search.{sought_in, first_empty, search_from, search}
use Rattle.search.proofs.Finding.{sought-first, search-here, search-reaches, search-passes, found_at, seek_in-lt}
use Rattle.placement.specs.declared.Old.{Old}
use Rattle.placement.specs.declared.Run.{Run}
use Rattle.placement.specs.declared.Run.TheVariants.{At, Nowhere}
use Rattle.placement.specs.declared.walk.Candidate.{Candidate}
use Rattle.placement.specs.declared.walk.Walk.{Walk}
use Rattle.placement.specs.OldEntry.{old_at, old_found}
use Rattle.placement.specs.Runs.{run_in, first_run, run_for, full_but, clear_but}
use Rattle.placement.specs.Asking.{rest_from, CanScanRest, CanWalk}
use Rattle.placement.specs.Walking.{candidate_run, CandidateIn, CandidateAfter, Walked, PlaceIs}
use Rattle.placement.proofs.FirstRun.{first-none, first-kept, first_passes, first_one}
use Rattle.placement.proofs.Running.{run-found, run-others}

module _ (z : Shape) (img : List ℕ) where
  open z use {settings}
  open settings use {slots}

  -- ---- the candidate, with one tier more

  module _ (n t j : ℕ) (x : Option Candidate) where
    pub candidate_kept : (y : Candidate) → x ≡ Some y → CandidateAfter z img n x t j (Some y)
    unfolding run_for
    candidate_kept y e key done f s =
        let here : run_for z img done n ≡ At y.tier y.chunk = sym s.run_is ∙ ap candidate_run e in
        record {
          run_is = sym (first-kept z _ _ done (t ∷ []) n y.tier y.chunk here);
          slot_is = λ v q. s.slot_is v (e ∙ q);
        }

    module _ {r : Run} (e : x ≡ None) (er : r ≡ run_in z (full_but z img None) (clear_but z img None) t n) where
      one : r ≡ first_run z (full_but z img None) (clear_but z img None) (t ∷ []) n
      one = er ∙ sym (first_one z _ _ t n)

      run-after : (key done : List ℕ) → CandidateIn z img key n done x → r ≡ run_for z img (done ++ (t ∷ [])) n
      unfolding run_for
      run-after key done s =
          one ∙ run-others z img None (t ∷ []) n (λ u m. tt) ∙ sym (first_passes z _ _ done (t ∷ []) n (sym s.run_is ∙ ap candidate_run e))

      pub candidate_none : r ≡ Nowhere → CandidateAfter z img n x t j None
      candidate_none q key done f s = record { run_is = sym q ∙ run-after key done s; slot_is = λ v w. absurd (none-some v w) }

      pub candidate_tier : (u c : ℕ) → r ≡ At u c → CandidateAfter z img n x t j (Some (record { tier = u; chunk = c; slot = j }))
      candidate_tier u c q key done f s =
          let same : u ≡ t = Memᴰ.eq_of_singleton (run-found z _ _ (t ∷ []) n u c (sym one ∙ q)).0 in
          record {
            run_is = sym q ∙ run-after key done s;
            slot_is = λ v w. rw (← same_Some _ v w) (f ∙ ap (first_empty z img key) (sym same));
          }

  -- ---- the loop

  module _ (key : List ℕ) (n : ℕ) where
    abbrev s : ℕ
    s = segment_of settings key

    -- the search ended empty in the tiers that were met, and x is the candidate in them
    pub record Walking (most t : ℕ) (x : Option Candidate) (k : ℕ) : Type 0 where
      pub done : List ℕ
      pub along : AlongChain z img (segment_of settings key) most done t k
      pub empties : Every done (λ u. (j : ℕ) × (sought_in z img key u ≡ Empty j))
      pub candidate_is : CandidateIn z img key n done x

    pub walking_starts : {most t q : ℕ} → most ≡ tiers z → q ≡ segment_of settings key → t ≡ q + 1 → Walking most t None 0
    unfolding run_for
    walking_starts em eq et =
        record {
          done = [];
          along = chain-starts z img s em (et ∙ ap (λ (i : ℕ). i + 1) eq);
          empties = every-none (λ u. (j : ℕ) × (sought_in z img key u ≡ Empty j));
          candidate_is = record { run_is = sym (first-none z _ _ n); slot_is = λ v q. absurd (none-some v q) };
        }

    module _ {most t k : ℕ} {x : Option Candidate} (w : Walking most t x k) where
      -- a chain meets no 0
      met-positive : Every w.done (λ u. u ≢ 0)
      met-positive u m = chain-positive z img s u (rw (chain_left z img s w.along) (Memᴰ.append_left _ m))

      -- nothing is left, so no tier holds the key
      none-found : w.done ≡ chain z img s → None ≡ old_found z img (search z img key)
      unfolding search old_found
      none-found e =
          let r : (t j : ℕ) × (search_from z img key 0 0 w.done ≡ Absent t j) = search-passes z img key w.done 0 0 w.empties in
          let found : search z img key ≡ Absent r.0 r.1 = ap (search_from z img key 0 0) (sym e) ∙ r.2 in
          rw found

      all-passed : w.done ≡ chain z img s → {passed : ℕ} → Walked z img key n (record { old = None; passed = passed; candidate = x })
      all-passed e =
          record {
            front = w.done;
            chain_is = sym e ∙ sym (append-nil w.done);
            others = λ u m. (met-positive u m, tt);
            candidate_is = w.candidate_is;
            old_is = none-found e;
          }

      pub walking_ends : t ≡ 0 → Walked z img key n (record { old = None; passed = k; candidate = x })
      walking_ends e = all-passed (chain-ends z img s w.along e)

      pub walking_out : most ≤ k → {passed : ℕ} → Walked z img key n (record { old = None; passed = passed; candidate = x })
      walking_out h = all-passed (chain-out z img s w.along h)

      module _ (h : k < most) (ne : t ≢ 0) where
        pub walking_in : Memᴰ t (chain z img s)
        walking_in = chain_in z img s w.along h ne

        pub walking_turns : {j : ℕ} {y : Option Candidate} {u : ℕ} → sought_in z img key t ≡ Empty j → CandidateAfter z img n x t j y
            → u ≡ next_of z img t → Walking most u y (k + 1)
        walking_turns {j} f after e =
            record {
              done = w.done ++ (t ∷ []);
              along = chain-turns z img s w.along h ne e;
              empties = every_more w.done t w.empties (j, f);
              candidate_is = after key w.done (sought-first z img key t j f).1 w.candidate_is;
            }

        module _ {j : ℕ} (f : sought_in z img key t ≡ Holds j) where
          pub walking_slot : {len : ℕ} → Framed z len → j < slots
          walking_slot fr = rw (found_at z img key 0 0 (t ∷ []) t j (search-here z img key 0 0 t j [] f)).0 at (seek_in-lt z img fr key t)

          old-here : Some (old_at z img t j) ≡ old_found z img (search z img key)
          unfolding search old_found
          old-here =
              let found : search z img key ≡ FoundAt t j =
              ap (search_from z img key 0 0) (chain-splits z img s w.along h ne) ∙ search-reaches z img key w.done _ 0 0 t j w.empties f in
              rw found

          pub walking_found : {old : Old} → old ≡ old_at z img t j → Walked z img key n (record { old = Some old; passed = k; candidate = x })
          walking_found {old} eo =
              rw eo
              (record {
                front = w.done;
                chain_is = chain_left z img s w.along;
                others = λ u m. (
                  met-positive u m,
                  λ (q : u ≡ t).
                      let e : (i : ℕ) × (sought_in z img key u ≡ Empty i) = w.empties u m in
                      let both : Holds j ≡ Empty e.0 = sym f ∙ ap (sought_in z img key) (sym q) ∙ e.1 in
                      let never : ◌≡◌ {A = ℕ} 0 1 = cc in
                      omega arith,
                );
                candidate_is = w.candidate_is;
                old_is = old-here;
              })

    -- ---- the place

    module _ {w : Walk} (d : Walked z img key n w) where
      abbrev run : List ℕ → Run
      run ts = first_run z (full_but z img w.old) (clear_but z img w.old) ts n

      abbrev rest : List ℕ
      rest = rest_from z img w.old w.passed

      in_front : run d.front ≡ candidate_run w.candidate
      in_front = run-others z img w.old d.front n (λ u m. (d.others u m).1) ∙ sym d.candidate_is.run_is

      -- a tier that was passed takes it
      pub placed-passed : (x : Candidate) → w.candidate ≡ Some x
          → PlaceIs z img key n (record { old = w.old; run = At x.tier x.chunk; slot = Some x.slot })
      placed-passed x e =
          let takes : run d.front ≡ At x.tier x.chunk = in_front ∙ ap candidate_run e in
          record {
            old_is = d.old_is;
            run_is = sym (ap run d.chain_is ∙ first-kept z _ _ d.front rest n x.tier x.chunk takes);
            slot_is = λ u b j er es.
                let tier_is : x.tier ≡ u = cc in
                (rw (← tier_is, ← same_Some _ j es) (d.candidate_is.slot_is x e), d.others u (run-found z _ _ d.front n u b (takes ∙ er)).0);
          }

      -- none does, so those after them are asked
      pub rest-asks : CanWalk z img key n → CanScanRest z img w.old w.passed n
      rest-asks asks =
          record {
            framed = asks.framed;
            tiers_of = λ t m. asks.tiers_of t (rw d.chain_is (Memᴰ.append_right d.front m));
            low_marks = λ t m. asks.low_marks t (rw d.chain_is (Memᴰ.append_right d.front m));
            some = asks.some;
            old_ends = rw d.old_is asks.old_ends;
          }

      pub placed-later : w.candidate ≡ None → {r : Run} → r ≡ run rest
          → PlaceIs z img key n (record { old = w.old; run = r; slot = None })
      placed-later e er =
          record {
            old_is = d.old_is;
            run_is = er ∙ sym (ap run d.chain_is ∙ first_passes z _ _ d.front rest n (in_front ∙ ap candidate_run e));
            slot_is = λ t c j _ q. absurd (none-some j q);
          }
