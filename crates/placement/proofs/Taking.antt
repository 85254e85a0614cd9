-- Where some tier takes an entry, the first that takes it is found, and it is that one or one before it.
use Prim.Native.Nat.{ℕ, suc, ◌+◌, ◌-◌, ◌≤◌}
use mathlib.Core.List.Memᴰ
use mathlib.Core.List.{List, [], ◌∷◌, ◌++◌, Memᴰ}
use mathlib.Core.Path.{◌≡◌, refl, sym, ◌∙◌}
use mathlib.Core.Logic.{◌≢◌, ⊎_elim}
use mathlib.Core.Bool.{Bool, true, false}
use mathlib.Core.Option.{Option, none, some}
use native.Mathlib.Omega.{arith}
use Rattle.lists.specs.Lists.{below}
use Rattle.lists.proofs.Lists.{in_span}
use Rattle.lists.proofs.Members.{first-fails}
use Rattle.layout.specs.declared.Shape.{Shape}
use Rattle.probe.proofs.Table.{slot_total-has}
use Rattle.probe.specs.Counting.{one_at}
use Rattle.probe.proofs.Has.{one_at_same}
use Rattle.entries.specs.Live.{slot_at}
use Rattle.search.specs.Search.{slots_of}
use Rattle.search.specs.Rules.{SomeEmpty}
use Rattle.sound.proofs.Sums.{full-total}
use Rattle.placement.specs.declared.Run.{Run}
use Rattle.placement.specs.declared.Run.TheVariants.{At, Nowhere}
use Rattle.placement.specs.Runs.{from_lowest, clear_from, lowest_run, run_in, first_run, full_in}
use Rattle.placement.proofs.Running.{Takes}
use Rattle.placement.proofs.LowestRun.{clear-from}
use Rattle.placement.proofs.FirstRun.{run-lowest, first_next}
use Rattle.placement.proofs.Inserting.{empty-and-full}

module _ (z : Shape) (full : ℕ → ℕ) (isClear : ℕ → ℕ → Bool) (n : ℕ) where
  module _ (t c : ℕ) (k : Takes z full isClear t c n) where
    lowest-some : lowest_run z full isClear t n ≢ none
    unfolding lowest_run
    lowest-some e =
        let fails : clear_from z full isClear t c n ≡ false =
        first-fails (λ d. clear_from z full isClear t d n) (below (suc z.settings.chunks - n)) e c
        (in_span 0 (suc z.settings.chunks - n) c (omega arith) (omega (arith, k.ends))) in
        let both : true ≡ false = sym (clear-from z full isClear t n c k.clear) ∙ fails in
        let never : ◌≡◌ {A = ℕ} 0 1 = cc in
        omega arith

    -- by the lowest run that there is
    run_by : (o : Option ℕ) → lowest_run z full isClear t n ≡ o → from_lowest t o ≢ Nowhere
    unfolding from_lowest
    run_by none e q = lowest-some e
    run_by (some d) e q = let never : ◌≡◌ {A = ℕ} 0 1 = cc in omega arith

    run-taken : run_in z full isClear t n ≢ Nowhere
    run-taken e = run_by (lowest_run z full isClear t n) refl (run-lowest z full isClear t n k.roomy ∙ e)

  first_by : (r : Run) (u : ℕ) (ts : List ℕ) → run_in z full isClear u n ≡ r → (r ≡ Nowhere → first_run z full isClear ts n ≢ Nowhere)
      → first_run z full isClear (u ∷ ts) n ≢ Nowhere
  unfolding first_run
  first_by (At v d) u ts e f q = let at : At v d ≡ Nowhere = rw (e, first_run) at q in let never : ◌≡◌ {A = ℕ} 0 1 = cc in omega arith
  first_by Nowhere u ts e f q = f refl (sym (first_next z full isClear u ts n e) ∙ q)

  pub first_taken : (t c : ℕ) → Takes z full isClear t c n → (ts : List ℕ) → Memᴰ t ts → first_run z full isClear ts n ≢ Nowhere
  first_taken t c k [] m = absurd (Memᴰ.not-nil m)
  first_taken t c k (u ∷ ts) m =
      first_by (run_in z full isClear u n) u ts refl
      (λ e.
      ⊎_elim
      (λ (q : t ≡ u). absurd (run-taken t c k (rw q e)))
      (λ more. first_taken t c k ts more)
      (Memᴰ.cases_cons m))

  -- nor does it matter what comes after that tier
  pub first-within : (t c : ℕ) → Takes z full isClear t c n → (xs ys : List ℕ)
      → first_run z full isClear (xs ++ (t ∷ ys)) n ≡ first_run z full isClear (xs ++ (t ∷ [])) n
  unfolding first_run
  first-within t c k [] ys = here (run_in z full isClear t n) refl
    where
      here : (r : Run) → run_in z full isClear t n ≡ r → first_run z full isClear (t ∷ ys) n ≡ first_run z full isClear (t ∷ []) n
      here (At u d) e = rw (e, first_run)
      here Nowhere e = absurd (run-taken t c k e)
  first-within t c k (x ∷ xs) ys =
      let later : first_run z full isClear (xs ++ (t ∷ ys)) n ≡ first_run z full isClear (xs ++ (t ∷ [])) n = first-within t c k xs ys in
      λ i. elim (run_in z full isClear x n) [ At u d ↦ At u d | Nowhere ↦ later i ]

-- a tier with an empty slot has fewer full ones than slots
pub some-empty-few : (z : Shape) (img : List ℕ) (t : ℕ) → SomeEmpty z img t → full_in z img t + 1 ≤ z.settings.slots
some-empty-few z img t empty =
    let j : ℕ = empty.0 in
    let one : one_at 0 (slot_at z img t j) ≡ 1 = rw empty.1.1 (one_at_same 0) in
    omega (
      arith,
      full-total z img t,
      empty-and-full (slots_of z t) img z.settings.slots,
      slot_total-has (slots_of z t) (one_at 0) img z.settings.slots j empty.1.0,
      one,
    )
