-- What the first tier that takes an entry of n chunks has, and on what of the image that depends.
use Prim.Native.Nat.{ℕ, zero, suc, ◌+◌, ◌-◌, ◌≤◌, ◌<◌}
use mathlib.Core.List.{List, [], ◌∷◌, Memᴰ}
use mathlib.Core.Path.{◌≡◌, refl, ap, sym, ◌∙◌}
use mathlib.Core.Bool.{Bool, true, false}
use mathlib.Core.Logic.{⊎_elim, ◌≢◌}
use mathlib.Core.Option.{Option as Maybe, none, some}
use Rattle.std.proofs.Common.{Option}
use native.Mathlib.Omega.{arith}
use lib.Dec.{leb}
use borrow.Author.Tests.{leb-true}
use Rattle.lists.specs.Cases.{by-test, same_or}
use Rattle.lists.specs.Lists.{below}
use Rattle.lists.specs.Quantify.{Below, Every}
use Rattle.lists.proofs.Lists.{span_in}
use Rattle.lists.proofs.Members.{first_in}
use Rattle.lists.proofs.SameLists.{same_first}
use Rattle.layout.specs.declared.Shape.{Shape}
use Rattle.chunks.specs.Chunks.{clear}
use Rattle.placement.specs.declared.Old.{Old}
use Rattle.placement.specs.declared.Run.{Run}
use Rattle.placement.specs.declared.Run.TheVariants.{At, Nowhere}
use Rattle.placement.specs.OldEntry.{OtherTier}
use Rattle.placement.specs.Runs.{from_lowest, clear_from, lowest_run, run_in, first_run, run_for, full_in, full_but, clear_but}
use Rattle.placement.proofs.OldEntry.{clear_else, full_else}

-- ---- what is found

module _ (z : Shape) (full : ℕ → ℕ) (isClear : ℕ → ℕ → Bool) where
  open z use {settings}
  open settings use {slots, chunks}

  all-clear : (t c n : ℕ) → clear_from z full isClear t c n ≡ true → (i : ℕ) → c ≤ i → i < c + n → isClear t i ≡ true
  unfolding clear_from
  all-clear t c zero h i lo hi = absurd (omega arith)
  all-clear t c (suc n) h i lo hi =
      by-test (isClear t c)
      (λ e.
      let rest : clear_from z full isClear t (suc c) n ≡ true = rw (e, clear_from) at h in
      ⊎_elim (λ (q : i ≡ c). rw q e) (λ (q : i ≢ c). all-clear t (suc c) n rest i (omega arith) (omega arith)) (same_or i c))
      (λ e. let z : false ≡ true = rw (e, clear_from) at h in absurd (let y : ◌≡◌ {A = ℕ} 0 1 = cc in omega arith))

  -- tier t takes an entry of n chunks from chunk c on
  pub record Takes (t c n : ℕ) : Type 0 where
    pub roomy : full t + 2 ≤ slots
    pub ends : c + n ≤ chunks
    pub clear : (i : ℕ) → c ≤ i → i < c + n → isClear t i ≡ true

  lowest-found : (t n c : ℕ) → lowest_run z full isClear t n ≡ some c
      → (c + n ≤ chunks) × ((i : ℕ) → c ≤ i → i < c + n → isClear t i ≡ true)
  unfolding lowest_run
  lowest-found t n c h =
      let r : Memᴰ c (below (suc chunks - n)) × (clear_from z full isClear t c n ≡ true) =
      first_in (λ d. clear_from z full isClear t d n) c (below (suc chunks - n)) h in
      (omega (arith, span_in 0 (suc chunks - n) c r.0), all-clear t c n r.1)

  -- by the answer of the lowest run
  taken : (o : Maybe ℕ) (t n u c : ℕ) → lowest_run z full isClear t n ≡ o → full t + 2 ≤ slots
      → from_lowest t o ≡ At u c → (u ≡ t) × Takes t c n
  unfolding from_lowest
  taken none t n u c e r h = absurd (let y : ◌≡◌ {A = ℕ} 0 1 = cc in omega arith)
  taken (some d) t n u c e r h =
      let p : u ≡ t = cc in
      let q : d ≡ c = cc in
      let f : _ = lowest-found t n c (e ∙ ap some q) in
      (p, record { roomy = r; ends = f.0; clear = f.1 })

  run_in_found : (t n u c : ℕ) → run_in z full isClear t n ≡ At u c → (u ≡ t) × Takes t c n
  unfolding run_in
  run_in_found t n u c h =
      by-test (leb (full t + 2) slots)
      (λ e. taken (lowest_run z full isClear t n) t n u c refl (leb-true _ _ e) (rw (e, run_in) at h))
      (λ e. let y : Nowhere ≡ At u c = rw (e, run_in) at h in absurd (let y : ◌≡◌ {A = ℕ} 0 1 = cc in omega arith))

  first_run_lem : (r : Run) (u : ℕ) (ts : List ℕ) (n t c : ℕ) → run_in z full isClear u n ≡ r
      → (first_run z full isClear ts n ≡ At t c → Memᴰ t ts × Takes t c n)
      → elim r [ At v d ↦ At v d | Nowhere ↦ first_run z full isClear ts n ] ≡ At t c → Memᴰ t (u ∷ ts) × Takes t c n
  first_run_lem (At v d) u ts n t c e f h =
      let q : (t ≡ u) × Takes u c n = run_in_found u n t c (e ∙ h) in
      (mathlib.Core.List.Memᴰ.head q.0, rw q.0 q.1)
  first_run_lem Nowhere u ts n t c e f h = let q : Memᴰ t ts × Takes t c n = f h in (mathlib.Core.List.Memᴰ.tail q.0, q.1)

  found : (ts : List ℕ) (n t c : ℕ) → first_run z full isClear ts n ≡ At t c → Memᴰ t ts × Takes t c n
  unfolding first_run
  found [] n t c h = absurd (let y : ◌≡◌ {A = ℕ} 0 1 = cc in omega arith)
  found (u ∷ ts) n t c h = first_run_lem (run_in z full isClear u n) u ts n t c refl (found ts n t c) h

pub run-found : (z : Shape) (full : ℕ → ℕ) (isClear : ℕ → ℕ → Bool) (ts : List ℕ) (n t c : ℕ) → first_run z full isClear ts n ≡ At t c
    → Memᴰ t ts × (full t + 2 ≤ z.settings.slots) × (c + n ≤ z.settings.chunks)
    × ((i : ℕ) → c ≤ i → i < c + n → isClear t i ≡ true)
run-found z full isClear ts n t c h =
    let q : Memᴰ t ts × Takes z full isClear t c n = found z full isClear ts n t c h in
    (q.0, q.1.roomy, q.1.ends, q.1.clear)

-- ---- it depends on how many slots are full and which chunks are clear, in these tiers

module _ (z : Shape) (full full' : ℕ → ℕ) (isClear isClear' : ℕ → ℕ → Bool) where
  open z use {settings}
  open settings use {slots, chunks}

  clear-same : (t c n : ℕ) → Below chunks (λ i. isClear t i ≡ isClear' t i) → c + n ≤ chunks
      → clear_from z full isClear t c n ≡ clear_from z full' isClear' t c n
  unfolding clear_from
  clear-same t c zero e h = refl
  clear-same t c (suc n) e h =
      let here : isClear t c ≡ isClear' t c = e c (omega arith) in
      let there : clear_from z full isClear t (suc c) n ≡ clear_from z full' isClear' t (suc c) n = clear-same t (suc c) n e (omega arith) in
      λ i. elim (here i) [ true ↦ there i | false ↦ false ]

  lowest-same : (t n : ℕ) → Below chunks (λ i. isClear t i ≡ isClear' t i) → lowest_run z full isClear t n ≡ lowest_run z full' isClear' t n
  unfolding lowest_run
  lowest-same t n e =
      same_first (λ c. clear_from z full isClear t c n) (λ c. clear_from z full' isClear' t c n) (below (suc chunks - n))
      (λ c m. clear-same t c n e (omega (arith, span_in 0 (suc chunks - n) c m)))

  run_in_same : (t n : ℕ) → full t ≡ full' t → Below chunks (λ i. isClear t i ≡ isClear' t i)
      → run_in z full isClear t n ≡ run_in z full' isClear' t n
  unfolding run_in
  run_in_same t n e f =
      λ i. elim (leb (e i + 2) slots) [ false ↦ Nowhere | true ↦ from_lowest t (lowest-same t n f i) ]

pub run-same : (z : Shape) (full full' : ℕ → ℕ) (isClear isClear' : ℕ → ℕ → Bool) (ts : List ℕ) (n : ℕ)
    → Every ts (λ t. full t ≡ full' t)
    → Every ts (λ t. Below z.settings.chunks (λ i. isClear t i ≡ isClear' t i))
    → first_run z full isClear ts n ≡ first_run z full' isClear' ts n
unfolding first_run
run-same z full full' isClear isClear' [] n e f = refl
run-same z full full' isClear isClear' (t ∷ ts) n e f =
    let here : run_in z full isClear t n ≡ run_in z full' isClear' t n =
    run_in_same z full full' isClear isClear' t n (e t (mathlib.Core.List.Memᴰ.head refl)) (f t (mathlib.Core.List.Memᴰ.head refl)) in
    let there : first_run z full isClear ts n ≡ first_run z full' isClear' ts n =
    run-same z full full' isClear isClear' ts n (λ u m. e u (mathlib.Core.List.Memᴰ.tail m)) (λ u m. f u (mathlib.Core.List.Memᴰ.tail m)) in
    λ i. elim (here i) [ At u c ↦ At u c | Nowhere ↦ there i ]

-- in tiers that are not the old entry's it does not matter that this counts as removed
pub run-others : (z : Shape) (img : List ℕ) (old : Option Old) (ts : List ℕ) (n : ℕ) → Every ts (OtherTier old)
    → first_run z (full_but z img old) (clear_but z img old) ts n ≡ run_for z img ts n
unfolding run_for
run-others z img old ts n ne =
    run-same z (full_but z img old) (full_in z img) (clear_but z img old) (clear z img) ts n
    (λ t m. sym (full_else z img old t (ne t m)))
    (λ t m i h. sym (clear_else z img old t i (ne t m)))
