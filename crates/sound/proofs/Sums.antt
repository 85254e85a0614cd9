-- Sums over a tier's slots and over the live entries.
use Prim.Native.Nat.{ℕ, zero, suc, ◌+◌, ◌<◌}
use mathlib.Core.List.{List, [], ◌∷◌, ◌++◌}
use mathlib.Core.Path.{◌≡◌, refl, ap, sym, ◌∙◌}
use mathlib.Core.Logic.{⊎_elim, ◌≢◌}
use mathlib.Core.Bool.{true, false, not}
use native.Mathlib.Omega.{arith}
use native.Mathlib.Nat.{zero-add}
use lib.Dec.{eqb}
use lib.ListN.{length}
use borrow.Author.Tests.{eq-eqb, ne_eqb}
use Rattle.lists.specs.Cases.{same_or}
use Rattle.lists.specs.Lists.{span, below, those, total}
use Rattle.lists.specs.Quantify.{Below}
use Rattle.lists.proofs.Lists.{span_in, span_more, total-append}
use Rattle.lists.proofs.Rows.{how_many-span_in}
use Rattle.layout.specs.declared.Shape.{Shape}
use Rattle.chains.specs.Chains.{chain, chained}
use Rattle.probe.specs.Table.{Table, slot_total}
use Rattle.entries.specs.declared.Live.{Live}
use Rattle.entries.specs.Live.{slot_at, full_slots, entry_at, live_at, live_in, live_of, live}
use Rattle.search.specs.Search.{slots_of}
use Rattle.entries.specs.Pairs.{Pair, pair_of, pairs_of}
use Rattle.sound.proofs.Values.{pair_for, if_full, full_is, empty-is, weigh}
use Rattle.lists.proofs.Totals.{total-map, total_flat_map, total-same, total-change, those-total, length-total}

-- ---- over a tier's slots

module _ {M : Type 0} (𝓣 : Table M) (m : M) where
  open 𝓣 use {get}

  -- slot by slot
  as_list : (f : ℕ → ℕ) (n : ℕ) → slot_total 𝓣 f m n ≡ total (below n) (λ j. f (get m j))
  unfolding slot_total total span
  as_list f zero = refl
  as_list f (suc n) =
      let g : ℕ → ℕ = λ j. f (get m j) in
      let more : below (suc n) ≡ below n ++ (n ∷ []) = rw (span_more 0 n, zero-add) in
      omega (arith, ap (λ (r : List ℕ). total r g) more, total-append g (below n) (n ∷ []), as_list f n)

  -- over the full ones of the first n slots
  full-slots : (g f : ℕ → ℕ) (n : ℕ) → Below n (λ j. get m j ≢ 0 → g j ≡ f (get m j))
      → total (those (below n) (λ j. not (eqb (get m j) 0))) g ≡ slot_total 𝓣 (if_full f) m n
  full-slots g f n e =
      those-total (λ j. not (eqb (get m j) 0)) g (below n)
      ∙ total-same (below n) (λ j. if_full f (get m j)) (λ j. elim (not (eqb (get m j) 0)) [ true ↦ g j | false ↦ 0 ])
      (λ j k.
      ⊎_elim
      (λ (q : get m j ≡ 0). rw (eq-eqb (get m j) 0 q) (sym (empty-is f (get m j) q)))
      (λ (q : get m j ≢ 0). rw (ne_eqb (get m j) 0 q) (e j (omega (arith, span_in 0 n j k)) q ∙ sym (full_is f (get m j) q)))
      (same_or (get m j) 0))
      ∙ sym (as_list (if_full f) n)

module _ (z : Shape) (img : List ℕ) where
  pub full-total : (t : ℕ) → length (full_slots z img t) ≡ slot_total (slots_of z t) (if_full (λ v. 1)) img z.settings.slots
  unfolding full_slots
  full-total t = length-total (full_slots z img t) ∙ full-slots (slots_of z t) img (λ _. 1) (λ _. 1) z.settings.slots (λ j l h. refl)

  -- a sum over a tier's live entries, of what the slots' numbers alone give
  pub live_in_total : (s t : ℕ) (g : Live → ℕ) (f : ℕ → ℕ)
      → Below z.settings.slots (λ j. slot_at z img t j ≢ 0 → g (live_at z img s t j) ≡ f (slot_at z img t j))
      → total (live_in z img s t) g ≡ slot_total (slots_of z t) (if_full f) img z.settings.slots
  unfolding full_slots live_in
  live_in_total s t g f e =
      total-map (live_at z img s t) (full_slots z img t) g ∙ full-slots (slots_of z t) img (λ j. g (live_at z img s t j)) f z.settings.slots e

  -- the key and record of a live entry are those that its slot's number names
  live-pair : (F : Pair → ℕ) (s t : ℕ) → total (live_in z img s t) (λ e. F (pair_of img e)) ≡ weigh z img F t
  unfolding weigh live_at entry_at
  live-pair F s t = live_in_total s t (λ e. F (pair_of img e)) (λ v. F (pair_for z img t v)) (λ j l h. refl)

  pub pairs-total : (F : Pair → ℕ) → total (pairs_of z img) F ≡ total (chained z img) (weigh z img F)
  unfolding pairs_of live live_of chained
  pairs-total F =
      let G : Live → ℕ = λ e. F (pair_of img e) in
      let W : ℕ → ℕ = weigh z img F in
      let ss : List ℕ = below z.settings.segments in
      let one : (s : ℕ) → total (live_of z img s) G ≡ total (chain z img s) W =
      λ s. total_flat_map (live_in z img s) (chain z img s) G ∙ total-same (chain z img s) W (λ t. total (live_in z img s t) G) (λ t m. live-pair F s t) in
      total-map (pair_of img) (live z img) F ∙
      (total_flat_map (live_of z img) ss G ∙
      (total-same ss (λ s. total (chain z img s) W) (λ s. total (live_of z img s) G) (λ s m. one s) ∙
      sym (total_flat_map (chain z img) ss W)))

-- ---- two tables that agree slot by slot

module _ (z : Shape) (t : ℕ) (img img' : List ℕ) (f f' : ℕ → ℕ)
    (same : Below z.settings.slots (λ j. slot_at z img' t j ≡ slot_at z img t j)) where
  open z use {settings}
  open settings use {slots}

  abbrev now : ℕ
  now = slot_total (slots_of z t) (if_full f') img' slots

  abbrev before : ℕ
  before = slot_total (slots_of z t) (if_full f) img slots

  -- a slot adds the same if the two agree on the number that it holds
  adds_same : (j : ℕ) → j < slots → (slot_at z img t j ≢ 0 → f' (slot_at z img t j) ≡ f (slot_at z img t j))
      → if_full f' (slot_at z img' t j) ≡ if_full f (slot_at z img t j)
  adds_same j h e =
      ap (if_full f') (same j h)
      ∙ ⊎_elim
      (λ (q : slot_at z img t j ≡ 0). empty-is f' (slot_at z img t j) q ∙ sym (empty-is f (slot_at z img t j) q))
      (λ (q : slot_at z img t j ≢ 0). full_is f' (slot_at z img t j) q ∙ e q ∙ sym (full_is f (slot_at z img t j) q))
      (same_or (slot_at z img t j) 0)

  -- they have the same sums, of what is the same for each number that a slot holds
  pub table_same : Below slots (λ j. slot_at z img t j ≢ 0 → f' (slot_at z img t j) ≡ f (slot_at z img t j)) → now ≡ before
  table_same e =
      as_list (slots_of z t) img' (if_full f') slots
      ∙ total-same (below slots) (λ j. if_full f (slot_at z img t j)) (λ j. if_full f' (slot_at z img' t j))
      (λ j m. let h : j < slots = omega (arith, span_in 0 slots j m) in adds_same j h (e j h))
      ∙ sym (as_list (slots_of z t) img (if_full f) slots)

  -- of what is the same for each slot but one
  pub table-change : (j : ℕ) → j < slots → slot_at z img t j ≢ 0
      → Below slots (λ k. k ≢ j → slot_at z img t k ≢ 0 → f' (slot_at z img t k) ≡ f (slot_at z img t k))
      → now + f (slot_at z img t j) ≡ before + f' (slot_at z img t j)
  table-change j hj full e =
      omega (
        arith,
        as_list (slots_of z t) img' (if_full f') slots,
        as_list (slots_of z t) img (if_full f) slots,
        total-change (below slots) j (λ k. if_full f (slot_at z img t k)) (λ k. if_full f' (slot_at z img' t k))
            (how_many-span_in 0 slots j (omega arith) (omega arith))
            (λ k m ne. let h : k < slots = omega (arith, span_in 0 slots k m) in adds_same k h (e k h ne)),
        full_is f (slot_at z img t j) full,
        ap (if_full f') (same j hj) ∙ full_is f' (slot_at z img t j) full,
      )
