-- The entries of a tier's full slots, counted at their chunks one by one.
use Prim.Native.Nat.{ℕ, suc, ◌+◌, ◌-◌, ◌≤◌, ◌<◌}
use mathlib.Core.List.{List, [], ◌∷◌, ◌++◌, map, flat_map, Memᴰ, map-append}
use mathlib.Core.Path.{◌≡◌, refl, ap, ap₂, sym, ◌∙◌, subst}
use mathlib.Core.Logic.{⊎_elim, ◌≢◌}
use mathlib.Core.Bool.{Bool, true, not}
use native.Mathlib.Omega.{arith}
use native.Mathlib.Numerals.{add-one}
use lib.Dec.{eqb}
use lib.ListN.{length, length-map, get_or, take, drop, get_or-eq_default}
use lib.Seq.{take-suc, take_all, split_at, drop-cons, get_or-take, length-take-le}
use borrow.Author.Tests.{eqb-true, not-false}
use Rattle.lists.specs.Cases.{lt-or, same_or}
use Rattle.lists.specs.Lists.{span, below, those}
use Rattle.lists.specs.Quantify.{Every, every-none}
use Rattle.lists.proofs.Members.{every_more}
use Rattle.lists.proofs.Rows.{FirstOf, those-first}
use Rattle.lists.proofs.Lists.{how_many-le, length-span}
use Rattle.layout.specs.declared.Shape.{Shape}
use Rattle.chains.specs.Walk.{tally, MetAtMost}
use Rattle.chains.proofs.Tally.{tally-append, length-tally, get_or-tally}
use Rattle.entries.specs.declared.Live.{Live}
use Rattle.entries.specs.Live.{slot_at, full_slots, live_at, live_in}
use Rattle.entries.proofs.LiveLists.{full_slots_in}
use Rattle.std.specs.Prelude.{Option, Some, None}
use Rattle.search.specs.declared.reach.Run.{Run}
use Rattle.search.specs.Rules.{EntryFits}
use Rattle.search.specs.Reach.{RunOn, RunAt, RunTo, Alone}
use Rattle.search.specs.Landing.{SlotHolds, SlotSays}
use Rattle.search.proofs.Reaching.{run-begins, run-next, run-few}
use Rattle.chunks.specs.Chunks.{covers}
use Rattle.chunks.specs.Counting.{chunks_of_entry, chunks_of_all}
use Rattle.chunks.proofs.Covering.{covered-by, chunks_of_all-more}
use Rattle.contents.specs.Counting.{Lists, Covers}
use Rattle.contents.specs.Asking.{BeforeFirst}

-- the listed slots by themselves, as the code cuts them out
pub lists-cut : {z : Shape} {img : List ℕ} {t : ℕ} {list : List ℕ} {full : ℕ} → Lists z img t list full
    → Lists z img t (take full list) (length (take full list))
lists-cut {list = list} {full = full} l =
    record { are = take_all _ (take full list) (omega arith) ∙ l.are; within = omega arith }

module _ (z : Shape) (img : List ℕ) (t : ℕ) {list : List ℕ} {full : ℕ} (l : Lists z img t list full) where
  open z use {settings}
  open settings use {slots}

  long : length (take full list) ≡ full
  long = length-take-le full list l.within

  -- the i-th listed slot is one of the full slots
  listed_in : (i : ℕ) → i < full → Memᴰ (get_or list i 0) (full_slots z img t)
  listed_in i h =
      let m : Memᴰ (get_or (take full list) i 0) (take i (take full list) ++ get_or (take full list) i 0 ∷ drop (suc i) (take full list)) =
      mathlib.Core.List.Memᴰ.append_right (take i (take full list)) (mathlib.Core.List.Memᴰ.head {xs = drop (suc i) (take full list)} refl) in
      let q : Memᴰ (get_or (take full list) i 0) (take full list) =
      subst (Memᴰ (get_or (take full list) i 0)) (sym (split_at (take full list) i 0 (omega (arith, long)))) m in
      subst (Memᴰ (get_or list i 0)) l.are (subst (λ (x : ℕ). Memᴰ x (take full list)) (get_or-take full list i 0 h) q)

  pub listed : (i : ℕ) → i < full → (get_or list i 0 < slots) × (slot_at z img t (get_or list i 0) ≢ 0)
  listed i h = full_slots_in z img t (get_or list i 0) (listed_in i h)

  pub full_is : full ≡ length (full_slots z img t)
  full_is = sym long ∙ ap length l.are

  pub full-few : full ≤ slots
  unfolding full_slots
  full-few = omega (arith, full_is, how_many-le (λ j. not (eqb (slot_at z img t j) 0)) (below slots), length-span 0 slots)

module _ (z : Shape) (img : List ℕ) (s t : ℕ) (list : List ℕ) (full : ℕ) where
  open z use {settings}
  open settings use {slots, chunks}

  abbrev live_upto : ℕ → List Live
  live_upto i = map (live_at z img s t) (take i list)

  -- slot j is full
  abbrev is_full : ℕ → Bool
  is_full j = not (eqb (slot_at z img t j) 0)

  -- the first i of the listed slots were covered, and `left` steps are left; the others are the full slots from the run's next one on
  pub record Covering (before now : List ℕ) (run : Run) (left i : ℕ) : Type 0 where
    pub low : i ≤ full
    pub held : Every (take i list) (SlotHolds z img s t)
    pub counted : now ≡ tally before (chunks_of_all (live_upto i))
    pub alone : 0 < left → Every (take i list) (Alone z img t)
    pub next_in : run.next ≤ slots
    pub rest : drop i (take full list) ≡ those (span run.next (slots - run.next)) is_full
    pub short : run.length < slots
    pub run_to : RunTo z img t run.next run.length

  pub covering-starts : (before : List ℕ) {first : Run} {steps : ℕ} → Lists z img t list full → BeforeFirst z img t first
      → Covering before before first steps 0
  unfolding chunks_of_all flat_map tally full_slots
  covering-starts before l f =
      record {
        low = omega arith;
        held = every-none (SlotHolds z img s t);
        counted = refl;
        alone = λ _. every-none (Alone z img t);
        next_in = omega (arith, f.next_is);
        rest = let all : slots - 0 ≡ slots = omega arith in rw (f.next_is, all) l.are;
        short = f.short;
        run_to = rw f.next_is f.run;
      }

  module _ {before now : List ℕ} {run : Run} {left i : ℕ} (w : Covering before now run left i) where
    pub covering-long : length now ≡ length before
    covering-long = ap length w.counted ∙ length-tally before (chunks_of_all (live_upto i))

    module _ (l : Lists z img t list full) where
      -- no chunk is counted more often than there are slots
      pub covering-small : MetAtMost before 0 → slots ≤ 4096 → MetAtMost now 4096
      covering-small zeros f k =
          ⊎_elim
          (λ (h : k < length before).
          omega (
            arith,
            ap (λ (r : List ℕ). get_or r k 0) w.counted,
            get_or-tally before (chunks_of_all (live_upto i)) k h,
            zeros k,
            covered-by k (live_upto i),
            how_many-le (covers k) (live_upto i),
            length-map (take i list) (live_at z img s t),
            length-take-le i list (omega (arith, w.low, l.within)),
            w.low,
            full-few z img t l,
          ))
          (λ (h : length before ≤ k).
          let q : length now ≤ k = omega (arith, covering-long) in
          rw (get_or-eq_default now 0 q) (omega arith))
          (lt-or k (length before))

      module _ (h : i < full) where
        one_more : take (i + 1) list ≡ take i list ++ (get_or list i 0 ∷ [])
        one_more = ap (λ (k : ℕ). take k list) (add-one i) ∙ take-suc list i 0 (omega (arith, l.within))

        -- the listed slot is the first full one from the run's next on
        first : FirstOf is_full run.next (slots - run.next) (get_or list i 0) (drop (suc i) (take full list))
        first =
            those-first is_full run.next (slots - run.next) (get_or list i 0) (drop (suc i) (take full list))
            (sym w.rest ∙ drop-cons (take full list) i 0 (omega (arith, length-take-le full list l.within))
            ∙ ap (λ (x : ℕ). x ∷ drop (suc i) (take full list)) (get_or-take full list i 0 h))

        -- its run
        module _ {r : Run} (on : RunOn run (get_or list i 0) r) where
          pub run-here : RunAt z img t (get_or list i 0) r.length
          run-here =
              let j : ℕ = get_or list i 0 in
              let is : (j < slots) × (slot_at z img t j ≢ 0) = listed z img t l i h in
              ⊎_elim
              (λ (q : j ≡ run.next).
              rw (on.goes_on q)
              (subst (λ (x : ℕ). RunAt z img t x (run.length + 1)) (sym q) (w.run_to (omega (arith, is.0)) (λ e. is.1 (ap (slot_at z img t) q ∙ e)))))
              (λ (q : j ≢ run.next).
              let gap : eqb (slot_at z img t (j - 1)) 0 ≡ true =
              not-false _ (first.skipped (j - 1) (omega (arith, first.from)) (omega (arith, first.from))) in
              rw (on.begins q) (run-begins z img t is.0 is.1 (j - 1) (omega (arith, first.from)) (eqb-true _ _ gap)))
              (same_or j run.next)

          run_short : r.length < slots
          run_short = run-few z img t (listed z img t l i h).0 run-here

          -- what the slot's rules gave, with the equation that the answer is taken by
          module _ (x : Option (ℕ × ℕ)) (q : SlotSays z img (SlotHolds z img s t (get_or list i 0)) t (get_or list i 0) x) where
            pub covering-lost : x ≡ None → Every (full_slots z img t) (SlotHolds z img s t) → ⊥
            covering-lost e f =
                subst (SlotSays z img (SlotHolds z img s t (get_or list i 0)) t (get_or list i 0)) e q (f (get_or list i 0) (listed_in z img t l i h))

            module _ (c n : ℕ) (e : x ≡ Some (c, n)) where
              told : SlotSays z img (SlotHolds z img s t (get_or list i 0)) t (get_or list i 0) (Some (c, n))
              told = subst (SlotSays z img (SlotHolds z img s t (get_or list i 0)) t (get_or list i 0)) e q

              pub entry_in : EntryFits z img s t (get_or list i 0)
              entry_in = told.0.0

              pub range_in : c + n ≤ chunks
              range_in = omega (arith, told.0.0.range_ends, told.1.0, told.1.1)

              pub covering-turns : {next : List ℕ} → next ≡ tally now (span c n) → {left' : ℕ}
                  → (0 < left' → Alone z img t (get_or list i 0)) → (0 < left' → 0 < left) → Covering before next r left' (i + 1)
              unfolding live_at
              covering-turns {next} eq {left'} alone less =
                  let j : ℕ = get_or list i 0 in
                  let is : (j < slots) × (slot_at z img t j ≢ 0) = listed z img t l i h in
                  let live : live_upto (i + 1) ≡ live_upto i ++ (live_at z img s t j ∷ []) =
                  ap (map (live_at z img s t)) one_more ∙ map-append (live_at z img s t) (take i list) (j ∷ []) in
                  let same : span c n ≡ chunks_of_entry (live_at z img s t j) = rw (told.1.0, told.1.1) refl in
                  record {
                    low = omega arith;
                    held = rw one_more (every_more (take i list) j w.held told.0);
                    counted =
                        eq ∙ ap (λ (x : List ℕ). tally x (span c n)) w.counted ∙ ap (tally (tally before (chunks_of_all (live_upto i)))) same ∙
                        sym (tally-append before (chunks_of_all (live_upto i)) (chunks_of_entry (live_at z img s t j))) ∙
                        ap (tally before) (sym (ap chunks_of_all live ∙ chunks_of_all-more (live_upto i) (live_at z img s t j)));
                    alone = λ pos. rw one_more (every_more (take i list) j (w.alone (less pos)) (alone pos));
                    next_in = omega (arith, on.next_is, is.0);
                    rest =
                        ap (λ (k : ℕ). drop k (take full list)) (add-one i) ∙ first.after ∙
                        ap₂ (λ (a b : ℕ). those (span a b) is_full) (omega (arith, on.next_is)) (omega (arith, on.next_is, w.next_in));
                    short = run_short;
                    run_to = rw on.next_is (run-next z img t is.0 is.1 run-here);
                  }

      pub covering-ends : full ≤ i → {apart : Bool} → (apart ≡ true → 0 < left) → Covers z img s t before now (Some apart)
      unfolding live_in
      covering-ends h known =
          let e : i ≡ full = omega (arith, w.low) in
          let all : take i list ≡ full_slots z img t = ap (λ (k : ℕ). take k list) e ∙ l.are in
          record {
            held = subst (λ (x : List ℕ). Every x (SlotHolds z img s t)) all w.held;
            counted = w.counted ∙ ap (λ (x : List ℕ). tally before (chunks_of_all (map (live_at z img s t) x))) all;
            alone = λ q. subst (λ (x : List ℕ). Every x (Alone z img t)) all (w.alone (known q));
          }
