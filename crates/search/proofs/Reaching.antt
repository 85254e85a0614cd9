-- Runs of full slots: a full slot is reached exactly if it stands less far from its start slot than its run is long. And a walk from the
-- start slot, which compares keys.
use Prim.Native.Nat.{ℕ, suc, ◌+◌, ◌-◌, ◌≤◌, ◌<◌}
use mathlib.Core.List.{List}
use mathlib.Core.Path.{◌≡◌, ap, sym, ◌∙◌}
use mathlib.Core.Logic.{⊎_elim, ◌≢◌}
use mathlib.Core.Bool.{false}
use native.Mathlib.Omega.{arith}
use Rattle.lists.specs.Cases.{lt-or, same_or}
use Rattle.lists.specs.Quantify.{Below}
use Rattle.layout.specs.declared.Shape.{Shape}
use Rattle.probe.specs.Ring.{next, dist}
use Rattle.probe.proofs.Ring.{next-lt, dist-self, dist-lt, dist-up, dist-wrap, dist-zero, dist-sub, dist-back, dist-inj, dist-further, dist-nearer}
use Rattle.entries.specs.Keys.{start, slot_key}
use Rattle.entries.specs.Live.{slot_at}
use Rattle.search.specs.Search.{hits}
use Rattle.search.specs.Rules.{keyAt, start_at, Reached, SomeEmpty}
use Rattle.search.specs.Reach.{EndsFull, RunAt, RunTo}

module _ (z : Shape) (img : List ℕ) (t : ℕ) where
  open z use {settings}
  open settings use {slots}

  -- ---- the slots at the end

  module _ {n : ℕ} (e : EndsFull z img t n) where
    pub ends-empty : n < slots → SomeEmpty z img t
    ends-empty h = (slots - 1 - n, (omega arith, e.gap h))

    pub ends-full : slots ≤ n → SomeEmpty z img t → ⊥
    ends-full h x = e.full x.0 x.1.0 (omega arith) x.1.1

    -- they stand before slot 0
    pub run-starts : n < slots → RunTo z img t 0 n
    run-starts h pos f =
        record {
          full = λ k hk d. ⊎_elim
              (λ (q : k ≡ 0). rw q f)
              (λ (q : k ≢ 0). e.full k hk (omega (arith, dist-wrap slots k 0 (omega arith))))
              (same_or k 0);
          gap = slots - 1 - n;
          gap_in = omega arith;
          gap_empty = e.gap h;
          gap_at = ⊎_elim
              (λ (q : slots - 1 - n ≡ 0). absurd (f (ap (slot_at z img t) (sym q) ∙ e.gap h)))
              (λ (q : slots - 1 - n ≢ 0). omega (arith, dist-wrap slots (slots - 1 - n) 0 (omega arith)))
              (same_or (slots - 1 - n) 0);
        }

  -- ---- the next full slot

  module _ {j : ℕ} (hj : j < slots) (f : slot_at z img t j ≢ 0) where
    -- after an empty one
    pub run-begins : (i : ℕ) → j ≡ suc i → slot_at z img t i ≡ 0 → RunAt z img t j 1
    run-begins i q e =
        record {
          full = λ k hk d. rw (dist-zero slots hk hj (omega arith)) f;
          gap = i;
          gap_in = omega arith;
          gap_empty = e;
          gap_at = omega (arith, dist-up slots i j (omega arith));
        }

    -- the one after it
    pub run-next : {n : ℕ} → RunAt z img t j n → RunTo z img t (j + 1) n
    run-next {n} r hn fn =
        record {
          full = λ k hk d. ⊎_elim
              (λ (q : k ≡ j + 1). rw q fn)
              (λ (q : k ≢ j + 1). r.full k hk (omega (arith, one_less k hk q)))
              (same_or k (j + 1));
          gap = r.gap;
          gap_in = r.gap_in;
          gap_empty = r.gap_empty;
          gap_at = omega (arith, one_less r.gap r.gap_in (λ q. fn (ap (slot_at z img t) (sym q) ∙ r.gap_empty)), r.gap_at);
        }
      where
        one_less : (k : ℕ) → k < slots → k ≢ j + 1 → dist slots k (j + 1) ≡ dist slots k j + 1
        one_less k hk q =
            ⊎_elim
            (λ (l : k < j + 1). omega (arith, dist-up slots k j (omega arith), dist-up slots k (j + 1) (omega arith)))
            (λ (l : j + 1 ≤ k). omega (arith, dist-wrap slots k j (omega arith), dist-wrap slots k (j + 1) (omega arith)))
            (lt-or k (j + 1))

  pub run-few : {j n : ℕ} → j < slots → RunAt z img t j n → n < slots
  run-few hj r = omega (arith, r.gap_at, dist-lt slots r.gap_in hj)

  -- ---- reached

  module _ {j n : ℕ} (hj : j < slots) (hs : start_at z img t j < slots) (r : RunAt z img t j n) where
    pub run-reached : dist slots (start_at z img t j) j < n → Reached z img t j
    run-reached d k hk on = r.full k hk (omega (arith, dist-sub slots hs hk hj on))

    pub not-reached : n ≤ dist slots (start_at z img t j) j → Reached z img t j → ⊥
    not-reached d f = f r.gap r.gap_in (omega (arith, dist-back slots hs r.gap_in hj (omega (arith, r.gap_at)))) r.gap_empty

  -- ---- the loop of `full_at_end`

  -- the last n slots were met
  pub record Ending (n : ℕ) : Type 0 where
    pub few : n ≤ slots
    pub full : Below slots (λ k. slots ≤ k + n → slot_at z img t k ≢ 0)

  -- ---- the loop of `steps_left`

  module _ (j lookup : ℕ) where
    abbrev from : ℕ
    from = start_at z img t j

    -- the walk has come to slot i, and none before stood for the key of slot j
    pub record Walking (i : ℕ) : Type 0 where
      pub low : j < slots
      pub start_in : from < slots
      pub lt : i < slots
      pub on_the_way : dist slots from i ≤ dist slots from j
      pub others : Below slots (λ k. dist slots from k < dist slots from i → hits z img (keyAt z img t j) t (slot_at z img t k) ≡ false)

    pub walking_starts : j < slots → lookup ≡ slot_key settings (slot_at z img t j) → from < slots → (i : ℕ) → i ≡ start settings lookup
        → Walking i
    walking_starts hj is hs i e =
        let q : i ≡ from = e ∙ ap (start settings) is in
        let d : dist slots from i ≡ 0 = rw q (dist-self slots from) in
        record { low = hj; start_in = hs; lt = rw q hs; on_the_way = omega arith; others = λ k hk l. absurd (omega arith) }

    module _ {i : ℕ} (w : Walking i) where
      module _ (ne : i ≢ j) (two : 1 < slots) (i' : ℕ) (ei : i' ≡ next slots i) where
        pub walking_nearer : dist slots i j ≡ suc (dist slots i' j)
        walking_nearer = rw ei (dist-nearer slots w.lt w.low two ne)

        further : dist slots from i < dist slots from j
        further =
            ⊎_elim (λ l. l)
            (λ (l : dist slots from j ≤ dist slots from i).
            absurd (ne (dist-inj slots w.start_in w.lt w.low (omega (arith, w.on_the_way)))))
            (lt-or (dist slots from i) (dist slots from j))

        one_more : dist slots from i' ≡ suc (dist slots from i)
        one_more = rw ei (dist-further slots w.start_in w.lt two (omega (arith, further, dist-lt slots w.start_in w.low)))

        pub walking_turns : {v : ℕ} → v ≡ slot_at z img t i → hits z img (keyAt z img t j) t v ≡ false → Walking i'
        walking_turns ev n =
            record {
              low = w.low;
              start_in = w.start_in;
              lt = rw ei (next-lt slots w.lt);
              on_the_way = omega (arith, one_more, further);
              others = λ k hk l. ⊎_elim
                  (λ (d : dist slots from k < dist slots from i). w.others k hk d)
                  (λ (d : dist slots from i ≤ dist slots from k).
                  let here : k ≡ i = dist-inj slots w.start_in hk w.lt (omega (arith, one_more)) in
                  rw (here, ← ev) n)
                  (lt-or (dist slots from k) (dist slots from i));
            }
