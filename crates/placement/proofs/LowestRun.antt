-- The loop for the lowest run of n clear chunks: no run starts before the clear chunks that end at i.
use Prim.Native.Nat.{ℕ, zero, suc, ◌+◌, ◌-◌, ◌≤◌, ◌<◌}
use mathlib.Core.Path.{◌≡◌, refl}
use mathlib.Core.Logic.{⊎_elim, ◌≢◌}
use mathlib.Core.Bool.{Bool, true, false}
use mathlib.Core.Option.{none, some}
use native.Mathlib.Omega.{arith}
use native.Mathlib.Nat.{zero-add}
use Rattle.lists.specs.Cases.{same_or, lt-or}
use Rattle.lists.specs.Lists.{below, first}
use Rattle.lists.specs.Quantify.{Below}
use Rattle.lists.proofs.Rows.{first-span-at, first-span-none}
use Rattle.layout.specs.declared.Shape.{Shape}
use Rattle.placement.specs.declared.Run.TheVariants.{At, Nowhere}
use Rattle.placement.specs.Runs.{clear_from, lowest_run, from_lowest}

module _ (z : Shape) (full : ℕ → ℕ) (isClear : ℕ → ℕ → Bool) (t : ℕ) where
  -- ---- a run is clear where each of its chunks is

  pub clear-from : (n c : ℕ) → ((k : ℕ) → c ≤ k → k < c + n → isClear t k ≡ true) → clear_from z full isClear t c n ≡ true
  unfolding clear_from
  clear-from zero c f = refl
  clear-from (suc n) c f = rw (clear_from, f c (omega arith) (omega arith)) (clear-from n (suc c) (λ k a b. f k (omega arith) (omega arith)))

  pub from-broken : (n c k : ℕ) → c ≤ k → k < c + n → isClear t k ≡ false → clear_from z full isClear t c n ≡ false
  unfolding clear_from
  from-broken zero c k a b e = absurd (omega arith)
  from-broken (suc n) c k a b e =
      ⊎_elim
      (λ (q : c ≡ k). rw (q, clear_from, e))
      (λ (q : c ≢ k). broken-after (isClear t c) (from-broken n (suc c) k (omega arith) (omega arith) e))
      (same_or c k)
    where
      broken-after : (b : Bool) {r : Bool} → r ≡ false → elim b [ true ↦ r | false ↦ false ] ≡ false
      broken-after true h = h
      broken-after false h = refl

  -- ---- the loop: `have` clear chunks end before chunk i, and no run starts before those

  module _ (n : ℕ) where
    pub record Running (have i : ℕ) : Type 0 where
      pub low : i ≤ z.settings.chunks
      pub fewer : have < n
      pub within : have ≤ i
      pub held : (k : ℕ) → i ≤ k + have → k < i → isClear t k ≡ true
      pub none_before : (c : ℕ) → c + have < i → clear_from z full isClear t c n ≡ false

    pub running-starts : 0 < n → {i : ℕ} → i ≤ z.settings.chunks → Below i (λ k. isClear t k ≡ false) → Running 0 i
    running-starts h l marked =
        record {
          low = l;
          fewer = h;
          within = omega arith;
          held = λ k a b. absurd (omega arith);
          none_before = λ c a. from-broken n c c (omega arith) (omega arith) (marked c (omega arith));
        }

    module _ {have i : ℕ} (w : Running have i) where
      -- every chunk is passed
      pub running-ends : z.settings.chunks ≤ i → Nowhere ≡ from_lowest t (lowest_run z full isClear t n)
      unfolding lowest_run from_lowest
      running-ends h =
          let g : first (below (suc z.settings.chunks - n)) (λ c. clear_from z full isClear t c n) ≡ none =
          first-span-none (λ c. clear_from z full isClear t c n) 0 (suc z.settings.chunks - n)
          (λ c l. rw zero-add (w.none_before c (omega (arith, w.low, w.fewer)))) in
          rw g

      module _ (h : i < z.settings.chunks) where
        pub running-broken : isClear t i ≡ false → Running 0 (i + 1)
        running-broken e =
            record {
              low = omega arith;
              fewer = omega (arith, w.fewer);
              within = omega arith;
              held = λ k a b. absurd (omega arith);
              none_before = λ c a.
                  ⊎_elim
                  (λ (q : c + have < i). w.none_before c q)
                  (λ (q : i ≤ c + have). from-broken n c i (omega arith) (omega (arith, w.fewer)) e)
                  (lt-or (c + have) i);
            }

        module _ (e : isClear t i ≡ true) where
          more-held : (k : ℕ) → i ≤ k + have → k < i + 1 → isClear t k ≡ true
          more-held k a b =
              ⊎_elim
              (λ (q : k ≡ i). rw (q, e))
              (λ (q : k ≢ i). w.held k a (omega arith))
              (same_or k i)

          pub running-turns : have + 1 ≢ n → Running (have + 1) (i + 1)
          running-turns ne =
              record {
                low = omega arith;
                fewer = omega (arith, w.fewer);
                within = omega (arith, w.within);
                held = λ k a b. more-held k (omega arith) b;
                none_before = λ c a. w.none_before c (omega arith);
              }

          pub running-found : have + 1 ≡ n → At t (i + 1 - n) ≡ from_lowest t (lowest_run z full isClear t n)
          unfolding lowest_run from_lowest
          running-found q =
              let k : ℕ = i + 1 - n in
              let ek : k + n ≡ i + 1 = omega (arith, w.within) in
              let g : first (below (suc z.settings.chunks - n)) (λ c. clear_from z full isClear t c n) ≡ some (0 + k) =
              first-span-at (λ c. clear_from z full isClear t c n) 0 (suc z.settings.chunks - n) k (omega arith)
              (λ c l. rw zero-add (w.none_before c (omega arith)))
              (rw zero-add (clear-from n k (λ m a b. more-held m (omega arith) (omega arith)))) in
              rw (g, zero-add)
