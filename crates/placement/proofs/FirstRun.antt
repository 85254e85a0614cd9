-- The run that a tier, or the first of some tiers, has for an entry, found as the code looks for it.
use Prim.Native.Nat.{ℕ, suc, ◌+◌, ◌-◌, ◌≤◌, ◌<◌}
use mathlib.Core.List.Memᴰ
use mathlib.Core.List.{List, [], ◌∷◌, ◌++◌}
use mathlib.Core.Path.{◌≡◌, refl, ap, sym, ◌∙◌}
use mathlib.Core.Logic.{◌≢◌}
use mathlib.Core.Bool.{Bool}
use native.Mathlib.Omega.{arith}
use borrow.Author.Tests.{le-leb, lt-leb}
use Rattle.lists.specs.Quantify.{Every}
use Rattle.links.proofs.Follow.{follow-none, follow-more, follow-out}
use Rattle.layout.specs.declared.Shape.{Shape}
use Rattle.layout.specs.Tiers.{tiers, IsTier}
use Rattle.chains.specs.Chains.{next_of}
use Rattle.chunks.specs.Chunks.{LowMarkFits}
use Rattle.placement.specs.declared.Run.{Run}
use Rattle.placement.specs.declared.Run.TheVariants.{At, Nowhere}
use Rattle.placement.specs.Runs.{from_lowest, lowest_run, run_in, first_run}
use Rattle.placement.specs.Asking.{tiers_from}

-- a run, or another where it is nowhere
abbrev or_else : Run → Run → Run
or_else r q = elim r [ At u c ↦ At u c | Nowhere ↦ q ]

append-by : (r a b q : Run) → a ≡ or_else b q → or_else r a ≡ or_else (or_else r b) q
append-by (At u c) a b q e = refl
append-by Nowhere a b q e = e

module _ (z : Shape) (full : ℕ → ℕ) (isClear : ℕ → ℕ → Bool) where
  -- ---- a tier

  pub run-full : (t n : ℕ) → z.settings.slots < full t + 2 → Nowhere ≡ run_in z full isClear t n
  unfolding run_in
  run-full t n h = rw (run_in, lt-leb (full t + 2) z.settings.slots h)

  pub run-lowest : (t n : ℕ) → full t + 2 ≤ z.settings.slots → from_lowest t (lowest_run z full isClear t n) ≡ run_in z full isClear t n
  unfolding run_in
  run-lowest t n h = rw (run_in, le-leb (full t + 2) z.settings.slots h)

  -- ---- a tier in front of others

  pub first-none : (n : ℕ) → first_run z full isClear [] n ≡ Nowhere
  unfolding first_run
  first-none n = refl

  pub first_found : (t : ℕ) (ts : List ℕ) (n u c : ℕ) → run_in z full isClear t n ≡ At u c → first_run z full isClear (t ∷ ts) n ≡ At u c
  unfolding first_run
  first_found t ts n u c e = rw (first_run, e)

  pub first_next : (t : ℕ) (ts : List ℕ) (n : ℕ) → run_in z full isClear t n ≡ Nowhere
      → first_run z full isClear (t ∷ ts) n ≡ first_run z full isClear ts n
  unfolding first_run
  first_next t ts n e = rw (first_run, e)

  -- ---- tiers in front of others: the first of them that takes it, or else the first of the others

  first-append : (front ts : List ℕ) (n : ℕ)
      → first_run z full isClear (front ++ ts) n ≡ or_else (first_run z full isClear front n) (first_run z full isClear ts n)
  unfolding first_run
  first-append [] ts n = refl
  first-append (t ∷ front) ts n =
      append-by (run_in z full isClear t n) (first_run z full isClear (front ++ ts) n) (first_run z full isClear front n)
      (first_run z full isClear ts n) (first-append front ts n)

  module _ (front ts : List ℕ) (n : ℕ) where
    pub first-kept : (u c : ℕ) → first_run z full isClear front n ≡ At u c → first_run z full isClear (front ++ ts) n ≡ At u c
    first-kept u c e = first-append front ts n ∙ rw e

    pub first_passes : first_run z full isClear front n ≡ Nowhere → first_run z full isClear (front ++ ts) n ≡ first_run z full isClear ts n
    first_passes e = first-append front ts n ∙ rw e

  pub first_one : (t n : ℕ) → first_run z full isClear (t ∷ []) n ≡ run_in z full isClear t n
  first_one t n = one-by (run_in z full isClear t n) refl
    where
      one-by : (r : Run) → run_in z full isClear t n ≡ r → first_run z full isClear (t ∷ []) n ≡ r
      one-by (At u c) e = first_found t [] n u c e
      one-by Nowhere e = first_next t [] n e ∙ first-none n

  -- ---- a loop along the links: the tiers that are left give what all of them give

  module _ (img : List ℕ) (n : ℕ) where
    pub record Seeking (r : Run) (most t k : ℕ) : Type 0 where
      pub most_is : most ≡ tiers z
      pub is : first_run z full isClear (tiers_from z img t k) n ≡ r
      pub tiers_of : Every (tiers_from z img t k) (IsTier z)
      pub low_marks : Every (tiers_from z img t k) (LowMarkFits z img)

    module _ {r : Run} {most t k : ℕ} (w : Seeking r most t k) where
      none_left : tiers_from z img t k ≡ [] → Nowhere ≡ r
      none_left e = sym (first-none n) ∙ ap (λ (ts : List ℕ). first_run z full isClear ts n) (sym e) ∙ w.is

      pub seeking-ends : t ≡ 0 → Nowhere ≡ r
      seeking-ends e = none_left (rw e (follow-none (next_of z img) (tiers z - k)))

      pub seeking-out : most ≤ k → Nowhere ≡ r
      seeking-out h = let e : tiers z - k ≡ 0 = omega (arith, w.most_is) in none_left (rw e (follow-out (next_of z img) t))

      module _ (h : k < most) (ne : t ≢ 0) where
        more : tiers_from z img t k ≡ t ∷ tiers_from z img (next_of z img t) (k + 1)
        more =
            let e : tiers z - k ≡ suc (tiers z - (k + 1)) = omega (arith, w.most_is) in
            rw e (follow-more (next_of z img) (tiers z - (k + 1)) t ne)

        pub seeking-tier : IsTier z t × LowMarkFits z img t
        seeking-tier = (w.tiers_of t (rw more (Memᴰ.head refl)), w.low_marks t (rw more (Memᴰ.head refl)))

        left_is : first_run z full isClear (t ∷ tiers_from z img (next_of z img t) (k + 1)) n ≡ r
        left_is = ap (λ (ts : List ℕ). first_run z full isClear ts n) (sym more) ∙ w.is

        pub seeking-found : (u c : ℕ) → run_in z full isClear t n ≡ At u c → At u c ≡ r
        seeking-found u c f = sym (first_found t _ n u c f) ∙ left_is

        pub seeking-turns : {u : ℕ} → run_in z full isClear t n ≡ Nowhere → u ≡ next_of z img t → Seeking r most u (k + 1)
        seeking-turns f e =
            rw e
            (record {
              most_is = w.most_is;
              is = sym (first_next t _ n f) ∙ left_is;
              tiers_of = λ v m. w.tiers_of v (rw more (Memᴰ.tail m));
              low_marks = λ v m. w.low_marks v (rw more (Memᴰ.tail m));
            })
