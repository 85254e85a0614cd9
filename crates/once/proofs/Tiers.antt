-- The tiers of a chain before one of them, and a loop along the chain.
use Prim.Native.Nat.{ℕ, suc, ◌+◌, ◌-◌, ◌*◌, ◌≤◌, ◌<◌}
use mathlib.Core.Path.{◌≡◌, refl, ap, sym}
use mathlib.Core.List.Memᴰ
use mathlib.Core.List.{List, [], ◌∷◌, ◌++◌, Memᴰ}
use mathlib.Core.Bool.{true, false}
use mathlib.Core.Logic.{⊎_elim, ◌≢◌}
use native.Mathlib.Omega.{arith}
use native.Mathlib.Numerals.{add-one}
use lib.Dec.{eqb}
use lib.ListN.{length, length-append}
use borrow.Author.Tests.{eqb-false, eq-eqb, ne_eqb}
use Rattle.lists.specs.Cases.{by-test}
use Rattle.lists.specs.Quantify.{Every}
use Rattle.links.specs.Links.{Linked, follow as links_follow}
use Rattle.links.proofs.Once.{linked-apart}
use Rattle.links.proofs.Along.{Along, along-starts, along-ends, along-splits, along_in, along-turns, along-goes, along-less}
use Rattle.layout.specs.declared.Shape.{Shape}
use Rattle.layout.specs.Tiers.{tiers}
use Rattle.chains.specs.Chains.{next_of, follow, chain, ChainFits}
use Rattle.chains.proofs.Linked.{linked-chain}
use Rattle.once.specs.Walk.{before}

-- ---- those before t

pub before-not : (t : ℕ) (l : List ℕ) → Memᴰ t (before t l) → ⊥
unfolding before
before-not t [] m = Memᴰ.not-nil m
before-not t (x ∷ l) m =
    by-test (eqb x t)
    (λ (e : eqb x t ≡ true). Memᴰ.not-nil (rw (e, before) at m))
    (λ (e : eqb x t ≡ false).
    ⊎_elim (λ (q : t ≡ x). eqb-false x t e (sym q)) (λ k. before-not t l k) (Memᴰ.cases_cons (rw (e, before) at m)))

pub before_in : (t : ℕ) (l : List ℕ) (u : ℕ) → Memᴰ u (before t l) → Memᴰ u l
unfolding before
before_in t [] u m = m
before_in t (x ∷ l) u m =
    by-test (eqb x t)
    (λ (e : eqb x t ≡ true). absurd (Memᴰ.not-nil (rw (e, before) at m)))
    (λ (e : eqb x t ≡ false).
    ⊎_elim (λ (q : u ≡ x). Memᴰ.head q) (λ k. Memᴰ.tail (before_in t l u k)) (Memᴰ.cases_cons (rw (e, before) at m)))

before-is : (t : ℕ) (xs ys : List ℕ) → Every xs (λ x. x ≢ t) → before t (xs ++ (t ∷ ys)) ≡ xs
unfolding before
before-is t [] ys f = rw (eq-eqb t t refl, before)
before-is t (x ∷ xs) ys f =
    rw (ne_eqb x t (f x (Memᴰ.head refl)), before) (ap (λ (r : List ℕ). x ∷ r) (before-is t xs ys (λ y m. f y (Memᴰ.tail m))))

-- ---- a loop along segment s's chain: the tiers of done were met, the next is t

module _ (z : Shape) (img : List ℕ) (s : ℕ) where
  abbrev pub AlongTiers : List ℕ → ℕ → Type 0
  AlongTiers done t = Along (next_of z img) (tiers z) (suc s) done t

  pub tiers-start : AlongTiers [] (s + 1)
  tiers-start = rw (add-one s) (along-starts (next_of z img) (tiers z) (suc s))

  module _ (fits : ChainFits z img s) {done : List ℕ} {t : ℕ} (w : AlongTiers done t) where
    pub tiers-end : t ≡ 0 → done ≡ chain z img s
    unfolding chain
    tiers-end e = along-ends w e

    module _ (ne : t ≢ 0) where
      low : length done < tiers z
      low = along-goes w fits.ends ne

      pub tiers_in_lem : Memᴰ t (chain z img s)
      unfolding chain
      tiers_in_lem = along_in w low ne

      pub tiers-turn : {u : ℕ} → u ≡ next_of z img t → AlongTiers (done ++ (t ∷ [])) u
      tiers-turn e = along-turns w low ne e

      pub tiers-less : {u : ℕ} → u ≡ next_of z img t → length (follow z img (tiers z) u) < length (follow z img (tiers z) t)
      tiers-less e = along-less w fits.ends ne e

      -- none of those met is t
      pub tiers-before : before t (chain z img s) ≡ done
      unfolding chain
      tiers-before =
          let rest : List ℕ = links_follow (next_of z img) (tiers z - suc (length done)) (next_of z img t) in
          let splits : chain z img s ≡ done ++ (t ∷ rest) = along-splits w low ne in
          let linked : Linked (next_of z img) (suc s) (done ++ (t ∷ rest)) = rw splits at (linked-chain z img s fits) in
          rw splits (before-is t done rest (λ x m. linked-apart done (t ∷ rest) linked m (Memᴰ.head refl)))

  -- the loop that counts full slots: at most 4,096 in each of the tiers that were met
  pub record Counting (n t : ℕ) : Type 0 where
    pub done : List ℕ
    pub along : AlongTiers done t
    pub few : n ≤ length done * 4096

  pub counting-starts : Counting 0 (s + 1)
  counting-starts = record { done = []; along = tiers-start; few = omega arith }

  pub counting-small : {n t : ℕ} → tiers z ≤ 1024 → Counting n t → n ≤ 4194304
  counting-small h w = omega (arith, w.few, w.along.low)

  pub counting-turns : ChainFits z img s → {n t : ℕ} → (w : Counting n t) → t ≢ 0 → {k u : ℕ} → k ≤ 4096 → u ≡ next_of z img t
      → Counting (n + k) u
  counting-turns fits {n} {t} w ne h e =
      record {
        done = w.done ++ (t ∷ []);
        along = tiers-turn fits w.along ne e;
        few = omega (arith, w.few, length-append w.done (t ∷ []));
      }
