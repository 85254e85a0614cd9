-- Laws of counting tiers.
use Prim.Native.Nat.{ℕ, ◌+◌, ◌≤◌, ◌<◌}
use mathlib.Core.List.{List, [], ◌∷◌, ◌++◌}
use mathlib.Core.Path.{◌≡◌, refl, ◌∙◌}
use mathlib.Core.Logic.{⊎_elim, ◌≢◌}
use native.Mathlib.Omega.{arith}
use lib.Dec.{eqb}
use lib.ListN.{length, get_or, set, replicate, length-set, length-replicate, get_or-replicate, get_or-eq_default}
use lib.Seq.{get_or-set_same, get_or-set_other}
use Rattle.lists.specs.Cases.{same_or, lt-or}
use Rattle.lists.specs.Lists.{those, how_many}
use Rattle.lists.proofs.Lists.{how_many-same, how_many-other, how_many-le}
use Rattle.chains.specs.Walk.{tally, MetAtMost}

pub tally-append : (times xs ys : List ℕ) → tally times (xs ++ ys) ≡ tally (tally times xs) ys
unfolding tally
tally-append times [] ys = refl
tally-append times (x ∷ xs) ys = tally-append (set times x (get_or times x 0 + 1)) xs ys

pub length-tally : (times ts : List ℕ) → length (tally times ts) ≡ length times
unfolding tally
length-tally times [] = refl
length-tally times (t ∷ ts) = length-tally (set times t (get_or times t 0 + 1)) ts ∙ length-set times t _

pub get_or-tally : (times ts : List ℕ) (t : ℕ) → t < length times → get_or (tally times ts) t 0 ≡ get_or times t 0 + how_many ts (eqb t)
unfolding tally those
get_or-tally times [] t h = omega arith
get_or-tally times (x ∷ ts) t h =
    ⊎_elim
    (λ (e : t ≡ x).
    get_or-tally (set times x (get_or times x 0 + 1)) ts t (rw length-set h)
    ∙ rw (how_many-same t x ts e) (rw (← e, get_or-set_same times t (get_or times t 0 + 1) 0 h) (omega arith)))
    (λ (e : t ≢ x).
    get_or-tally (set times x (get_or times x 0 + 1)) ts t (rw length-set h)
    ∙ rw (get_or-set_other times x t (get_or times x 0 + 1) 0 e, how_many-other t x ts e))
    (same_or t x)

-- a tier is met at most as often as there are tiers in the list
pub met-tally : (times ts : List ℕ) (n : ℕ) → MetAtMost times n → MetAtMost (tally times ts) (n + length ts)
met-tally times ts n met u =
    ⊎_elim
    (λ (l : u < length times). omega (arith, get_or-tally times ts u l, met u, how_many-le (eqb u) ts))
    (λ (l : length times ≤ u).
    let k : length (tally times ts) ≤ u = omega (arith, length-tally times ts) in
    rw (get_or-eq_default (tally times ts) 0 k) (omega arith))
    (lt-or u (length times))

pub zeros-met : (n : ℕ) → MetAtMost (replicate n 0) 0
zeros-met n u =
    ⊎_elim
    (λ (h : u < n). rw (get_or-replicate {A = ℕ} n u 0 0 h) (omega arith))
    (λ (h : n ≤ u).
    let l : length (replicate {A = ℕ} n 0) ≤ u = rw length-replicate h in
    rw (get_or-eq_default (replicate {A = ℕ} n 0) 0 l) (omega arith))
    (lt-or u n)
