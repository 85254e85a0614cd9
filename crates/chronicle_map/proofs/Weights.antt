-- Two lists of keys and records that weigh the same, whatever the weights, have the same members.
use Prim.Native.Nat.{ℕ, ◌≤◌, ◌<◌}
use mathlib.Core.List.{List, Memᴰ}
use mathlib.Core.Path.{◌≡◌, sym, ◌∙◌}
use mathlib.Core.Bool.{Bool, true, false, ◌&&◌}
use native.Mathlib.Omega.{arith}
use lib.ListN.{length}
use Rattle.lists.specs.Cases.{by-test}
use Rattle.lists.specs.Lists.{those, total}
use Rattle.words.specs.Bytes.{same}
use Rattle.words.proofs.Bytes.{same_true, same_refl}
use Rattle.entries.specs.Pairs.{Pair}
use Rattle.lists.proofs.Totals.{total-at, total-some, those-total, length-total}

-- the same weights, whatever they are
abbrev pub Weigh : List Pair → List Pair → Type 0
Weigh xs ys = (F : Pair → ℕ) → total xs F ≡ total ys F

-- 1 at p, 0 elsewhere
unfoldable at_pair : Pair → Pair → ℕ
at_pair p q = elim (same q.key p.key && same q.value p.value) [ true ↦ 1 | false ↦ 0 ]

at_own : (p : Pair) → at_pair p p ≡ 1
unfolding at_pair
at_own p = rw (same_refl p.key, same_refl p.value, at_pair)

at_only : (p q : Pair) → 0 < at_pair p q → q ≡ p
unfolding at_pair
at_only p q h =
    by-test (same q.key p.key)
    (λ (a : same q.key p.key ≡ true).
    by-test (same q.value p.value)
    (λ (b : same q.value p.value ≡ true).
    let k : q.key ≡ p.key = same_true _ _ a in
    let v : q.value ≡ p.value = same_true _ _ b in
    λ i. record { key = k i; value = v i })
    (λ (b : same q.value p.value ≡ false). absurd (let g : 0 < 0 = rw (a, b, at_pair) at h in omega arith)))
    (λ (a : same q.key p.key ≡ false). absurd (let g : 0 < 0 = rw (a, at_pair) at h in omega arith))

pub weigh_in : (xs ys : List Pair) → Weigh xs ys → (p : Pair) → Memᴰ p xs → Memᴰ p ys
weigh_in xs ys w p m =
    let a : at_pair p p ≤ total xs (at_pair p) = total-at (at_pair p) p xs m in
    let r : (q : Pair) × Memᴰ q ys × (0 < at_pair p q) = total-some (at_pair p) ys (omega (arith, at_own p, w (at_pair p))) in
    let e : r.0 ≡ p = at_only p r.0 r.2 in
    rw e at r.1

pub weigh-length : (xs ys : List Pair) → Weigh xs ys → length xs ≡ length ys
weigh-length xs ys w = length-total xs ∙ w (λ _. 1) ∙ sym (length-total ys)

pub weigh-those : (p : Pair → Bool) (xs ys : List Pair) → Weigh xs ys → Weigh (those xs p) (those ys p)
weigh-those p xs ys w F = those-total p F xs ∙ w (λ x. elim (p x) [ true ↦ F x | false ↦ 0 ]) ∙ sym (those-total p F ys)
