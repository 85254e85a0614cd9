use Rattle.std.proofs.Common.{◌≡◌, ◌≢◌, suc, ◌+◌, ◌<◌, ◌≤◌, ℕ, Bool, true, false, MatchBool, length, get_or, take, drop, ◌∙◌, arith, rules, tests}
use Rattle.std.specs.List.{AllWithin, HoldsAt}
use Rattle.std.proofs.lemmas.Iterator.{cases_from_all, YieldsList-from_slice}
use Rattle.std.proofs.lemmas.List.{get_or-take, get_or-drop, length-take, length-drop, take_rest}
use mathlib.Core.List.{List}
use native.Mathlib.Numerals.{add-one}
use Rattle.lists.specs.Decide.{Decides}
use Rattle.lists.specs.Quantify.{Below}
use Rattle.chains.proofs.met_once.Goals as goal

-- the n counts from a on
module _ (times : List ℕ) (a n : ℕ) (room : a + n ≤ length times) where
  abbrev counts : List ℕ
  counts = take n (drop a times)

  long : length counts ≡ n
  long = simp (length-take, length-drop) (omega arith)

  at : (k : ℕ) → k < n → get_or counts k 0 ≡ get_or times (a + k) 0
  at k h = get_or-take n (drop a times) k 0 h ∙ get_or-drop a times k 0

  decided : (b : Bool)
      → MatchBool b (AllWithin (λ x. x ≡ 1) counts 0 (length counts)) ((k : ℕ) × (k < length counts) × HoldsAt (λ x. x ≢ 1) counts k)
      → Decides b (Below n (λ j. get_or times (a + j) 0 ≡ 1))
  decided true m = λ k h. omega (arith, at k h, m k 0 (omega arith) (omega (arith, long)))
  decided false m = λ f. m.2 0 (at m.0 (omega (arith, long, m.1)) ∙ f m.0 (omega (arith, long, m.1)))

pub returns : goal.returns
returns c =
    let m =
    cases_from_all _ _ _ (λ x. x ≡ 1) (λ x. x ≢ 1) c.all.ensures.ran (YieldsList-from_slice _ c.iter.ensures.rest)
    (λ x q k. search (rules, tests)) (λ x q k. search (rules, tests)) in
    decided c.args.times.now (suc c.args.after) c.args.n (omega arith) c.all.result (rw (add-one, take_rest) at m)
