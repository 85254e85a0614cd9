-- An instance: an image of links alone, with the link of t at place t, in which two writes take a number out of one list and put it
-- in front of another.
use Prim.Native.Nat.{ℕ, ◌<◌}
use mathlib.Core.List.{List, [], ◌∷◌, ◌++◌, Memᴰ}
use mathlib.Core.Path.{◌≡◌, refl, ◌∙◌}
use mathlib.Core.Logic.{◌≢◌}
use native.Mathlib.Omega.{arith}
use lib.ListN.{length, get_or, set, length-set}
use lib.Seq.{get_or-set_same, get_or-set_other}
use Rattle.lists.specs.Quantify.{Every}
use Rattle.links.specs.Links.{follow, Linked}
use Rattle.links.proofs.Edits.{linked-front, linked-out}

abbrev next_of : List ℕ → ℕ → ℕ
next_of img t = get_or img t 0

-- p's link is what t's was, and t's is f
abbrev moved : List ℕ → ℕ → ℕ → ℕ → List ℕ
moved img p t f = set (set img p (next_of img t)) t f

module _ (img : List ℕ) (p t f : ℕ) (hp : p < length img) (ht : t < length img) (ne : p ≢ t) where
  behind : next_of (moved img p t f) p ≡ next_of img t
  behind = get_or-set_other (set img p (next_of img t)) t p f 0 ne ∙ get_or-set_same img p (next_of img t) 0 hp

  front : next_of (moved img p t f) t ≡ f
  front = get_or-set_same (set img p (next_of img t)) t f 0 (omega (arith, length-set img p (next_of img t)))

  others : (u : ℕ) → u ≢ p → u ≢ t → next_of (moved img p t f) u ≡ next_of img u
  others u np nt = get_or-set_other (set img p (next_of img t)) t u f 0 nt ∙ get_or-set_other img p u (next_of img t) 0 np

  pub moved_out : {h : ℕ} (xs ys : List ℕ) → Memᴰ p xs → next_of img p ≡ t → Linked (next_of img) h (xs ++ (t ∷ ys))
      → Linked (next_of (moved img p t f)) h (xs ++ ys)
  moved_out xs ys m q r = linked-out xs ys r m q (λ u _ np nt. others u np nt) behind

  pub moved_front : {zs : List ℕ} → t ≢ 0 → Every zs (λ u. u ≢ p) → Every zs (λ u. u ≢ t) → Linked (next_of img) f zs
      → Linked (next_of (moved img p t f)) t (t ∷ zs)
  moved_front n np nt r = linked-front r nt (λ u m _. others u (np u m) (nt u m)) n front

-- of 1, 2, 3 and of 4, 5 the links are these; 2 goes to the front of 4, 5
abbrev two : List ℕ
two = 0 ∷ 2 ∷ 3 ∷ 0 ∷ 5 ∷ 0 ∷ []

pub moved-computed : (follow (next_of two) 5 1 ≡ 1 ∷ 2 ∷ 3 ∷ []) × (follow (next_of (moved two 1 2 4)) 5 1 ≡ 1 ∷ 3 ∷ [])
    × (follow (next_of (moved two 1 2 4)) 5 2 ≡ 2 ∷ 4 ∷ 5 ∷ [])
unfolding follow
moved-computed = (refl, refl, refl)
