-- Stretches of bytes within one another.
use Prim.Native.Nat.{ℕ, zero, suc, ◌+◌, ◌-◌, ◌≤◌, ◌<◌}
use mathlib.Core.Path.{◌≡◌, ap, sym, ◌∙◌}
use mathlib.Core.List.{List, [], ◌∷◌, ◌++◌}
use native.Mathlib.Omega.{arith}
use native.Mathlib.Nat.{zero-add, suc-add}
use lib.ListN.{length, take, drop, length-take, length-drop, length-append}
use lib.Seq.{take-nil, take-take, drop-drop, take-append_seam, drop-append_seam}
use Rattle.words.specs.Bytes.{cut}

pub drop-take : (a n : ℕ) (l : List ℕ) → drop a (take (a + n) l) ≡ cut l a n
drop-take zero n l = rw zero-add
drop-take (suc a) n [] = rw (take-nil (suc a + n), take-nil n)
drop-take (suc a) n (x ∷ l) = rw (suc-add a n) (drop-take a n l)

-- a stretch of a stretch
cut-cut : (l : List ℕ) (a m i n : ℕ) → i + n ≤ m → cut (cut l a m) i n ≡ cut l (a + i) n
cut-cut l a m i n h =
    let e : m ≡ i + (m - i) = omega arith in
    rw (e, drop-take i (m - i) (drop a l), take-take n (m - i) (drop i (drop a l)) (omega arith), drop-drop i a l)

pub cut-take : (l : List ℕ) (end at n : ℕ) → at + n ≤ end → cut (take end l) at n ≡ cut l at n
cut-take l end at n h = cut-cut l 0 end at n h ∙ rw zero-add

-- two lists that agree on a stretch agree within it
pub cut-within : (l l' : List ℕ) (a m at n : ℕ) → cut l a m ≡ cut l' a m → a ≤ at → at + n ≤ a + m → cut l at n ≡ cut l' at n
cut-within l l' a m at n e lo hi =
    let i : ℕ = at - a in
    let there : a + i ≡ at = omega arith in
    rw (← there) (sym (cut-cut l a m i n (omega arith)) ∙ ap (λ (r : List ℕ). cut r i n) e ∙ cut-cut l' a m i n (omega arith))

-- a stretch that is made of two
module _ (l : List ℕ) (a : ℕ) (xs ys : List ℕ) (e : cut l a (length (xs ++ ys)) ≡ xs ++ ys) where
  pub cut-front : cut l a (length xs) ≡ xs
  cut-front =
      sym (take-take (length xs) (length (xs ++ ys)) (drop a l) (rw length-append (omega arith)))
      ∙ ap (take (length xs)) e
      ∙ take-append_seam xs ys

  pub cut-back : cut l (a + length xs) (length ys) ≡ ys
  cut-back =
      rw (← drop-drop (length xs) a l, ← drop-take (length xs) (length ys) (drop a l), ← length-append xs ys, e)
      (drop-append_seam xs ys)

-- a stretch of its full length ends within the list
pub cut-room : (l : List ℕ) (a n : ℕ) → 0 < n → length (cut l a n) ≡ n → a + n ≤ length l
cut-room l a n h e = omega (arith, simp (length-take, length-drop) at e)
