-- Laws of a stretch of bytes read and written.
use Prim.Native.Nat.{ℕ, zero, suc, ◌+◌, ◌≤◌, ◌<◌}
use mathlib.Core.List.{List, [], ◌∷◌, ◌++◌}
use mathlib.Core.Path.{◌≡◌, refl, ap, ap₂, sym, ◌∙◌}
use mathlib.Core.Logic.{◌⊎◌, inl, inr, ⊎_elim, ◌≢◌}
use native.Mathlib.Omega.{arith}
use native.Mathlib.Nat.{add-zero}
use lib.ListN.{length, get_or, set, drop, length-set, length-take, length-drop}
use lib.Seq.{sets, length-sets, get_or-set_same, get_or-set_other, set_out, ext_get_or, get_or-take, get_or-drop}
use mathlib.Core.Bool.{true, false, false≢true}
use borrow.Author.Tests.{eq-eqb, ne_eqb}
use Rattle.words.specs.Bytes.{Bytes, cut, Apart, same}
use Rattle.lists.specs.Cases.{by-test, lt-or, same_or}

-- ---- one byte of what was written

pub get_or-sets-out : (l : List ℕ) (at : ℕ) (bs : List ℕ) (i : ℕ) → (i < at) ⊎ (at + length bs ≤ i) → get_or (sets l at bs) i 0 ≡ get_or l i 0
get_or-sets-out l at [] i o = refl
get_or-sets-out l at (b ∷ bs) i o =
    get_or-sets-out (set l at b) (suc at) bs i (⊎_elim (λ (h : i < at). inl (omega arith)) (λ (h : at + length (b ∷ bs) ≤ i). inr (omega arith)) o)
    ∙ get_or-set_other l at i b 0 (⊎_elim (λ (h : i < at). omega arith) (λ (h : at + length (b ∷ bs) ≤ i). omega arith) o)

pub get_or-sets_in : (l : List ℕ) (at : ℕ) (bs : List ℕ) (i : ℕ) → at + length bs ≤ length l → i < length bs
    → get_or (sets l at bs) (at + i) 0 ≡ get_or bs i 0
get_or-sets_in l at [] i h k = absurd (omega arith)
get_or-sets_in l at (b ∷ bs) zero h k =
    rw add-zero (get_or-sets-out (set l at b) (suc at) bs at (inl (omega arith)) ∙ get_or-set_same l at b 0 (omega arith))
get_or-sets_in l at (b ∷ bs) (suc i) h k =
    let e : at + suc i ≡ suc at + i = omega arith in
    rw e (get_or-sets_in (set l at b) (suc at) bs i (rw length-set (omega arith)) (omega arith))

-- ---- every one stays a byte

pub bytes-set : (l : List ℕ) (i v : ℕ) → Bytes l → v < 256 → Bytes (set l i v)
bytes-set l i v b h j =
    ⊎_elim
    (λ (e : j ≡ i). rw e (⊎_elim (λ t. rw (get_or-set_same l i v 0 t) h) (λ t. rw (set_out l i v t) (b i)) (lt-or i (length l))))
    (λ e. rw (get_or-set_other l i j v 0 e) (b j))
    (same_or j i)

pub bytes-sets : (l : List ℕ) (at : ℕ) (bs : List ℕ) → Bytes l → Bytes bs → Bytes (sets l at bs)
bytes-sets l at [] b c = b
bytes-sets l at (x ∷ bs) b c = bytes-sets (set l at x) (suc at) bs (bytes-set l at x b (c 0)) (λ i. c (suc i))

-- ---- one write after the other

pub sets-append : (l : List ℕ) (at : ℕ) (xs ys : List ℕ) → sets l at (xs ++ ys) ≡ sets (sets l at xs) (at + length xs) ys
sets-append l at [] ys = ap (λ (k : ℕ). sets l k ys) (sym (add-zero at))
sets-append l at (x ∷ xs) ys =
    sets-append (set l at x) (suc at) xs ys ∙
    ap (λ (k : ℕ). sets (sets (set l at x) (suc at) xs) k ys) (let e : suc at + length xs ≡ at + suc (length xs) = omega arith in e)

pub sets_then : (l : List ℕ) (at : ℕ) (xs ys : List ℕ) {one : List ℕ} {next : ℕ} → one ≡ sets l at xs → next ≡ at + length xs
    → sets one next ys ≡ sets l at (xs ++ ys)
sets_then l at xs ys e n = ap₂ (λ (x : List ℕ) (k : ℕ). sets x k ys) e n ∙ sym (sets-append l at xs ys)

-- ---- stretches

pub length_cut : (l : List ℕ) (at n : ℕ) → at + n ≤ length l → length (cut l at n) ≡ n
length_cut l at n h = simp (length-take, length-drop) (omega arith)

pub get_or-cut : (l : List ℕ) (at n i : ℕ) → i < n → get_or (cut l at n) i 0 ≡ get_or l (at + i) 0
get_or-cut l at n i h = get_or-take n (drop at l) i 0 h ∙ get_or-drop at l i 0

pub cut-ext : (l l' : List ℕ) (at n : ℕ) → length l ≡ length l' → ((i : ℕ) → i < n → get_or l (at + i) 0 ≡ get_or l' (at + i) 0)
    → cut l at n ≡ cut l' at n
cut-ext l l' at n e h =
    ext_get_or 0 _ _
    (simp (length-take, length-drop, e))
    (λ i k.
    let b : i < n = omega (arith, simp (length-take, length-drop) at k) in
    get_or-cut l at n i b ∙ h i b ∙ sym (get_or-cut l' at n i b))

pub cut-sets-out : (l : List ℕ) (a n b : ℕ) (bs : List ℕ) → Apart a n b (length bs) → cut (sets l b bs) a n ≡ cut l a n
cut-sets-out l a n b bs o =
    cut-ext _ _ a n (length-sets l b bs)
    (λ i k. get_or-sets-out l b bs (a + i) (⊎_elim (λ (q : a + n ≤ b). inl (omega arith)) (λ (q : b + length bs ≤ a). inr (omega arith)) o))

pub cut-sets-same : (l : List ℕ) (at : ℕ) (bs : List ℕ) → at + length bs ≤ length l → cut (sets l at bs) at (length bs) ≡ bs
cut-sets-same l at bs h =
    let long : at + length bs ≤ length (sets l at bs) = rw length-sets h in
    let e : length (cut (sets l at bs) at (length bs)) ≡ length bs = length_cut (sets l at bs) at (length bs) long in
    ext_get_or 0 _ _ e (λ i k. let b : i < length bs = omega arith in get_or-cut (sets l at bs) at (length bs) i b ∙ get_or-sets_in l at bs i h b)

-- ---- the test that two lists are the same

same-cons : (x y : ℕ) (xs ys : List ℕ) → x ≡ y → same (x ∷ xs) (y ∷ ys) ≡ same xs ys
unfolding same
same-cons x y xs ys e = rw (eq-eqb x y e, same)

same_differs : (x y : ℕ) (xs ys : List ℕ) → x ≢ y → same (x ∷ xs) (y ∷ ys) ≡ false
unfolding same
same_differs x y xs ys e = rw (ne_eqb x y e, same)

pub same_refl : (xs : List ℕ) → same xs xs ≡ true
unfolding same
same_refl [] = refl
same_refl (x ∷ xs) = same-cons x x xs xs refl ∙ same_refl xs

pub same-eq : (xs ys : List ℕ) → xs ≡ ys → same xs ys ≡ true
same-eq xs ys e = rw (← e) (same_refl xs)

pub same_true : (xs ys : List ℕ) → same xs ys ≡ true → xs ≡ ys
unfolding same
same_true [] [] t = refl
same_true [] (y ∷ ys) t = absurd (false≢true t)
same_true (x ∷ xs) [] t = absurd (false≢true t)
same_true (x ∷ xs) (y ∷ ys) t =
    ⊎_elim
    (λ (e : x ≡ y). let h : xs ≡ ys = same_true xs ys (sym (same-cons x y xs ys e) ∙ t) in cc)
    (λ (e : x ≢ y). absurd (false≢true (sym (same_differs x y xs ys e) ∙ t)))
    (same_or x y)

pub same_false : (xs ys : List ℕ) → xs ≢ ys → same xs ys ≡ false
same_false xs ys ne = by-test (same xs ys) (λ t. absurd (ne (same_true xs ys t))) (λ t. t)
