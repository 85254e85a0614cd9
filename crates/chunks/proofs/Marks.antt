-- What the loops over a tier's marks find.
use Prim.Native.Nat.{ℕ, ◌+◌, ◌≤◌, ◌<◌}
use mathlib.Core.List.{List}
use mathlib.Core.Path.{◌≡◌, refl, ◌∙◌}
use mathlib.Core.Logic.{⊎_elim, ◌≢◌}
use mathlib.Core.Bool.{false}
use native.Mathlib.Omega.{arith}
use native.Mathlib.Nat.{zero-add}
use lib.Dec.{eqb}
use borrow.Author.Tests.{eq-eqb, ne_eqb}
use Rattle.lists.specs.Cases.{lt-or, same_or}
use Rattle.lists.specs.Lists.{span, below, first, those}
use Rattle.lists.specs.Quantify.{Below}
use Rattle.lists.proofs.Lists.{how_many-le, length-span}
use Rattle.layout.specs.declared.Shape.{Shape}
use Rattle.layout.specs.Places.{mark}
use Rattle.layout.proofs.Marks.{mark-lt}
use Rattle.chunks.specs.Chunks.{clear, lowest_clear, marked_in}
pub use Rattle.chunks.specs.Counting.{marked_below}
use Rattle.chunks.specs.Counting.{FirstOther}
use Rattle.lists.proofs.Rows.{first-span-at, first-span-none, before-first, how_many-more, how_many-less}
use Rattle.lists.proofs.SameLists.{first-le}

module _ (z : Shape) (img : List ℕ) (t : ℕ) where
  -- ---- how many are marked

  pub marked-none : marked_below z img t 0 ≡ 0
  unfolding marked_below span those
  marked-none = refl

  pub marked_more : (n : ℕ) → marked_below z img t (n + 1) ≡ marked_below z img t n + mark z img t n
  unfolding marked_below
  marked_more n =
      ⊎_elim
      (λ (e : mark z img t n ≡ 1). how_many-more (λ i. eqb (mark z img t i) 1) n (eq-eqb (mark z img t n) 1 e) ∙ omega arith)
      (λ (e : mark z img t n ≢ 1).
      how_many-less (λ i. eqb (mark z img t i) 1) n (ne_eqb (mark z img t n) 1 e) ∙ omega (arith, mark-lt z img t n))
      (same_or (mark z img t n) 1)

  pub marked_all : marked_below z img t z.settings.chunks ≡ marked_in z img t
  unfolding marked_below marked_in
  marked_all = refl

  pub marked-le : (n : ℕ) → marked_below z img t n ≤ n
  unfolding marked_below
  marked-le n = omega (arith, how_many-le (λ i. eqb (mark z img t i) 1) (below n), length-span 0 n)

  -- ---- the lowest clear chunk

  pub lowest-at : (n : ℕ) → n < z.settings.chunks → Below n (λ i. mark z img t i ≢ 0) → mark z img t n ≡ 0 → n ≡ lowest_clear z img t
  unfolding lowest_clear
  lowest-at n h f e =
      let g : first (below z.settings.chunks) (clear z img t) ≡ mathlib.Core.Option.some (0 + n) =
      first-span-at (clear z img t) 0 z.settings.chunks n h (λ i l. rw zero-add (ne_eqb (mark z img t i) 0 (f i l)))
      (rw zero-add (eq-eqb (mark z img t n) 0 e)) in
      rw (g, zero-add)

  pub lowest-none : Below z.settings.chunks (λ i. mark z img t i ≢ 0) → z.settings.chunks ≡ lowest_clear z img t
  unfolding lowest_clear
  lowest-none f =
      let g : first (below z.settings.chunks) (clear z img t) ≡ mathlib.Core.Option.none =
      first-span-none (clear z img t) 0 z.settings.chunks (λ i l. rw zero-add (ne_eqb (mark z img t i) 0 (f i l))) in
      rw g

  pub lowest-other : {n : ℕ} → FirstOther z img t 1 n → n ≡ lowest_clear z img t
  lowest-other {n} f =
      ⊎_elim
      (λ (h : n < z.settings.chunks).
      lowest-at n h (λ i l e. omega (arith, f.before i l, e))
      (⊎_elim (λ e. e) (λ (ne : mark z img t n ≢ 0). absurd (f.ends h (omega (arith, ne, mark-lt z img t n)))) (same_or (mark z img t n) 0)))
      (λ (h : z.settings.chunks ≤ n).
      let e : n ≡ z.settings.chunks = omega (arith, f.within) in
      rw e (lowest-none (λ i l q. omega (arith, f.before i (omega arith), q))))
      (lt-or n z.settings.chunks)

  pub lowest-few : lowest_clear z img t ≤ z.settings.chunks
  unfolding lowest_clear
  lowest-few = first-le (clear z img t) 0 z.settings.chunks z.settings.chunks (omega arith)

  pub below-lowest : Below (lowest_clear z img t) (λ i. clear z img t i ≡ false)
  unfolding lowest_clear
  below-lowest i h =
      before-first (clear z img t) 0 z.settings.chunks z.settings.chunks i (omega arith) (omega (arith, lowest-few)) h
