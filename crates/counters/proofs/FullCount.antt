-- The counters written one after the other.
use Prim.Native.Nat.{ℕ}
use mathlib.Core.List.{List}
use mathlib.Core.Path.{◌≡◌, ap, ap₂, ◌∙◌}
use mathlib.Core.Logic.{◌≢◌}
use Rattle.std.proofs.Common.{Option, None}
use lib.Dec.{eqb}
use lib.ListN.{length}
use borrow.Author.Tests.{eq-eqb, ne_eqb}
use Rattle.lists.specs.Cases.{by-test}
use Rattle.layout.specs.declared.Shape.{Shape}
use Rattle.layout.specs.Places.{put, puts, count_place, low_place}
use Rattle.entries.specs.Live.{full_slots}
use Rattle.chunks.specs.Chunks.{lowest_clear}
use Rattle.counters.specs.Recount.{recount, settle, touched, touched_with}

module _ (z : Shape) (img : List ℕ) (t : ℕ) where
  -- both counters, where the code has their numbers
  pub recounted : {n low : ℕ} {one two : List ℕ} → n ≡ length (full_slots z img t) → low ≡ lowest_clear z img t
      → one ≡ put z img (count_place z t) n → two ≡ put z one (low_place z t) low → two ≡ recount z img t
  unfolding recount puts
  recounted {n} {low} {one} {two} en el e₁ e₂ =
      e₂ ∙ ap₂ (λ (x : List ℕ) (v : ℕ). put z x (low_place z t) v) (e₁ ∙ ap (put z img (count_place z t)) en) el

-- ---- the tiers that an edit changed, one after the other

module _ (z : Shape) (img : List ℕ) {one : List ℕ} (t : ℕ) (e : one ≡ recount z img t) where
  pub settled-alone : {other : Option ℕ} → other ≡ None → one ≡ settle z img (touched_with t other)
  unfolding settle
  settled-alone q = rw q e

module _ (z : Shape) (img : List ℕ) {one : List ℕ} (t u : ℕ) (e : one ≡ recount z img t) where
  pub settled_same : u ≡ t → one ≡ settle z img (touched t u)
  unfolding settle touched
  settled_same q = by-test (eqb u 0) (λ b. rw (b, touched, settle) e) (λ b. rw (b, eq-eqb u t q, touched, settle) e)

  pub settled-both : u ≢ 0 → u ≢ t → {two : List ℕ} → two ≡ recount z one u → two ≡ settle z img (touched t u)
  unfolding settle touched
  settled-both a b e₂ = rw (ne_eqb u 0 a, ne_eqb u t b, touched, settle) (e₂ ∙ ap (λ (x : List ℕ). recount z x u) e)
