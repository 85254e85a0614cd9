-- What the code finds of a tier's chunks and slots where the old entry counts as removed.
use Prim.Native.Nat.{ℕ, ◌+◌, ◌-◌, ◌≤◌, ◌<◌}
use mathlib.Core.List.{List}
use mathlib.Core.Path.{◌≡◌, refl, ap, sym, ◌∙◌}
use Rattle.std.proofs.Common.{Option, Some, None}
use mathlib.Core.Bool.{Bool, true, false, ◌&&◌}
use native.Mathlib.Omega.{arith}
use lib.Dec.{leb, eqb}
use borrow.Author.Tests.{eqb-true, eqb-false, eq-eqb, ne_eqb, le-leb, lt-leb, lt-ltb, le-ltb}
use Rattle.lists.specs.Cases.{by-test}
use Rattle.layout.specs.declared.Shape.{Shape}
use Rattle.entries.specs.declared.Entry.{Entry}
use Rattle.entries.specs.Asking.{Lengths}
use Rattle.entries.specs.Stored.{chunks_for}
use Rattle.entries.specs.Live.{chunk_of, entry_at}
use Rattle.entries.proofs.Whole.{entry-small}
use Rattle.chunks.specs.Chunks.{clear, low_field, LowMarkFits}
use Rattle.chunks.proofs.LowMark.{low-mark-few, low-mark-below}
use Rattle.entries.proofs.FullSlots.{full-few}
use Rattle.placement.specs.declared.Old.{Old}
use Rattle.placement.specs.OldEntry.{OtherTier, old_at}
use Rattle.placement.specs.Runs.{full_in, full_but, clear_but}
use Rattle.placement.specs.Asking.{NoneClearBelow}

-- ---- the entry of a slot, as it is read

module _ (z : Shape) (img : List ℕ) (t j : ℕ) where
  -- the lengths that were read are small
  pub entry-lengths : (e : Entry) → e ≡ entry_at z img t j → Lengths e.keyLength e.valueLength
  unfolding entry_at
  entry-lengths e is = rw is (entry-small z img t (chunk_of z img t j))

  pub old-is : {c n : ℕ} {x : Entry} → x ≡ entry_at z img t j → c ≡ chunk_of z img t j
      → n ≡ chunks_for z.settings x.keyLength x.valueLength
      → record { tier = t; slot = j; chunk = c; chunks = n } ≡ old_at z img t j
  old-is ex ec en =
      let n' = en ∙ ap (λ (y : Entry). chunks_for z.settings y.keyLength y.valueLength) ex in
      λ i. record { tier = t; slot = j; chunk = ec i; chunks = n' i }

and-false : (a : Bool) → (a && false) ≡ false
and-false true = refl
and-false false = refl

-- ---- another tier than the old entry's

module _ (z : Shape) (img : List ℕ) where
  pub clear_else : (old : Option Old) (t i : ℕ) → OtherTier old t → clear z img t i ≡ clear_but z img old t i
  unfolding clear_but
  clear_else None t i e = refl
  clear_else (Some o) t i e = rw (ne_eqb t o.tier e)

  pub full_else : (old : Option Old) (t : ℕ) → OtherTier old t → full_in z img t ≡ full_but z img old t
  unfolding full_but
  full_else None t e = refl
  full_else (Some o) t e = rw (full_but, ne_eqb t o.tier e)

module _ (z : Shape) (img : List ℕ) (old : Old) (t : ℕ) where
  -- ---- a chunk

  module _ (i : ℕ) where
    pub clear-old : t ≡ old.tier → old.chunk ≤ i → i < old.chunk + old.chunks → true ≡ clear_but z img (Some old) t i
    unfolding clear_but
    clear-old e a b = rw (eq-eqb t old.tier e, le-leb old.chunk i a, lt-ltb i (old.chunk + old.chunks) b)

    pub clear-before : i < old.chunk → clear z img t i ≡ clear_but z img (Some old) t i
    unfolding clear_but
    clear-before h = rw (lt-leb old.chunk i h, and-false (eqb t old.tier))

    pub clear-after : old.chunk + old.chunks ≤ i → clear z img t i ≡ clear_but z img (Some old) t i
    unfolding clear_but
    clear-after h =
        rw (le-ltb i (old.chunk + old.chunks) h, and-false (leb old.chunk i), and-false (eqb t old.tier))

  -- ---- the slots

  pub full-old : t ≡ old.tier → full_in z img t - 1 ≡ full_but z img (Some old) t
  unfolding full_but
  full-old e = rw (full_but, eq-eqb t old.tier e)

-- ---- the chunks below a place that the lowest free chunk field allows

module _ (z : Shape) (img : List ℕ) (t : ℕ) (low : LowMarkFits z img t) {c : ℕ} (h : c ≤ low_field z img t) where
  within : c ≤ z.settings.chunks
  within = omega (arith, h, low-mark-few low)

  pub scan-old : (o : Old) → c ≤ o.chunk → NoneClearBelow z img (Some o) t c
  scan-old o l = (within, λ i b. sym (clear-before z img o t i (omega arith)) ∙ low-mark-below low i (omega (arith, h)))

  pub scan_else : (old : Option Old) → OtherTier old t → NoneClearBelow z img old t c
  scan_else old ne = (within, λ i b. sym (clear_else z img old t i ne) ∙ low-mark-below low i (omega (arith, h)))

pub full_but-le : (z : Shape) (img : List ℕ) (old : Option Old) (t : ℕ) → full_but z img old t ≤ z.settings.slots
full_but-le z img None t = omega (arith, full-few z img t, full_else z img None t tt)
full_but-le z img (Some o) t =
    let h : full_in z img t ≤ z.settings.slots = full-few z img t in
    by-test (eqb t o.tier)
    (λ e. omega (arith, full-old z img o t (eqb-true t o.tier e)))
    (λ e. omega (arith, full_else z img (Some o) t (eqb-false t o.tier e)))
