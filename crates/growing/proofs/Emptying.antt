-- A tier that is made empty: its slots and marks are 0, its next is the number that is given, and nothing outside the tier changes.
use Prim.Native.Nat.{ℕ, zero, suc, ◌*◌, ◌/◌, ◌%◌, ◌^◌, ◌≤◌, ◌<◌}
use mathlib.Core.List.{List, [], ◌∷◌}
use mathlib.Core.Path.{◌≡◌, refl, ap, sym, ◌∙◌}
use mathlib.Core.Logic.{inr, ⊎_elim, ◌≢◌}
use native.Mathlib.Omega.{arith}
use native.Mathlib.Nat.{one-le-pow}
use lib.ListN.{length, get_or}
use Rattle.lists.specs.Cases.{same_or}
use Rattle.lists.specs.Quantify.{Every, every-cons, every-none}
use Rattle.words.specs.Bytes.{Apart}
use Rattle.words.specs.Bits.{bit_of}
use Rattle.layout.specs.declared.Shape.{Shape}
use Rattle.layout.specs.Tiers.{IsTier}
use Rattle.layout.specs.declared.Counter.{Counter}
use Rattle.layout.specs.declared.Counter.TheVariants.{Next as next, Previous as previous, Low as low, Segment as segment, Order as order, Count as count}
use Rattle.layout.specs.Places.{Part, slot, counter, free, counter_no, Place, tier, part_wide, at, wide, In, get, mark, Write, ◌≔◌, puts}
use Rattle.layout.specs.Frame.{Image}
use Rattle.layout.proofs.Places.{written, length-put, image-put, get_other, length-puts, image-puts, get-puts-other, get-puts-here, get_or-put-out, get_or-puts-out, by_kind, counter-lt}
use Rattle.layout.proofs.Marks.{NoFree, mark-get, length-put_marks, image-put_marks, get_or-put_marks-out, get-put_marks-other, mark-put_marks-out, mark-put_marks_in}
use Rattle.search.proofs.Slots.{slot-ne, slot_same}
use Rattle.growing.specs.Growing.{empty_slots, empty_tier}

-- a place that is no part of tier t
abbrev pub NotOf : ℕ → Place → Type 0
NotOf t p = (q : Part) → p ≢ tier t q

module _ (z : Shape) where
  open z use {settings}
  open settings use {slots, slotSize}

  -- ---- the slots

  pub length-empty_slots : (img : List ℕ) (t n : ℕ) → length (empty_slots z img t n) ≡ length img
  unfolding empty_slots
  length-empty_slots img t zero = refl
  length-empty_slots img t (suc n) = length-put z (empty_slots z img t n) (tier t (slot n)) 0 ∙ length-empty_slots img t n

  image-empty_slots : {img : List ℕ} → Image z img → (t n : ℕ) → Image z (empty_slots z img t n)
  unfolding empty_slots
  image-empty_slots im t zero = im
  image-empty_slots im t (suc n) = image-put (image-empty_slots im t n) (tier t (slot n)) 0

  module _ {img : List ℕ} (im : Image z img) (t : ℕ) (it : IsTier z t) where
    get-empty_slots-other : (n : ℕ) (p : Place) → n ≤ slots → In z p → ((j : ℕ) → p ≢ tier t (slot j))
        → get z (empty_slots z img t n) p ≡ get z img p
    unfolding empty_slots
    get-empty_slots-other zero p h k ne = refl
    get-empty_slots-other (suc n) p h k ne =
        get_other im.framed (empty_slots z img t n) (tier t (slot n)) 0 p (it, omega arith) k (ne n) ∙ get-empty_slots-other n p (omega arith) k ne

    slot-empty_slots : (n j : ℕ) → n ≤ slots → j < n → get z (empty_slots z img t n) (tier t (slot j)) ≡ 0
    unfolding empty_slots
    slot-empty_slots zero j h l = absurd (omega arith)
    slot-empty_slots (suc n) j h l =
        ⊎_elim
        (λ (e : j ≡ n).
        rw e (slot_same im.framed t it (empty_slots z img t n) n 0 (image-empty_slots im t n) (omega arith) (one-le-pow slotSize 256 (omega arith))))
        (λ (e : j ≢ n).
        get_other im.framed (empty_slots z img t n) (tier t (slot n)) 0 (tier t (slot j)) (it, omega arith) (it, omega arith)
        (slot-ne im.framed t it j n e)
        ∙ slot-empty_slots n j (omega arith) (omega arith))
        (same_or j n)

-- ---- the counters, and the whole tier

-- the counters after next, as they are written
abbrev zero_writes : ℕ → List Write
zero_writes t =
    tier t (counter previous) ≔ 0
    ∷ tier t (counter low) ≔ 0
    ∷ tier t (counter segment) ≔ 0
    ∷ tier t (counter order) ≔ 0
    ∷ tier t (counter count) ≔ 0
    ∷ []

pub length-empty_tier : (z : Shape) (img : List ℕ) (t u : ℕ) → length (empty_tier z img t u) ≡ length img
unfolding empty_tier
length-empty_tier z img t u =
    length-put_marks z _ t 0 _ 0
    ∙ length-puts z (empty_slots z img t z.settings.slots) ((tier t (counter next) ≔ u) ∷ zero_writes t)
    ∙ length-empty_slots z img t z.settings.slots

-- a byte of none of the tier's slots, counters and bytes with marks
pub record Untouched (z : Shape) (t i : ℕ) : Type 0 where
  pub slots : (j : ℕ) → j < z.settings.slots → Apart i 1 (at z (tier t (slot j))) (wide z (tier t (slot j)))
  pub counters : (f : Counter) → Apart i 1 (at z (tier t (counter f))) (wide z (tier t (counter f)))
  pub marks : (b : ℕ) → 8 * b < z.settings.chunks → Apart i 1 (at z (tier t (free b))) (wide z (tier t (free b)))

get_or-empty_slots-out : (z : Shape) (img : List ℕ) (t i n : ℕ) → n ≤ z.settings.slots → Untouched z t i
    → get_or (empty_slots z img t n) i 0 ≡ get_or img i 0
unfolding empty_slots
get_or-empty_slots-out z img t i zero h o = refl
get_or-empty_slots-out z img t i (suc n) h o =
    get_or-put-out z (empty_slots z img t n) (tier t (slot n)) 0 i (o.slots n (omega arith)) ∙ get_or-empty_slots-out z img t i n (omega arith) o

pub get_or-empty_tier-out : (z : Shape) (img : List ℕ) (t u i : ℕ) → Untouched z t i → get_or (empty_tier z img t u) i 0 ≡ get_or img i 0
unfolding empty_tier
get_or-empty_tier-out z img t u i o =
    get_or-put_marks-out z _ t 0 _ 0 i (omega arith) o.marks
    ∙ get_or-puts-out z _ ((tier t (counter next) ≔ u) ∷ zero_writes t) i
    (every-cons _ _ _ (o.counters next)
    (every-cons _ _ _ (o.counters previous)
    (every-cons _ _ _ (o.counters low)
    (every-cons _ _ _ (o.counters segment)
    (every-cons _ _ _ (o.counters order)
    (every-cons _ _ _ (o.counters count)
    (every-none _)))))))
    ∙ get_or-empty_slots-out z img t i z.settings.slots (omega arith) o

module _ {z : Shape} {img : List ℕ} (im : Image z img) (t u : ℕ) (it : IsTier z t) where
  open z use {settings}
  open settings use {slots, chunks}

  abbrev emptied : List ℕ
  emptied = empty_slots z img t slots

  abbrev counted : List ℕ
  counted = puts z emptied ((tier t (counter next) ≔ u) ∷ zero_writes t)

  emptied-image : Image z emptied
  emptied-image = image-empty_slots z im t slots

  counted-image : Image z counted
  counted-image = image-puts emptied-image ((tier t (counter next) ≔ u) ∷ zero_writes t)

  -- they are other places than p
  zeros-spare : (p : Place) → ((f : Counter) → counter_no f ≢ 0 → p ≢ tier t (counter f))
      → Every (zero_writes t) (λ w. In z (written w) × (p ≢ written w))
  zeros-spare p ne =
      every-cons _ _ _ ((it, tt), ne previous (omega arith))
      (every-cons _ _ _ ((it, tt), ne low (omega arith))
      (every-cons _ _ _ ((it, tt), ne segment (omega arith))
      (every-cons _ _ _ ((it, tt), ne order (omega arith))
      (every-cons _ _ _ ((it, tt), ne count (omega arith))
      (every-none _)))))

  get-counted-other : (p : Place) → In z p → ((f : Counter) → p ≢ tier t (counter f)) → get z counted p ≡ get z emptied p
  get-counted-other p h ne =
      get-puts-other emptied-image.framed emptied ((tier t (counter next) ≔ u) ∷ zero_writes t) p h
      (every-cons _ _ _ ((it, tt), ne next) (zeros-spare p (λ f _. ne f)))

  pub image-empty_tier : Image z (empty_tier z img t u)
  unfolding empty_tier
  image-empty_tier = image-put_marks counted-image t 0 _ 0 (omega arith)

  get-marked-other : (p : Place) → In z p → NoFree t p → get z (empty_tier z img t u) p ≡ get z counted p
  unfolding empty_tier
  get-marked-other p h ne = get-put_marks-other counted-image.framed counted t 0 _ 0 p it (omega arith) h ne

  pub get-empty_tier-other : (p : Place) → In z p → NotOf t p → get z (empty_tier z img t u) p ≡ get z img p
  get-empty_tier-other p h ne =
      get-marked-other p h (λ b. ne (free b))
      ∙ get-counted-other p h (λ f. ne (counter f))
      ∙ get-empty_slots-other z im t it slots p (omega arith) h (λ j. ne (slot j))

  pub slot-empty_tier : (j : ℕ) → j < slots → get z (empty_tier z img t u) (tier t (slot j)) ≡ 0
  slot-empty_tier j h =
      get-marked-other (tier t (slot j)) (it, h) (λ b. by_kind (omega arith))
      ∙ get-counted-other (tier t (slot j)) (it, h) (λ f. by_kind (omega arith))
      ∙ slot-empty_slots z im t it slots j (omega arith) h

  pub mark-empty_tier : (i : ℕ) → i < chunks → mark z (empty_tier z img t u) t i ≡ 0
  unfolding empty_tier
  mark-empty_tier i h = mark-put_marks_in counted-image t 0 chunks 0 i it (omega arith) (omega arith) (omega arith) (omega arith)

  -- the bits behind the chunks', in the last byte that holds marks
  pub mark-empty_tier-past : (i : ℕ) → chunks ≤ i → 8 * (i / 8) < chunks → mark z (empty_tier z img t u) t i ≡ mark z img t i
  unfolding empty_tier
  mark-empty_tier-past i past h =
      let p : Place = tier t (free (i / 8)) in
      mark-put_marks-out z counted t 0 chunks 0 i (omega arith) (inr (omega arith))
      ∙ mark-get z counted t i
      ∙ ap (λ (v : ℕ). bit_of v (i % 8))
      (get-counted-other p (it, h) (λ f. by_kind (omega (arith, counter-lt f)))
      ∙ get-empty_slots-other z im t it slots p (omega arith) (it, h) (λ j. by_kind (omega arith)))
      ∙ sym (mark-get z img t i)

  pub next-empty_tier : u < 256 ^ 8 → get z (empty_tier z img t u) (tier t (counter next)) ≡ u
  unfolding wide part_wide
  next-empty_tier h =
      get-marked-other (tier t (counter next)) (it, tt) (λ b. by_kind (omega arith))
      ∙ get-puts-here emptied-image [] (tier t (counter next)) u (zero_writes t) (it, tt) h
      (zeros-spare (tier t (counter next)) (λ f n. by_kind (omega arith)))
