-- The slots of the tier after a new entry's number is put into the first empty one from its start on.
use Prim.Native.Nat.{ℕ, zero, suc, ◌+◌, ◌<◌}
use mathlib.Core.List.{List}
use mathlib.Core.Path.{◌≡◌, refl, ap, sym, ◌∙◌}
use mathlib.Core.Logic.{◌≢◌}
use native.Mathlib.Omega.{arith}
use lib.Dec.{eqb}
use lib.ListN.{length}
use lib.Seq.{sets}
use Rattle.lists.specs.Cases.{by-test}
use Rattle.lists.specs.Quantify.{Below}
use Rattle.layout.specs.declared.Shape.{Shape}
use Rattle.layout.specs.Places.{tier, slot, put, put_marks, chunk_at}
use Rattle.layout.specs.Frame.{Image}
use Rattle.probe.specs.Table.{Table, Empty, Good, slot_total}
use Rattle.probe.specs.Counting.{one_at, count}
use Rattle.probe.specs.Search.{room}
use Rattle.probe.proofs.Table.{Lawful}
use Rattle.probe.proofs.Search.{room-empty}
use Rattle.probe.proofs.Insertion.{insert-totals, insert-good}
use Rattle.probe.proofs.Has.{inserted-empty}
use Rattle.entries.specs.Keys.{start, slot_key}
use Rattle.entries.specs.Stored.{entry_bytes, chunks_for}
use Rattle.entries.specs.Live.{slot_at}
use Rattle.search.specs.Search.{slots_of}
use Rattle.search.specs.Rules.{SomeEmpty, TierSlotsFit}
use Rattle.search.proofs.Slots.{slots-lawful}
use Rattle.search.proofs.Landing.{good}
use Rattle.placement.specs.Placement.{written, slotted}
use Rattle.sound.proofs.Values.{if_full, full_is, empty-is}
use Rattle.sound.proofs.Sums.{full-total, table_same}
use Rattle.placement.proofs.Written.{entry-room, entry-bytes}
use Rattle.placement.proofs.Before.{number_for, Places, image, is-tier, can_write, number-full, number_fits, number-key}
use Rattle.placement.proofs.Writing.{filled, Writes}
use Rattle.placement.proofs.Filling.{wrote-image, wrote-slot}

-- ---- each slot is empty or full

one-or-full : (x : ℕ) → one_at 0 x + if_full (λ v. 1) x ≡ 1
unfolding one_at if_full
one-or-full x = by-test (eqb x 0) (λ e. rw (e, one_at, if_full)) (λ e. rw (e, one_at, if_full))

pub empty-and-full : {M : Type 0} (𝓣 : Table M) (m : M) (n : ℕ) → slot_total 𝓣 (one_at 0) m n + slot_total 𝓣 (if_full (λ v. 1)) m n ≡ n
unfolding slot_total
empty-and-full 𝓣 m zero = refl
empty-and-full 𝓣 m (suc n) = omega (arith, one-or-full (𝓣.get m n), empty-and-full 𝓣 m n)

-- ---- the slot that is filled, and the image then

abbrev wrote : Shape → List ℕ → ℕ → ℕ → List ℕ → List ℕ → List ℕ
wrote z img t c key value =
    sets (put_marks z img t c (chunks_for z.settings (length key) (length value)) 1) (chunk_at z t c) (entry_bytes z.settings key value)

abbrev pub place : Shape → List ℕ → ℕ → ℕ → List ℕ → List ℕ → ℕ
place z img t c key value = room (slots_of z t) (wrote z img t c key value) (start z.settings (slot_key z.settings (number_for z key c)))

abbrev pub after : Shape → List ℕ → ℕ → ℕ → List ℕ → List ℕ → List ℕ
after z img t c key value =
    filled z img t c (chunks_for z.settings (length key) (length value)) (entry_bytes z.settings key value) (place z img t c key value) (number_for z key c)

module _ {z : Shape} {img but : List ℕ} {s t c : ℕ} {key value : List ℕ} (p : Places z img but s t c key value) where
  open z use {settings}
  open settings use {slots}

  -- before and after the slot is filled, the slot, its number
  abbrev m : List ℕ
  m = wrote z img t c key value

  abbrev r : ℕ
  r = place z img t c key value

  abbrev v : ℕ
  v = number_for z key c

  pub writes : Writes z img t c (chunks_for settings (length key) (length value)) (entry_bytes settings key value)
  writes =
      record {
        image = image p;
        tier_in = is-tier p;
        ends = p.range_ends;
        bytes = entry-bytes (can_write p) p.key_bytes p.value_bytes;
        room = entry-room (can_write p);
      }

  pub after_is : slotted z (written z img t c key value) t c key ≡ after z img t c key value
  unfolding slotted written filled
  after_is = ap (λ (l : ℕ). put z m (tier t (slot (room (slots_of z t) m (start settings l)))) v) (sym (number-key p))

  law : Lawful (slots_of z t)
  law = slots-lawful (image p).framed t (is-tier p)

  pub was-fitting : TierSlotsFit z img s t
  was-fitting = p.sound.fits.entries.tiers_fit s p.segment_in t p.tier_in

  same : (j : ℕ) → j < slots → slot_at z m t j ≡ slot_at z img t j
  same = wrote-slot z img t c _ _ writes

  ok : Image z m
  ok = wrote-image z img t c _ _ writes

  abbrev e : ℕ
  e = was-fitting.slots_fit.some_empty.0

  em : Empty (slots_of z t) m e
  em = let h : e < slots = was-fitting.slots_fit.some_empty.1.0 in record { lt = h; free = same e h ∙ was-fitting.slots_fit.some_empty.1.1 }

  -- ---- the slot that is filled is one

  there : Empty (slots_of z t) m r
  there = room-empty (slots_of z t) law m _ e (law.start-lt v) em

  pub place_in : place z img t c key value < slots
  place_in = there.lt

  pub place-empty : slot_at z img t (place z img t c key value) ≡ 0
  place-empty = sym (same r place_in) ∙ there.free

  -- ---- every full slot is reached still

  was-good : Good (slots_of z t) m
  was-good j k hj hk fj on =
      let g : Good (slots_of z t) img =
      good z img (image p) t (is-tier p) was-fitting.slots_fit.some_empty was-fitting.reached in
      rw (same k hk) (g j k hj hk (rw (same j hj) at fj) (rw (same j hj) at on))

  pub after-good : Good (slots_of z t) (after z img t c key value)
  unfolding filled law slots-lawful
  after-good = insert-good (slots_of z t) law m v e ok (number_fits p) (number-full p) em was-good

  -- ---- one empty slot is left

  two-empty : 1 < count (slots_of z t) m 0
  unfolding count
  two-empty =
      omega (
        arith,
        p.roomy,
        full-total z img t,
        empty-and-full (slots_of z t) m slots,
        table_same z t img m (λ x. 1) (λ x. 1) same (λ j h ne. refl),
      )

  pub after-empty : SomeEmpty z (after z img t c key value) t
  unfolding filled law slots-lawful
  after-empty =
      let q : (i : ℕ) × Empty (slots_of z t) (put z m (tier t (slot r)) v) i =
      inserted-empty (slots_of z t) law m v e ok (number_fits p) (number-full p) em two-empty in
      (q.0, (q.1.lt, q.1.free))

  -- ---- a sum over the tier's full slots grows by what the new number adds

  pub after-total : (f f' : ℕ → ℕ) → Below slots (λ j. slot_at z img t j ≢ 0 → f' (slot_at z img t j) ≡ f (slot_at z img t j))
      → slot_total (slots_of z t) (if_full f') (after z img t c key value) slots ≡ slot_total (slots_of z t) (if_full f) img slots + f' (number_for z key c)
  unfolding filled law slots-lawful
  after-total f f' g =
      omega (
        arith,
        insert-totals (slots_of z t) law m v e ok (number_fits p) (number-full p) em (if_full f'),
        empty-is f' 0 refl,
        full_is f' v (number-full p),
        table_same z t img m f f' same g,
      )
