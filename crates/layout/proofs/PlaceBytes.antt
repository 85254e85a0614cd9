-- Where the code finds a place: its offset and its width, within the image.
use Prim.Native.Nat.{ℕ, ◌+◌, ◌*◌, ◌≤◌}
use mathlib.Core.List.{List}
use mathlib.Core.Path.{◌≡◌, refl, ap, sym, ◌∙◌}
use native.Mathlib.Omega.{arith}
use lib.Dec.{lit≤}
use lib.ListN.{get_or, length}
use Rattle.words.specs.Numbers.{le, put_le}
use Rattle.settings.specs.Rules.{largest}
use Rattle.layout.specs.declared.Shape.{Shape}
use Rattle.layout.specs.Tiers.{tier_at, IsTier}
use Rattle.layout.specs.declared.Global.{Global}
use Rattle.layout.specs.declared.Global.TheVariants.{BulkCount as bulkCount, FirstFree as firstFree, UsedTiers as usedTiers, HeadersOffset as headersOffset, StoreSize as storeSize}
use Rattle.layout.specs.declared.Header.{Header}
use Rattle.layout.specs.declared.Counter.{Counter}
use Rattle.layout.specs.Places.{slot, counter, Place, global, tier, field_at, global_no, global_widths, counter_no, counter_widths}
use Rattle.layout.specs.Places.{part_wide, at, wide, In, get, put, counters_at, shared_place, own_counter}
use Rattle.layout.specs.Frame.{Framed}
use Rattle.layout.specs.FramedTier.{FramedSlot}
use Rattle.layout.proofs.Apart.{inside}
use Rattle.layout.proofs.Bounds.{slot-eight}
use Rattle.layout.proofs.Places.{global-at, counter_at, slot_at, get_at, put-at, shared_in, shared-four}

-- place p is the n bytes at offset a of an image of this length
pub record PlaceBytes (z : Shape) (len : ℕ) (p : Place) (a n : ℕ) : Type 0 where
  pub offset : a ≡ at z p
  pub width : n ≡ wide z p
  pub within : a + n ≤ len
  pub small : a ≤ largest

-- ---- what is read and written there

module _ {z : Shape} {len : ℕ} {p : Place} {a n : ℕ} (s : PlaceBytes z len p a n) where
  pub le-place : (img : List ℕ) → le img a n ≡ get z img p
  le-place img = get_at z img p s.offset s.width

  pub put_le-place : (img : List ℕ) (v : ℕ) → put_le img a n v ≡ put z img p v
  put_le-place img v = put-at z img p v s.offset s.width

-- ---- every place stands where the code looks for it

module _ {z : Shape} {len : ℕ} (fr : Framed z len) where
  place-bytes : (p : Place) → In z p → {a n : ℕ} → a ≡ at z p → n ≡ wide z p → PlaceBytes z len p a n
  place-bytes p h e f =
      record { offset = e; width = f; within = omega (arith, inside fr p h, fr.within); small = omega (arith, inside fr p h, fr.within, fr.small) }

  pub global-bytes : (f : Global)
      → PlaceBytes z len (global f) (z.settings.globalAt + (8 + field_at global_widths (global_no f))) (get_or global_widths (global_no f) 0)
  unfolding wide
  global-bytes f = place-bytes (global f) tt (sym (global-at z f)) refl

-- 8 bytes at most
pub global-wide : (f : Global) → get_or global_widths (global_no f) 0 ≤ 8
global-wide bulkCount = lit≤ tt
global-wide firstFree = lit≤ tt
global-wide usedTiers = lit≤ tt
global-wide headersOffset = lit≤ tt
global-wide storeSize = lit≤ tt

module _ {z : Shape} {len t : ℕ} (h : Framed z len × IsTier z t) where
  pub counter-bytes : (f : Counter) {a : ℕ} → a ≡ counters_at z t
      → PlaceBytes z len (tier t (counter f)) (a + field_at counter_widths (counter_no f)) (get_or counter_widths (counter_no f) 0)
  unfolding wide part_wide
  counter-bytes f e = place-bytes h.0 (tier t (counter f)) (h.1, tt) (rw e (sym (counter_at z t f))) refl

  -- a number that a main tier has in its segment header, by its offset and width in one pair
  module _ (f : Header) {r : ℕ × ℕ} (e : r ≡ (at z (shared_place z f (own_counter f) t), wide z (shared_place z f (own_counter f) t))) where
    pub shared-bytes : {n : ℕ} → r.1 ≡ n → PlaceBytes z len (shared_place z f (own_counter f) t) r.0 n
    shared-bytes w =
        place-bytes h.0 (shared_place z f (own_counter f) t) (shared_in z f (own_counter f) t h.1) (ap (λ (p : ℕ × ℕ). p.0) e)
        (sym w ∙ ap (λ (p : ℕ × ℕ). p.1) e)

    pub shared-eight : (r.1 ≡ 4 → ⊥) → r.1 ≡ 8
    shared-eight = slot-eight (rw (ap (λ (p : ℕ × ℕ). p.1) e) (shared-four z f t))

pub slot-bytes : {z : Shape} {img : List ℕ} {t j : ℕ} → FramedSlot z img t j → {a n : ℕ} → a ≡ tier_at z t → n ≡ z.settings.slotSize
    → PlaceBytes z (length img) (tier t (slot j)) (a + j * z.settings.slotSize) n
unfolding wide part_wide
slot-bytes {z} {img} {t} {j} h e f =
    place-bytes h.tier.framed (tier t (slot j)) (h.tier.tier_in, h.slot_in) (ap (λ (x : ℕ). x + j * z.settings.slotSize) e ∙ sym (slot_at z t j)) f
