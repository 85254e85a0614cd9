-- The image is a map from places to numbers: reading after writing, and writes among themselves.
use Prim.Native.Nat.{ℕ, ◌+◌, ◌-◌, ◌*◌, ◌^◌, ◌≤◌, ◌<◌}
use mathlib.Core.List.Memᴰ
use mathlib.Core.List.{List, [], ◌∷◌, ◌++◌}
use mathlib.Core.Path.{◌≡◌, refl, ap, sym, ◌∙◌}
use mathlib.Core.Logic.{◌⊎◌, inl, inr, ⊎_elim, ◌≢◌}
use native.Mathlib.Omega.{arith}
use lib.Dec.{lit<}
use lib.ListN.{length, get_or}
use borrow.Author.Tests.{le-leb, lt-leb}
use Rattle.lists.specs.Cases.{lt-or}
use Rattle.lists.specs.Quantify.{Every, every-cons, every-none}
use Rattle.words.specs.Bytes.{Apart}
use Rattle.words.specs.Numbers.{le, le_bytes, put_le}
use Rattle.words.proofs.Bytes.{get_or-sets-out}
use Rattle.words.proofs.Numbers.{length_le_bytes, length-put_le, bytes-put_le, le-lt, le-put_le-same, le-put_le-out}
use Rattle.layout.specs.declared.Shape.{Shape}
use Rattle.layout.specs.Tiers.{tier_at, IsTier}
use Rattle.layout.specs.declared.Global.{Global}
use Rattle.layout.specs.declared.Global.TheVariants.{BulkCount as bulkCount, FirstFree as firstFree, UsedTiers as usedTiers, HeadersOffset as headersOffset, StoreSize as storeSize}
use Rattle.layout.specs.declared.Header.{Header}
use Rattle.layout.specs.declared.Header.TheVariants.{EntryCount as entry_count, LowestFree as lowestFree, NextTier as nextTier}
use Rattle.layout.specs.declared.Counter.{Counter}
use Rattle.layout.specs.declared.Counter.TheVariants.{Next as next, Previous as previous, Low as low, Segment as segment, Order as order, Count as count}
use Rattle.layout.specs.Places.{slot, counter, free, byte, Place, global, header, tier}
use Rattle.layout.specs.Places.{field_at, global_no, global_widths, header_no, header_widths, counter_no, counter_widths, own_counter, part_at}
use Rattle.layout.specs.Places.{part_wide, at, wide, In, get, put, counters_at, shared_place, Write, ◌≔◌, puts}
use Rattle.layout.specs.Frame.{Framed, Image}
use Rattle.layout.proofs.Apart.{apart, inside}

-- ---- where the fields stand

module _ (z : Shape) where
  pub global-at : (f : Global) → at z (global f) ≡ z.settings.globalAt + (8 + field_at global_widths (global_no f))
  unfolding at
  global-at f = omega arith

  pub header_at : (s : ℕ) (f : Header) → at z (header s f) ≡ z.headers + s * z.settings.headerSize + (8 + field_at header_widths (header_no f))
  unfolding at
  header_at s f = omega arith

  pub counter_at : (t : ℕ) (f : Counter) → at z (tier t (counter f)) ≡ counters_at z t + field_at counter_widths (counter_no f)
  unfolding counters_at at part_at
  counter_at t f = omega arith

  pub slot_at : (t j : ℕ) → at z (tier t (slot j)) ≡ tier_at z t + j * z.settings.slotSize
  unfolding at part_at
  slot_at t j = refl

  -- reading and writing by the offset
  pub get_at : (img : List ℕ) (p : Place) {a n : ℕ} → a ≡ at z p → n ≡ wide z p → le img a n ≡ get z img p
  unfolding get
  get_at img p e f = rw (e, f)

  pub put-at : (img : List ℕ) (p : Place) (v : ℕ) {a n : ℕ} → a ≡ at z p → n ≡ wide z p → put_le img a n v ≡ put z img p v
  unfolding put
  put-at img p v e f = rw (e, f)

-- ---- one place

pub length-put : (z : Shape) (img : List ℕ) (p : Place) (v : ℕ) → length (put z img p v) ≡ length img
unfolding put
length-put z img p v = length-put_le img (at z p) (wide z p) v

pub image-put : {z : Shape} {img : List ℕ} → Image z img → (p : Place) (v : ℕ) → Image z (put z img p v)
unfolding put
image-put {z} {img} i p v = record { bytes = bytes-put_le img (at z p) (wide z p) v i.bytes; framed = rw length-put_le i.framed }

pub get-lt : {z : Shape} {img : List ℕ} → Image z img → (p : Place) → get z img p < 256 ^ wide z p
unfolding get
get-lt {z} {img} i p = le-lt img (at z p) (wide z p) i.bytes

pub get-same : {z : Shape} {img : List ℕ} → Image z img → (p : Place) (v : ℕ) → In z p → v < 256 ^ wide z p → get z (put z img p v) p ≡ v
unfolding get put
get-same {z} {img} i p v h f = le-put_le-same img (at z p) (wide z p) v (omega (arith, inside i.framed p h, i.framed.within)) f

-- a byte that is none of the place's
pub get_or-put-out : (z : Shape) (img : List ℕ) (p : Place) (v i : ℕ) → Apart i 1 (at z p) (wide z p) → get_or (put z img p v) i 0 ≡ get_or img i 0
unfolding put put_le
get_or-put-out z img p v i o =
    get_or-sets-out img (at z p) (le_bytes (wide z p) v) i
    (⊎_elim (λ (a : i + 1 ≤ at z p). inl (omega arith)) (λ (a : at z p + wide z p ≤ i). inr (omega (arith, length_le_bytes (wide z p) v))) o)

-- ---- two places

module _ {z : Shape} {len : ℕ} (fr : Framed z len) (img : List ℕ) where
  pub get_other : (p : Place) (v : ℕ) (q : Place) → In z p → In z q → q ≢ p → get z (put z img p v) q ≡ get z img q
  unfolding get put
  get_other p v q h k ne = le-put_le-out img (at z p) (wide z p) v (at z q) (wide z q) (apart fr p q h k (λ e. ne (sym e)))

-- ---- several writes

-- the place that a write writes
abbrev pub written : Write → Place
written (p ≔ v) = p

-- some writes leave place q
abbrev pub Spares : Shape → Place → List Write → Type 0
Spares z q ws = Every ws (λ w. In z (written w) × (q ≢ written w))

module _ (z : Shape) (q : Place) where
  pub spare-none : Spares z q []
  spare-none = every-none (λ w. In z (written w) × (q ≢ written w))

  pub spare : (p : Place) (v : ℕ) (ws : List Write) → In z p → q ≢ p → Spares z q ws → Spares z q ((p ≔ v) ∷ ws)
  spare p v ws h ne e = every-cons (λ w. In z (written w) × (q ≢ written w)) (p ≔ v) ws (h, ne) e

  pub spares_both : (ws vs : List Write) → Spares z q ws → Spares z q vs → Spares z q (ws ++ vs)
  spares_both ws vs a b w m = ⊎_elim (λ k. a w k) (λ k. b w k) (Memᴰ.append_cases ws m)

pub puts-append : (z : Shape) (img : List ℕ) (ws vs : List Write) → puts z img (ws ++ vs) ≡ puts z (puts z img ws) vs
unfolding puts
puts-append z img [] vs = refl
puts-append z img ((p ≔ v) ∷ ws) vs = puts-append z (put z img p v) ws vs

pub length-puts : (z : Shape) (img : List ℕ) (ws : List Write) → length (puts z img ws) ≡ length img
unfolding puts
length-puts z img [] = refl
length-puts z img ((p ≔ v) ∷ ws) = length-puts z (put z img p v) ws ∙ length-put z img p v

pub image-puts : {z : Shape} {img : List ℕ} → Image z img → (ws : List Write) → Image z (puts z img ws)
unfolding puts
image-puts i [] = i
image-puts {z = z} {img = img} i ((p ≔ v) ∷ ws) = image-puts {img = put z img p v} (image-put i p v) ws

pub get-puts-other : {z : Shape} {len : ℕ} → Framed z len → (img : List ℕ) (ws : List Write) (q : Place)
    → In z q → Spares z q ws → get z (puts z img ws) q ≡ get z img q
unfolding puts
get-puts-other fr img [] q k h = refl
get-puts-other {z} fr img ((p ≔ v) ∷ ws) q k h =
    get-puts-other fr (put z img p v) ws q k (λ w m. h w (Memᴰ.tail m))
    ∙ get_other fr img p v q (h (p ≔ v) (Memᴰ.head refl)).0 k (h (p ≔ v) (Memᴰ.head refl)).1

-- a write of a place, followed by writes of other places
pub get-puts-here : {z : Shape} {img : List ℕ} → Image z img → (us : List Write) (p : Place) (v : ℕ) (vs : List Write) → In z p → v < 256 ^ wide z p
    → Spares z p vs → get z (puts z img (us ++ (p ≔ v) ∷ vs)) p ≡ v
unfolding puts
get-puts-here {z} {img} im us p v vs h f e =
    ap (λ (r : List ℕ). get z r p) (puts-append z img us ((p ≔ v) ∷ vs))
    ∙ get-puts-other (image-puts im us).framed _ vs p h e
    ∙ get-same (image-puts im us) p v h f

pub get_or-puts-out : (z : Shape) (img : List ℕ) (ws : List Write) (i : ℕ) → Every ws (λ w. Apart i 1 (at z (written w)) (wide z (written w)))
    → get_or (puts z img ws) i 0 ≡ get_or img i 0
unfolding puts
get_or-puts-out z img [] i o = refl
get_or-puts-out z img ((p ≔ v) ∷ ws) i o =
    get_or-puts-out z (put z img p v) ws i (λ w m. o w (Memᴰ.tail m)) ∙ get_or-put-out z img p v i (o (p ≔ v) (Memᴰ.head refl))

-- ---- places of different kinds are different places

-- a number for each name, whatever its indexes
abbrev pub kind : Place → ℕ
kind (global f) = global_no f
kind (header s f) = 5 + header_no f
kind (tier t (slot j)) = 8
kind (tier t (counter f)) = 9 + counter_no f
kind (tier t (free b)) = 15
kind (tier t (byte i)) = 16

pub by_kind : {p q : Place} → kind p ≢ kind q → p ≢ q
by_kind ne e = ne (ap kind e)

pub global-lt : (f : Global) → global_no f < 5
global-lt bulkCount = lit< tt
global-lt firstFree = lit< tt
global-lt usedTiers = lit< tt
global-lt headersOffset = lit< tt
global-lt storeSize = lit< tt

header-lt : (f : Header) → header_no f < 3
header-lt entry_count = lit< tt
header-lt lowestFree = lit< tt
header-lt nextTier = lit< tt

pub counter-lt : (f : Counter) → counter_no f < 6
counter-lt next = lit< tt
counter-lt previous = lit< tt
counter-lt low = lit< tt
counter-lt segment = lit< tt
counter-lt order = lit< tt
counter-lt count = lit< tt

-- ---- the three numbers that a main tier has in its segment header

module _ (z : Shape) (f : Header) (g : Counter) where
  pub shared-main : (t : ℕ) → t ≤ z.settings.segments → shared_place z f g t ≡ header (t - 1) f
  unfolding shared_place
  shared-main t h = rw (le-leb t z.settings.segments h, shared_place)

  pub shared-extra : (t : ℕ) → z.settings.segments < t → shared_place z f g t ≡ tier t (counter g)
  unfolding shared_place
  shared-extra t h = rw (lt-leb t z.settings.segments h, shared_place)

  pub shared-is : (t : ℕ)
      → ((t ≤ z.settings.segments) × (shared_place z f g t ≡ header (t - 1) f)) ⊎
      ((z.settings.segments < t) × (shared_place z f g t ≡ tier t (counter g)))
  shared-is t = ⊎_elim (λ h. inr (h, shared-extra t h)) (λ h. inl (h, shared-main t h)) (lt-or z.settings.segments t)

  shared-at-main : (t : ℕ) → t ≤ z.settings.segments
      → at z (shared_place z f g t) ≡ z.headers + (t - 1) * z.settings.headerSize + (8 + field_at header_widths (header_no f))
  shared-at-main t h = rw (shared-main t h) (header_at z (t - 1) f)

  shared-at-extra : (t : ℕ) → z.settings.segments < t → at z (shared_place z f g t) ≡ counters_at z t + field_at counter_widths (counter_no g)
  shared-at-extra t h = rw (shared-extra t h) (counter_at z t g)

  pub shared-wide-main : (t : ℕ) → t ≤ z.settings.segments → wide z (shared_place z f g t) ≡ get_or header_widths (header_no f) 0
  unfolding wide
  shared-wide-main t h = rw (shared-main t h)

  pub shared-wide-extra : (t : ℕ) → z.settings.segments < t → wide z (shared_place z f g t) ≡ get_or counter_widths (counter_no g) 0
  unfolding wide part_wide
  shared-wide-extra t h = rw (shared-extra t h)

  -- where the two have one width
  pub shared-wide : (t : ℕ) → get_or header_widths (header_no f) 0 ≡ get_or counter_widths (counter_no g) 0
      → wide z (shared_place z f g t) ≡ get_or header_widths (header_no f) 0
  shared-wide t e = ⊎_elim (λ s. shared-wide-main t s.0) (λ s. shared-wide-extra t s.0 ∙ sym e) (shared-is t)

  -- its offset and its width
  pub shared-bytes-main : (t : ℕ) → t ≤ z.settings.segments
      → ◌≡◌ {A = ℕ × ℕ} (z.headers + (t - 1) * z.settings.headerSize + (8 + field_at header_widths (header_no f)), get_or header_widths (header_no f) 0)
      (at z (shared_place z f g t), wide z (shared_place z f g t))
  shared-bytes-main t h = rw (shared-at-main t h, shared-wide-main t h)

  pub shared-bytes-extra : (t : ℕ) → z.settings.segments < t
      → ◌≡◌ {A = ℕ × ℕ} (counters_at z t + field_at counter_widths (counter_no g), get_or counter_widths (counter_no g) 0)
      (at z (shared_place z f g t), wide z (shared_place z f g t))
  shared-bytes-extra t h = rw (shared-at-extra t h, shared-wide-extra t h)

  pub shared_in : (t : ℕ) → IsTier z t → In z (shared_place z f g t)
  shared_in t h = ⊎_elim (λ s. rw s.1 (omega arith)) (λ s. rw s.1 (h, tt)) (shared-is t)

  -- it is of the kind of f or of g: never a slot, a byte of the free list or of a chunk
  pub shared-kind : (t : ℕ) → (kind (shared_place z f g t) ≡ 5 + header_no f) ⊎ (kind (shared_place z f g t) ≡ 9 + counter_no g)
  shared-kind t = ⊎_elim (λ s. inl (ap kind s.1)) (λ s. inr (ap kind s.1)) (shared-is t)

  pub shared-never : (t : ℕ) (q : Place) → kind q ≢ 5 + header_no f → kind q ≢ 9 + counter_no g → shared_place z f g t ≢ q
  shared-never t q h k e =
      let same : kind (shared_place z f g t) ≡ kind q = ap kind e in ⊎_elim (λ a. omega arith) (λ a. omega arith) (shared-kind t)

  pub shared-slot : (t u j : ℕ) → shared_place z f g t ≢ tier u (slot j)
  shared-slot t u j = shared-never t (tier u (slot j)) (omega (arith, header-lt f)) (omega arith)

  pub shared-free : (t u b : ℕ) → shared_place z f g t ≢ tier u (free b)
  shared-free t u b = shared-never t (tier u (free b)) (omega (arith, header-lt f)) (omega (arith, counter-lt g))

  pub shared-byte : (t u i : ℕ) → shared_place z f g t ≢ tier u (byte i)
  shared-byte t u i = shared-never t (tier u (byte i)) (omega (arith, header-lt f)) (omega (arith, counter-lt g))

  -- each tier has its own
  pub shared-tiers : (t u : ℕ) → 1 ≤ t → 1 ≤ u → t ≢ u → shared_place z f g t ≢ shared_place z f g u
  shared-tiers t u h k ne e =
      ⊎_elim
      (λ a.
      ⊎_elim
      (λ b. let same : t - 1 ≡ u - 1 = cc in omega arith)
      (λ b. let same : header (t - 1) f ≡ tier u (counter g) = cc in by_kind (omega (arith, header-lt f)) same)
      (shared-is u))
      (λ a.
      ⊎_elim
      (λ b. let same : tier t (counter g) ≡ header (u - 1) f = cc in by_kind (omega (arith, header-lt f)) same)
      (λ b. let same : t ≡ u = cc in ne same)
      (shared-is u))
      (shared-is t)

-- 4 bytes or 8
header-four : (f : Header) → (get_or header_widths (header_no f) 0 ≡ 4) ⊎ (get_or header_widths (header_no f) 0 ≡ 8)
header-four entry_count = inl refl
header-four lowestFree = inl refl
header-four nextTier = inr refl

own-four : (f : Header) → (get_or counter_widths (counter_no (own_counter f)) 0 ≡ 4) ⊎ (get_or counter_widths (counter_no (own_counter f)) 0 ≡ 8)
own-four entry_count = inl refl
own-four lowestFree = inr refl
own-four nextTier = inr refl

pub shared-four : (z : Shape) (f : Header) (t : ℕ)
    → (wide z (shared_place z f (own_counter f) t) ≡ 4) ⊎ (wide z (shared_place z f (own_counter f) t) ≡ 8)
shared-four z f t =
    ⊎_elim
    (λ (s : z.settings.segments < t). rw (shared-wide-extra z f (own_counter f) t s) (own-four f))
    (λ (s : t ≤ z.settings.segments). rw (shared-wide-main z f (own_counter f) t s) (header-four f))
    (lt-or z.settings.segments t)

-- two of the three, of whatever tiers
pub shared-fields : (z : Shape) (f f' : Header) (g g' : Counter) (t u : ℕ) → header_no f ≢ header_no f' → counter_no g ≢ counter_no g'
    → shared_place z f g t ≢ shared_place z f' g' u
shared-fields z f f' g g' t u h k =
    shared-never z f g t (shared_place z f' g' u)
    (λ e. ⊎_elim (λ a. omega arith) (λ a. omega (arith, header-lt f)) (shared-kind z f' g' u))
    (λ e. ⊎_elim (λ a. omega (arith, header-lt f')) (λ a. omega arith) (shared-kind z f' g' u))
