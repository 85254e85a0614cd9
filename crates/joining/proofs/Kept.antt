-- What the seven writes that let tier t join after tier l leave as it was.
use Prim.Native.Nat.{ℕ, ◌<◌}
use mathlib.Core.List.{List, [], ◌∷◌}
use mathlib.Core.Path.{◌≡◌, sym}
use mathlib.Core.Logic.{⊎_elim, ◌≢◌}
use native.Mathlib.Omega.{arith}
use Rattle.lists.specs.Quantify.{every-cons, every-none}
use Rattle.layout.specs.declared.Shape.{Shape}
use Rattle.layout.specs.Tiers.{IsTier}
use Rattle.layout.specs.declared.Global.{Global}
use Rattle.layout.specs.declared.Global.TheVariants.{FirstFree as firstFree, UsedTiers as usedTiers}
use Rattle.layout.specs.declared.Header.{Header}
use Rattle.layout.specs.declared.Header.TheVariants.{NextTier as nextTier}
use Rattle.layout.specs.declared.Counter.{Counter}
use Rattle.layout.specs.declared.Counter.TheVariants.{Next as next, Previous as previous, Segment as segment, Order as order}
use Rattle.layout.specs.Places.{global_no, header_no, counter_no, Place, global, tier, slot, counter, free, byte, In, get, shared_place, next_place, Write, ◌≔◌, puts}
use Rattle.layout.specs.Frame.{Image}
use Rattle.layout.proofs.Places.{global-lt, get-puts-other, length-puts, kind, by_kind, shared_in, shared-kind, shared-never, shared-tiers}
use Rattle.sound.proofs.AgreeTier.{SameTier}
use Rattle.sound.proofs.Elsewhere.{tier-by-places}

-- tier t joins after tier l, as the tier at place n of segment s's chain; a becomes the first free tier, and b tiers are used
abbrev pub join_writes : Shape → (s t l a b n : ℕ) → List Write
join_writes z s t l a b n =
    next_place z l ≔ t
    ∷ global firstFree ≔ a
    ∷ global usedTiers ≔ b
    ∷ next_place z t ≔ 0
    ∷ tier t (counter previous) ≔ l
    ∷ tier t (counter segment) ≔ s
    ∷ tier t (counter order) ≔ n
    ∷ []

module _ {z : Shape} {img : List ℕ} (im : Image z img) (s t l a b n : ℕ) (it : IsTier z t) (il : IsTier z l) where
  abbrev after : List ℕ
  after = puts z img (join_writes z s t l a b n)

  -- a place that is none of the seven
  record NotWritten (q : Place) : Type 0 where
    pub last : q ≢ next_place z l
    pub head : q ≢ global firstFree
    pub used : q ≢ global usedTiers
    pub new : q ≢ next_place z t
    pub before : q ≢ tier t (counter previous)
    pub owner : q ≢ tier t (counter segment)
    pub place : q ≢ tier t (counter order)

  kept : (q : Place) → In z q → NotWritten q → get z after q ≡ get z img q
  kept q h w =
      get-puts-other im.framed img (join_writes z s t l a b n) q h
      (every-cons _ _ _ (shared_in z nextTier next l il, w.last)
      (every-cons _ _ _ (tt, w.head)
      (every-cons _ _ _ (tt, w.used)
      (every-cons _ _ _ (shared_in z nextTier next t it, w.new)
      (every-cons _ _ _ ((it, tt), w.before)
      (every-cons _ _ _ ((it, tt), w.owner)
      (every-cons _ _ _ ((it, tt), w.place)
      (every-none _))))))))

  -- one of another kind
  by-kinds : (q : Place) → (kind q ≢ 1) × (kind q ≢ 2) × (kind q ≢ 7) × (kind q ≢ 9) × (kind q ≢ 10) × (kind q ≢ 12) × (kind q ≢ 13)
      → NotWritten q
  by-kinds q k =
      record {
        last = λ e. shared-never z nextTier next l q k.2 k.3 (sym e);
        head = by_kind k.0;
        used = by_kind k.1;
        new = λ e. shared-never z nextTier next t q k.2 k.3 (sym e);
        before = by_kind k.4;
        owner = by_kind k.5;
        place = by_kind k.6;
      }

  pub next-kept : (u : ℕ) → IsTier z u → u ≢ l → u ≢ t → get z after (next_place z u) ≡ get z img (next_place z u)
  next-kept u iu nl nt =
      kept (next_place z u) (shared_in z nextTier next u iu)
      (record {
        last = shared-tiers z nextTier next u l iu.0 il.0 nl;
        head = shared-never z nextTier next u (global firstFree) (omega arith) (omega arith);
        used = shared-never z nextTier next u (global usedTiers) (omega arith) (omega arith);
        new = shared-tiers z nextTier next u t iu.0 it.0 nt;
        before = shared-never z nextTier next u (tier t (counter previous)) (omega arith) (omega arith);
        owner = shared-never z nextTier next u (tier t (counter segment)) (omega arith) (omega arith);
        place = shared-never z nextTier next u (tier t (counter order)) (omega arith) (omega arith);
      })

  pub counter-kept : (f : Counter) → counter_no f ≢ 0 → (u : ℕ) → IsTier z u → u ≢ t
      → get z after (tier u (counter f)) ≡ get z img (tier u (counter f))
  counter-kept f nf u iu nt =
      kept (tier u (counter f)) (iu, tt)
      (record {
        last = λ e. shared-never z nextTier next l (tier u (counter f)) (omega arith) (omega arith) (sym e);
        head = by_kind (omega arith);
        used = by_kind (omega arith);
        new = λ e. shared-never z nextTier next t (tier u (counter f)) (omega arith) (omega arith) (sym e);
        before = λ e. let same : u ≡ t = cc in nt same;
        owner = λ e. let same : u ≡ t = cc in nt same;
        place = λ e. let same : u ≡ t = cc in nt same;
      })

  pub shared_kept : (f : Header) (g : Counter)
      → (header_no f < 2) × (counter_no g ≢ 0) × (counter_no g ≢ 1) × (counter_no g ≢ 3) × (counter_no g ≢ 4) → (u : ℕ) → IsTier z u
      → get z after (shared_place z f g u) ≡ get z img (shared_place z f g u)
  shared_kept f g k u iu =
      kept (shared_place z f g u) (shared_in z f g u iu)
      (by-kinds (shared_place z f g u) (⊎_elim (λ e. omega (arith, k.0)) (λ e. omega (arith, k.1, k.2, k.3, k.4)) (shared-kind z f g u)))

  pub same-tiers : (u : ℕ) → IsTier z u → SameTier z img after u
  same-tiers u iu =
      tier-by-places z img after u (length-puts z img (join_writes z s t l a b n))
      (λ j h. kept (tier u (slot j)) (iu, h) (by-kinds (tier u (slot j)) (omega arith)))
      (λ b h. kept (tier u (free b)) (iu, h) (by-kinds (tier u (free b)) (omega arith)))
      (λ i h. kept (tier u (byte i)) (iu, h) (by-kinds (tier u (byte i)) (omega arith)))

  pub global-kept : (f : Global) → global_no f ≢ 1 → global_no f ≢ 2 → get z after (global f) ≡ get z img (global f)
  global-kept f k1 k2 = kept (global f) tt (by-kinds (global f) (omega (arith, global-lt f)))
