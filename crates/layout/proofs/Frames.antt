-- Laws of the frame: what is accepted, and which writes keep it.
use Prim.Native.Nat.{ℕ, ◌+◌}
use mathlib.Core.List.{List}
use mathlib.Core.Path.{◌≡◌, refl, sym, ◌∙◌}
use native.Mathlib.Omega.{arith}
use lib.ListN.{length}
use Rattle.std.specs.Prelude.{Some, None}
use Rattle.lists.proofs.Decides.{choose-by, choose_no, choose_yes}
use Rattle.words.specs.Numbers.{le}
use Rattle.settings.specs.declared.Settings.{Settings}
use Rattle.settings.specs.Rules.{Valid}
use Rattle.layout.specs.declared.Shape.{Shape}
use Rattle.layout.specs.declared.Global.TheVariants.{BulkCount as bulkCount, HeadersOffset as headersOffset, StoreSize as storeSize}
use Rattle.layout.specs.Places.{global, wide, get}
use Rattle.layout.specs.Frame.{shape_of, FrameFits, frame_fits?, frame_of, Framed}
use Rattle.layout.proofs.Places.{global-at, get_at}

-- ---- a frame is accepted exactly where it fits

module _ (st : Settings) (img : List ℕ) where
  pub frame-fits : FrameFits (shape_of st img) img → frame_of st img ≡ Some (shape_of st img)
  unfolding frame_of
  frame-fits f = choose_yes (frame_fits? (shape_of st img) img) _ _ f

  pub frame-broken : (FrameFits (shape_of st img) img → ⊥) → frame_of st img ≡ None
  unfolding frame_of
  frame-broken h = choose_no (frame_fits? (shape_of st img) img) _ _ h

  -- and nothing else is accepted
  pub record Fitting (z : Shape) : Type 0 where
    pub is : z ≡ shape_of st img
    pub fits : FrameFits z img

  pub frame-only : (z : Shape) → frame_of st img ≡ Some z → Fitting z
  unfolding frame_of
  frame-only z =
      choose-by (frame_fits? (shape_of st img) img) _ _ (λ x. x ≡ Some z → Fitting z) (λ _ e. absurd (let o : ◌≡◌ {A = ℕ} 0 1 = cc in omega arith))
      λ f e. let same : shape_of st img ≡ z = cc in record { is = sym same; fits = rw (← same) f }

  pub framed : Valid st → FrameFits (shape_of st img) img → Framed (shape_of st img) (length img)
  unfolding shape_of
  framed v f = record { valid = v; headers_after = f.headers_after; tier_count = f.tier_count; within = f.store_within; small = f.image_length.1 }

  pub frame-framed : (z : Shape) → Valid st → frame_of st img ≡ Some z → Framed z (length img)
  frame-framed z v e = let f = frame-only z e in rw f.is (framed v (rw f.is at f.fits))

-- ---- the shape is what two places say

pub shape-settings : (st : Settings) (img : List ℕ) → (shape_of st img).settings ≡ st
unfolding shape_of
shape-settings st img = refl

module _ (z : Shape) (img : List ℕ) where
  pub headers-get : get z img (global headersOffset) ≡ (shape_of z.settings img).headers
  unfolding shape_of wide
  headers-get = sym (get_at z img (global headersOffset) (sym (global-at z headersOffset)) refl)

  pub bulks-get : get z img (global bulkCount) ≡ (shape_of z.settings img).bulks
  unfolding shape_of wide
  bulks-get = sym (get_at z img (global bulkCount) (sym (global-at z bulkCount)) refl)

  pub store_size_get : get z img (global storeSize) ≡ le img (z.settings.globalAt + 25) 8
  unfolding wide
  store_size_get = sym (get_at z img (global storeSize) (sym (global-at z storeSize)) refl)

-- two images that agree on these places
pub shape_same : (z : Shape) (img img' : List ℕ) → get z img' (global headersOffset) ≡ get z img (global headersOffset)
    → get z img' (global bulkCount) ≡ get z img (global bulkCount) → shape_of z.settings img' ≡ shape_of z.settings img
unfolding shape_of
shape_same z img img' h b =
    let hh : (shape_of z.settings img').headers ≡ (shape_of z.settings img).headers = sym (headers-get z img') ∙ h ∙ headers-get z img in
    let bb : (shape_of z.settings img').bulks ≡ (shape_of z.settings img).bulks = sym (bulks-get z img') ∙ b ∙ bulks-get z img in
    λ i. record { settings = z.settings; headers = hh i; bulks = bb i }

pub fits-same : (z : Shape) (img img' : List ℕ) → length img' ≡ length img → get z img' (global storeSize) ≡ get z img (global storeSize)
    → FrameFits z img → FrameFits z img'
fits-same z img img' e s f =
    record {
      image_length = rw e f.image_length;
      headers_after = f.headers_after;
      tier_count = f.tier_count;
      store_size_is = s ∙ f.store_size_is;
      store_within = rw e f.store_within;
    }
