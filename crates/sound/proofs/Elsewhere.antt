-- Where every place but the slots, marks and chunks of one tier reads as before, nothing but that tier is changed.
use Prim.Native.Nat.{ℕ, ◌-◌, ◌*◌, ◌/◌, ◌%◌, ◌<◌}
use mathlib.Core.List.{List}
use mathlib.Core.Path.{◌≡◌, ap, sym, ◌∙◌}
use mathlib.Core.Logic.{◌≢◌}
use native.Mathlib.Omega.{arith}
use lib.ListN.{length}
use Rattle.words.specs.Bits.{bit_of}
use Rattle.layout.specs.declared.Shape.{Shape}
use Rattle.layout.specs.Tiers.{IsTier}
use Rattle.layout.specs.declared.Global.{Global}
use Rattle.layout.specs.declared.Header.{Header}
use Rattle.layout.specs.declared.Counter.{Counter}
use Rattle.layout.specs.Places.{Part, slot, counter, free, byte, Place, global, tier, shared_place, In, get}
use Rattle.layout.specs.Frame.{Image}
use Rattle.layout.proofs.Places.{shared_in, shared-slot, shared-free, shared-byte}
use Rattle.layout.proofs.Marks.{NoFree, mark-get}
use Rattle.layout.proofs.Chunks.{NoByte, cut-chunks}
use Rattle.sound.proofs.AgreeTier.{SameTier}
use Rattle.sound.proofs.Replaced.{OnlyTier}

-- a tier agrees where its slots, the bytes of its free list and those of its chunks do
pub tier-by-places : (z : Shape) (img img' : List ℕ) (u : ℕ) → length img' ≡ length img
    → ((j : ℕ) → j < z.settings.slots → get z img' (tier u (slot j)) ≡ get z img (tier u (slot j)))
    → ((b : ℕ) → 8 * b < z.settings.chunks → get z img' (tier u (free b)) ≡ get z img (tier u (free b)))
    → ((i : ℕ) → i < z.settings.chunks * z.settings.chunkSize → get z img' (tier u (byte i)) ≡ get z img (tier u (byte i)))
    → SameTier z img img' u
tier-by-places z img img' u long slots frees bytes =
    let all : z.settings.chunks - 0 ≡ z.settings.chunks = omega arith in
    record {
      slots = slots;
      marks = λ i h. mark-get z img' u i ∙ ap (λ (v : ℕ). bit_of v (i % 8)) (frees (i / 8) (omega arith)) ∙ sym (mark-get z img u i);
      bytes = rw all at (cut-chunks z u img' img 0 long bytes (omega arith));
    }

-- a place of the image that is none of tier t's slots, marks and chunks
pub record Elsewhere (t : ℕ) (p : Place) : Type 0 where
  pub slots : (j : ℕ) → p ≢ tier t (slot j)
  pub free : NoFree t p
  pub bytes : NoByte t p

module _ (z : Shape) (img img' : List ℕ) (t : ℕ) (image : Image z img') (long : length img' ≡ length img)
    (same : (p : Place) → In z p → Elsewhere t p → get z img' p ≡ get z img p) where
  same-global : (f : Global) → get z img' (global f) ≡ get z img (global f)
  same-global f =
      same (global f) tt
      (record {
        slots = λ j e. let y : ◌≡◌ {A = ℕ} 0 1 = cc in omega arith;
        free = λ b e. let y : ◌≡◌ {A = ℕ} 0 1 = cc in omega arith;
        bytes = λ i e. let y : ◌≡◌ {A = ℕ} 0 1 = cc in omega arith;
      })

  same-counter : (f : Counter) (u : ℕ) → IsTier z u → get z img' (tier u (counter f)) ≡ get z img (tier u (counter f))
  same-counter f u is =
      same (tier u (counter f)) (is, tt)
      (record {
        slots = λ j e. let y : ◌≡◌ {A = ℕ} 0 1 = cc in omega arith;
        free = λ b e. let y : ◌≡◌ {A = ℕ} 0 1 = cc in omega arith;
        bytes = λ i e. let y : ◌≡◌ {A = ℕ} 0 1 = cc in omega arith;
      })

  same-shared : (f : Header) (g : Counter) (u : ℕ) → IsTier z u → get z img' (shared_place z f g u) ≡ get z img (shared_place z f g u)
  same-shared f g u is =
      same (shared_place z f g u) (shared_in z f g u is)
      (record { slots = shared-slot z f g u t; free = shared-free z f g u t; bytes = shared-byte z f g u t })

  same-part : (u : ℕ) → u ≢ t → (q : Part) → In z (tier u q) → get z img' (tier u q) ≡ get z img (tier u q)
  same-part u ne q h =
      same (tier u q) h
      (record {
        slots = λ j e. let one : u ≡ t = cc in ne one;
        free = λ b e. let one : u ≡ t = cc in ne one;
        bytes = λ i e. let one : u ≡ t = cc in ne one;
      })

  pub only-elsewhere : OnlyTier z img img' t
  only-elsewhere =
      record {
        image = image;
        long = long;
        globals = same-global;
        chains =
            record {
              nexts = λ u is. same-shared _ _ u is;
              previous = λ u is. same-counter _ u is;
              segment = λ u is. same-counter _ u is;
              order = λ u is. same-counter _ u is;
              head = same-global _;
              used = same-global _;
            };
        others =
            λ u is ne.
            tier-by-places z img img' u long
            (λ j h. same-part u ne (slot j) (is, h)) (λ b h. same-part u ne (free b) (is, h)) (λ i h. same-part u ne (byte i) (is, h));
        counts = λ u is ne. record { count = same-shared _ _ u is; low = same-shared _ _ u is };
      }
