-- What placing an entry writes: nothing but the tier's marks, chunks and one slot.
use Prim.Native.Nat.{ℕ, ◌+◌, ◌-◌, ◌*◌, ◌≤◌, ◌<◌}
use mathlib.Core.List.{List}
use mathlib.Core.Path.{◌≡◌, ◌∙◌}
use native.Mathlib.Omega.{arith}
use lib.ListN.{length}
use lib.Seq.{sets, length-sets}
use Rattle.words.specs.Bytes.{Bytes}
use Rattle.layout.specs.declared.Shape.{Shape}
use Rattle.layout.specs.Tiers.{IsTier}
use Rattle.layout.specs.Places.{Place, tier, slot, In, get, put, put_marks, chunk_at}
use Rattle.layout.specs.Frame.{Framed, Image}
use Rattle.layout.proofs.Places.{length-put, image-put, get_other}
use Rattle.layout.proofs.Marks.{length-put_marks, image-put_marks, get-put_marks-other}
use Rattle.layout.proofs.Chunks.{image-sets, get-sets-other}
use Rattle.sound.proofs.Replaced.{OnlyTier}
use Rattle.sound.proofs.Elsewhere.{Elsewhere, only-elsewhere}

-- the run marked, bytes written into it and one slot filled
unfoldable pub filled : Shape → List ℕ → ℕ → ℕ → ℕ → List ℕ → ℕ → ℕ → List ℕ
filled z img t c n bs r v = put z (sets (put_marks z img t c n 1) (chunk_at z t c) bs) (tier t (slot r)) v

module _ (z : Shape) (img : List ℕ) (t c n : ℕ) (bs : List ℕ) where
  open z use {settings}
  open settings use {slots, chunks, chunkSize}

  -- the run and its bytes lie within tier t's chunks
  pub record Writes : Type 0 where
    pub image : Image z img
    pub tier_in : IsTier z t
    pub ends : c + n ≤ chunks
    pub bytes : Bytes bs
    pub room : length bs ≤ (chunks - c) * chunkSize

  module _ (w : Writes) (r v : ℕ) (slot_in : r < slots) where
    fr : Framed z (length img)
    fr = w.image.framed

    image : Image z (filled z img t c n bs r v)
    unfolding filled
    image = image-put (image-sets (image-put_marks w.image t c n 1 (omega arith)) (chunk_at z t c) bs w.bytes) (tier t (slot r)) v

    long : length (filled z img t c n bs r v) ≡ length img
    unfolding filled
    long = length-put z _ (tier t (slot r)) v ∙ length-sets (put_marks z img t c n 1) (chunk_at z t c) bs ∙ length-put_marks z img t c n 1

    same : (p : Place) → In z p → Elsewhere t p → get z (filled z img t c n bs r v) p ≡ get z img p
    unfolding filled
    same p h e =
        get_other fr _ (tier t (slot r)) v p (w.tier_in, slot_in) h (e.slots r)
        ∙ get-sets-other fr (put_marks z img t c n 1) t c bs p w.tier_in (omega (arith, w.ends)) w.room h e.bytes
        ∙ get-put_marks-other fr img t c n 1 p w.tier_in w.ends h e.free

    pub filled-only : OnlyTier z img (filled z img t c n bs r v) t
    filled-only = only-elsewhere z img (filled z img t c n bs r v) t image long same
