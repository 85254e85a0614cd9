-- What stands in the tier that an entry is written to: its slots, marks and chunks.
use Prim.Native.Nat.{ℕ, ◌+◌, ◌-◌, ◌*◌, ◌^◌, ◌≤◌, ◌<◌}
use mathlib.Core.List.{List}
use mathlib.Core.Path.{◌≡◌, ◌∙◌}
use mathlib.Core.Logic.{◌⊎◌, ◌≢◌}
use native.Mathlib.Omega.{arith}
use lib.ListN.{length}
use lib.Seq.{sets}
use Rattle.words.specs.Bytes.{cut, Apart}
use Rattle.words.proofs.Bytes.{cut-sets-out, cut-sets-same}
use Rattle.words.proofs.Cuts.{cut-within}
use Rattle.layout.specs.declared.Shape.{Shape}
use Rattle.layout.specs.Places.{tier, slot, put, mark, put_marks, wide, part_wide, chunk_at}
use Rattle.layout.specs.Frame.{Framed, Image}
use Rattle.layout.proofs.Places.{get-same, get_other, by_kind}
use Rattle.layout.proofs.Marks.{length-put_marks, image-put_marks, mark-put-other, mark-put_marks-out, mark-put_marks_in}
use Rattle.layout.proofs.Chunks.{chunk-at, chunk-rest, chunks-inside, image-sets, mark-sets, cut-put-chunks, cut-put_marks-chunks}
use Rattle.entries.specs.Live.{slot_at}
use Rattle.placement.proofs.Written.{slot-wrote}
use Rattle.placement.proofs.Writing.{filled, Writes}

module _ (z : Shape) (img : List ℕ) (t c n : ℕ) (bs : List ℕ) (w : Writes z img t c n bs) where
  open z use {settings}
  open settings use {slots, slotSize, chunks, chunkSize}

  -- before the slot is filled
  abbrev marked : List ℕ
  marked = put_marks z img t c n 1

  abbrev wrote : List ℕ
  wrote = sets marked (chunk_at z t c) bs

  fr : Framed z (length img)
  fr = w.image.framed

  le : c ≤ chunks
  le = omega (arith, w.ends)

  pub wrote-image : Image z (sets (put_marks z img t c n 1) (chunk_at z t c) bs)
  wrote-image = image-sets (image-put_marks w.image t c n 1 (omega arith)) (chunk_at z t c) bs w.bytes

  pub wrote-slot : (j : ℕ) → j < slots → slot_at z (sets (put_marks z img t c n 1) (chunk_at z t c) bs) t j ≡ slot_at z img t j
  wrote-slot = slot-wrote fr img t c n bs w.tier_in w.ends w.room

  module _ (r v : ℕ) (slot_in : r < slots) where
    -- ---- the slots

    pub slot-new : v < 256 ^ slotSize → slot_at z (filled z img t c n bs r v) t r ≡ v
    unfolding filled wide part_wide
    slot-new h = get-same wrote-image (tier t (slot r)) v (w.tier_in, slot_in) h

    pub slot-old : (j : ℕ) → j < slots → j ≢ r → slot_at z (filled z img t c n bs r v) t j ≡ slot_at z img t j
    unfolding filled
    slot-old j h ne =
        get_other fr wrote (tier t (slot r)) v (tier t (slot j)) (w.tier_in, slot_in) (w.tier_in, h) (λ e. let same : j ≡ r = cc in ne same)
        ∙ wrote-slot j h

    -- ---- the marks

    mark-kept : (i : ℕ) → i < chunks → mark z (filled z img t c n bs r v) t i ≡ mark z marked t i
    unfolding filled
    mark-kept i h =
        mark-put-other fr wrote (tier t (slot r)) v t i (w.tier_in, slot_in) (λ b. by_kind (omega arith)) w.tier_in h
        ∙ mark-sets fr marked t c bs t i w.tier_in le w.room w.tier_in h

    pub mark_in : (i : ℕ) → c ≤ i → i < c + n → mark z (filled z img t c n bs r v) t i ≡ 1
    mark_in i lo hi = mark-kept i (omega (arith, w.ends)) ∙ mark-put_marks_in w.image t c n 1 i w.tier_in w.ends (omega arith) lo hi

    pub mark-out : (i : ℕ) → i < chunks → (i < c) ⊎ (c + n ≤ i) → mark z (filled z img t c n bs r v) t i ≡ mark z img t i
    mark-out i h o = mark-kept i h ∙ mark-put_marks-out z img t c n 1 i (omega arith) o

    -- ---- the chunks

    -- a stretch that lies within them
    area : (l l' : List ℕ) (at k : ℕ) → cut l (chunk_at z t 0) ((chunks - 0) * chunkSize) ≡ cut l' (chunk_at z t 0) ((chunks - 0) * chunkSize)
        → chunk_at z t 0 ≤ at → at + k ≤ chunk_at z t chunks → cut l at k ≡ cut l' at k
    area l l' at k e lo hi = cut-within l l' (chunk_at z t 0) ((chunks - 0) * chunkSize) at k e lo (omega (arith, chunk-rest z t 0 (omega arith)))

    by-slot : (at k : ℕ) → chunk_at z t 0 ≤ at → at + k ≤ chunk_at z t chunks → cut (filled z img t c n bs r v) at k ≡ cut wrote at k
    unfolding filled
    by-slot at k =
        area (put z wrote (tier t (slot r)) v) wrote at k
        (cut-put-chunks fr wrote (tier t (slot r)) v t 0 (w.tier_in, slot_in) (λ i. by_kind (omega arith)) w.tier_in (omega arith))

    by-marks : (at k : ℕ) → chunk_at z t 0 ≤ at → at + k ≤ chunk_at z t chunks → cut marked at k ≡ cut img at k
    by-marks at k = area marked img at k (cut-put_marks-chunks fr img t c n 1 t 0 w.tier_in w.ends w.tier_in (omega arith))

    -- the bytes that were written, and any that were not
    pub bytes-new : cut (filled z img t c n bs r v) (chunk_at z t c) (length bs) ≡ bs
    bytes-new =
        let end : chunk_at z t c + length bs ≤ chunk_at z t chunks = omega (arith, w.room, chunk-rest z t c le) in
        let fits : chunk_at z t c + length bs ≤ length marked = omega (arith, chunks-inside fr t w.tier_in, fr.within, length-put_marks z img t c n 1) in
        by-slot (chunk_at z t c) (length bs) (omega (arith, chunk-at z t c)) end ∙ cut-sets-same marked (chunk_at z t c) bs fits

    pub bytes-old : (at k : ℕ) → chunk_at z t 0 ≤ at → at + k ≤ chunk_at z t chunks → Apart at k (chunk_at z t c) (length bs)
        → cut (filled z img t c n bs r v) at k ≡ cut img at k
    bytes-old at k lo hi a = by-slot at k lo hi ∙ cut-sets-out marked at k (chunk_at z t c) bs a ∙ by-marks at k lo hi
