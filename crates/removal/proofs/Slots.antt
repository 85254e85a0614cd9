-- What stays where only slots and marks of one tier are written.
use Prim.Native.Nat.{ℕ, ◌+◌, ◌-◌, ◌*◌, ◌≤◌, ◌<◌}
use mathlib.Core.List.{List}
use mathlib.Core.Path.{◌≡◌, refl, ◌∙◌}
use mathlib.Core.Logic.{◌≢◌}
use native.Mathlib.Omega.{arith}
use lib.ListN.{length}
use Rattle.words.specs.Bytes.{cut}
use Rattle.layout.specs.declared.Shape.{Shape}
use Rattle.layout.specs.Tiers.{IsTier}
use Rattle.layout.specs.Places.{Place, tier, slot, In, get, put, mark, put_marks, chunk_at}
use Rattle.layout.specs.Frame.{Framed, Image}
use Rattle.layout.proofs.Places.{length-put, image-put, get_other, by_kind}
use Rattle.layout.proofs.Marks.{NoFree, mark-put-other, length-put_marks, image-put_marks, get-put_marks-other}
use Rattle.layout.proofs.Chunks.{cut-put-chunks, cut-put_marks-chunks}
use Rattle.probe.specs.Removal.{remove}
use Rattle.probe.proofs.Removal.{remove-keeps}
use Rattle.entries.specs.Live.{slot_at}
use Rattle.search.specs.Search.{slots_of}
use Rattle.search.proofs.Slots.{slots-lawful}
use Rattle.removal.specs.Removal.{remove_at}
use Rattle.sound.proofs.AgreeEntry.{SameBytes}
use Rattle.sound.proofs.Replaced.{OnlyTier}
use Rattle.sound.proofs.Elsewhere.{only-elsewhere}

-- a place that is no slot of tier t
abbrev pub NoSlot : ℕ → Place → Type 0
NoSlot t p = (j : ℕ) → p ≢ tier t (slot j)

-- what no write of a slot of tier t changes
pub record Stays (z : Shape) (img img' : List ℕ) (t : ℕ) : Type 0 where
  pub image : Image z img'
  pub long : length img' ≡ length img
  pub places : (p : Place) → In z p → NoSlot t p → get z img' p ≡ get z img p
  pub marks : (u i : ℕ) → IsTier z u → i < z.settings.chunks → mark z img' u i ≡ mark z img u i
  pub bytes : (u : ℕ) → IsTier z u → SameBytes z img img' u

whole-cut : (z : Shape) (img img' : List ℕ) (u : ℕ)
    → cut img' (chunk_at z u 0) ((z.settings.chunks - 0) * z.settings.chunkSize)
    ≡ cut img (chunk_at z u 0) ((z.settings.chunks - 0) * z.settings.chunkSize)
    → SameBytes z img img' u
whole-cut z img img' u e = let n : z.settings.chunks - 0 ≡ z.settings.chunks = omega arith in rw n at e

module _ {z : Shape} {len : ℕ} (framed : Framed z len) (t : ℕ) (is : IsTier z t) where
  stays_put : (img img' : List ℕ) (j v : ℕ) → j < z.settings.slots → Stays z img img' t → Stays z img (put z img' (tier t (slot j)) v) t
  stays_put img img' j v h s =
      record {
        image = image-put s.image (tier t (slot j)) v;
        long = length-put z img' (tier t (slot j)) v ∙ s.long;
        places = λ p i ns. get_other framed img' (tier t (slot j)) v p (is, h) i (ns j) ∙ s.places p i ns;
        marks = λ u i iu k. mark-put-other framed img' (tier t (slot j)) v u i (is, h) (λ b. by_kind (omega arith)) iu k ∙ s.marks u i iu k;
        bytes =
            λ u iu.
            whole-cut z img' _ u
            (cut-put-chunks framed img' (tier t (slot j)) v u 0 (is, h) (λ b. by_kind (omega arith)) iu (omega arith))
            ∙ s.bytes u iu;
      }

  pub remove-stays : (img : List ℕ) (j : ℕ) → Image z img → j < z.settings.slots → Stays z img (remove (slots_of z t) img j) t
  unfolding slots-lawful
  remove-stays img j im h =
      remove-keeps (slots_of z t) (slots-lawful framed t is) (λ m. Stays z img m t) (λ m k v ok hk fit s. stays_put img m k v hk s) img j im h
      (record { image = im; long = refl; places = λ p i ns. refl; marks = λ u i iu k. refl; bytes = λ u iu. refl })

-- the marks of n chunks of tier t from c on are cleared
abbrev pub cleared : Shape → List ℕ → ℕ → ℕ → ℕ → List ℕ
cleared z img t c n = put_marks z img t c n 0

module _ {z : Shape} {img : List ℕ} (im : Image z img) (t : ℕ) (is : IsTier z t) (j c n : ℕ) (hj : j < z.settings.slots)
    (fits : c + n ≤ z.settings.chunks) where
  abbrev old : List ℕ
  old = cleared z img t c n

  abbrev new : List ℕ
  new = remove_at z img t j c n

  pub cleared-image : Image z old
  cleared-image = image-put_marks im t c n 0 (omega arith)

  pub cleared-slot : (k : ℕ) → k < z.settings.slots → slot_at z old t k ≡ slot_at z img t k
  cleared-slot k hk = get-put_marks-other im.framed img t c n 0 (tier t (slot k)) is fits (is, hk) (λ b. by_kind (omega arith))

  pub stays : Stays z old new t
  unfolding remove_at
  stays = remove-stays im.framed t is old j cleared-image hj

  same_place : (p : Place) → In z p → NoSlot t p → NoFree t p → get z new p ≡ get z img p
  same_place p h ns nf = stays.places p h ns ∙ get-put_marks-other im.framed img t c n 0 p is fits h nf

  pub same_bytes : (u : ℕ) → IsTier z u → SameBytes z img new u
  same_bytes u iu = stays.bytes u iu ∙ whole-cut z img old u (cut-put_marks-chunks im.framed img t c n 0 u 0 is fits iu (omega arith))

  pub remove_at-only : OnlyTier z img new t
  remove_at-only =
      only-elsewhere z img new t stays.image (stays.long ∙ length-put_marks z img t c n 0) (λ p h e. same_place p h e.slots e.free)
