-- An entry placed step by step: what each step asks, and what the steps give together.
use Prim.Native.Nat.{ℕ, zero, suc, ◌+◌, ◌≤◌, ◌<◌, ◌-◌, ◌*◌}
use mathlib.Core.List.{List, [], ◌∷◌, ◌++◌}
use mathlib.Core.Path.{◌≡◌, ap, ap₂, ◌∙◌, sym}
use Rattle.std.proofs.Common.{Option}
use native.Mathlib.Omega.{arith}
use native.Mathlib.Nat.{mul-le-mul_right}
use lib.ListN.{length}
use lib.Seq.{sets}
use Rattle.settings.specs.declared.Settings.{Settings}
use Rattle.xxh64.specs.Hash.{xxh64}
use Rattle.words.specs.Bytes.{Bytes}
use Rattle.leb128.specs.Leb128.{encode}
use Rattle.leb128.proofs.Encode.{bytes-encode}
use Rattle.layout.specs.declared.Shape.{Shape}
use Rattle.layout.specs.Tiers.{IsTier}
use Rattle.layout.specs.Places.{put, tier, slot, put_marks, chunk_at}
use Rattle.layout.specs.Frame.{Framed}
use Rattle.layout.proofs.Places.{by_kind}
use Rattle.layout.proofs.Marks.{get-put_marks-other}
use Rattle.layout.proofs.Chunks.{chunk-add, chunk_inside, chunks-inside, get-sets-other}
use Rattle.probe.proofs.Search.{room-lt, room-same}
use Rattle.entries.specs.Keys.{segment_of_hash, segment_of, lookup_of_hash, lookup_key, slot_with}
use Rattle.entries.specs.Stored.{entry_bytes, chunks_for}
use Rattle.entries.specs.Live.{slot_at}
use Rattle.entries.proofs.Hashes.{start-lt}
use Rattle.entries.proofs.Sizes.{chunks-pos, chunks-enough, length-entry}
use Rattle.search.specs.declared.Sought.{Sought}
use Rattle.search.specs.declared.Sought.TheVariants.{Holds, Empty}
use Rattle.search.specs.Search.{slots_of, sought_in, first_empty}
use Rattle.search.proofs.Finding.{sought-absent}
use Rattle.placement.specs.Placement.{write_entry, written, slotted, place_at}
use Rattle.placement.specs.Asking.{CanWrite, NewKey}

-- ---- the slot for a new key

-- the segment and the lookup key, from the hash
pub segment-made : (st : Settings) (key : List ℕ) {h s : ℕ} → h ≡ xxh64 key → s ≡ segment_of_hash st h → s ≡ segment_of st key
unfolding segment_of
segment-made st key eh es = es ∙ ap (segment_of_hash st) eh

pub lookup-made : (st : Settings) (key : List ℕ) {h lookup : ℕ} → h ≡ xxh64 key → lookup ≡ lookup_of_hash st h → lookup ≡ lookup_key st key
unfolding lookup_key
lookup-made st key eh el = el ∙ ap (lookup_of_hash st) eh

pub first_empty-lt : {z : Shape} {len : ℕ} → Framed z len → (img : List ℕ) (t : ℕ) (key : List ℕ) → first_empty z img key t < z.settings.slots
first_empty-lt {z} fr img t key = room-lt (slots_of z t) _ (start-lt fr.valid (lookup_key z.settings key)) img

module _ (z : Shape) (img key : List ℕ) (lookup t : ℕ) {slot : Option ℕ} (new : NewKey z img key lookup t slot) where
  sought-new : sought_in z img key t ≡ Empty (first_empty z img key t)
  sought-new = sought-absent z img new.seeks.tier.framed key t new.seeks.tier.tier_in new.takes.some_empty new.takes.lacks

  module _ (r : Sought) (e : r ≡ sought_in z img key t) (j : ℕ) where
    -- the search ends at the first empty slot, and at no other kind
    pub new-empty : r ≡ Empty j → j ≡ first_empty z img key t
    new-empty q = let f : Empty j ≡ Empty (first_empty z img key t) = sym q ∙ e ∙ sought-new in cc

    pub new-holds : r ≡ Holds j → j ≡ first_empty z img key t
    new-holds q =
        let f : Holds j ≡ Empty (first_empty z img key t) = sym q ∙ e ∙ sought-new in
        absurd (let never : ◌≡◌ {A = ℕ} 0 1 = cc in omega arith)

-- ---- the run

-- the slots of tier t, with a run marked and bytes written into it
pub slot-wrote : {z : Shape} {len : ℕ} → Framed z len → (img : List ℕ) (t c n : ℕ) (bs : List ℕ) → IsTier z t → c + n ≤ z.settings.chunks
    → length bs ≤ (z.settings.chunks - c) * z.settings.chunkSize → (j : ℕ) → j < z.settings.slots
    → slot_at z (sets (put_marks z img t c n 1) (chunk_at z t c) bs) t j ≡ slot_at z img t j
slot-wrote {z} fr img t c n bs it ends room j h =
    get-sets-other fr (put_marks z img t c n 1) t c bs (tier t (slot j)) it (omega arith) room (it, h) (λ i. by_kind (omega arith))
    ∙ get-put_marks-other fr img t c n 1 (tier t (slot j)) it ends (it, h) (λ b. by_kind (omega arith))

bytes-append : (xs ys : List ℕ) → Bytes xs → Bytes ys → Bytes (xs ++ ys)
bytes-append [] ys hx hy i = hy i
bytes-append (x ∷ xs) ys hx hy zero = hx zero
bytes-append (x ∷ xs) ys hx hy (suc i) = bytes-append xs ys (λ j. hx (suc j)) hy i

module _ {z : Shape} {img : List ℕ} {t c : ℕ} {key value : List ℕ} (w : CanWrite z img t c key value) where
  open z use {settings}
  open settings use {slots, chunks, chunkSize}

  abbrev n : ℕ
  n = chunks_for settings (length key) (length value)

  abbrev framed : Framed z (length img)
  framed = w.tier.framed

  pub some-chunks : 0 < chunks_for settings (length key) (length value)
  some-chunks = chunks-pos settings (length key) (length value) (omega (arith, w.key_long)) w.value_long framed.valid

  pub chunk-lt : c < chunks
  chunk-lt = omega (arith, some-chunks, w.range_ends)

  -- the entry ends within its chunks, and so within the tier's and within the image
  pub entry-fits : length (entry_bytes settings key value) ≤ chunks_for settings (length key) (length value) * chunkSize
  entry-fits =
      omega (
        arith,
        length-entry settings key value,
        chunks-enough settings (length key) (length value) (omega (arith, w.key_long)) w.value_long framed.valid,
      )

  pub entry-room : length (entry_bytes settings key value) ≤ (chunks - c) * chunkSize
  entry-room =
      let h : n ≤ chunks - c = omega (arith, w.range_ends) in
      omega (arith, entry-fits, mul-le-mul_right chunkSize h)

  pub entry_in_chunks : chunk_at z t c + length (entry_bytes settings key value) ≤ chunk_at z t chunks
  entry_in_chunks = omega (arith, entry-fits, chunk-add z t c n, chunk_inside z t (c + n) w.range_ends)

  pub written-inside : chunk_at z t c + length (entry_bytes settings key value) ≤ length img
  written-inside = omega (arith, entry_in_chunks, chunks-inside framed t w.tier.tier_in, framed.within)

  -- it is bytes if its key and value are
  pub entry-bytes : Bytes key → Bytes value → Bytes (entry_bytes settings key value)
  unfolding entry_bytes
  entry-bytes key_bytes value_bytes =
      let a : List ℕ = encode (length key) in
      let b : List ℕ = encode (length value) in
      let ha : Bytes a = bytes-encode (length key) (omega (arith, w.key_long)) in
      let hb : Bytes b = bytes-encode (length value) (omega (arith, w.value_long)) in
      bytes-append (a ++ key ++ b) value (bytes-append (a ++ key) b (bytes-append a key ha key_bytes) hb) value_bytes

  -- writing it moves no slot, and so not the first empty one
  pub first_empty-written : first_empty z (written z img t c key value) key t ≡ first_empty z img key t
  unfolding written
  first_empty-written =
      room-same (slots_of z t) _ (start-lt framed.valid (lookup_key settings key)) _ img
      (slot-wrote framed img t c n (entry_bytes settings key value) w.tier.tier_in w.range_ends entry-room)

-- ---- the steps

module _ (z : Shape) (img : List ℕ) (t c : ℕ) (key value : List ℕ) where
  open z use {settings}

  pub written_is : {n : ℕ} {one two : List ℕ} → n ≡ chunks_for settings (length key) (length value) → one ≡ put_marks z img t c n 1
      → two ≡ write_entry z one t c key value → two ≡ written z img t c key value
  unfolding written
  written_is en e₁ e₂ = e₂ ∙ ap (λ (x : List ℕ). write_entry z x t c key value) (e₁ ∙ ap (λ (m : ℕ). put_marks z img t c m 1) en)

  pub placed-is : {lookup j v : ℕ} {one two : List ℕ} → CanWrite z img t c key value → lookup ≡ lookup_key settings key
      → j ≡ first_empty z img key t → one ≡ written z img t c key value → v ≡ slot_with settings lookup c
      → two ≡ put z one (tier t (slot j)) v → two ≡ place_at z img t c key value
  unfolding place_at slotted
  placed-is {lookup} {j} {v} {one} w el ej e₁ ev e₂ =
      let slot_is : j ≡ first_empty z (written z img t c key value) key t = ej ∙ sym (first_empty-written w) in
      let number_is : v ≡ slot_with settings (lookup_key settings key) c = ev ∙ ap (λ (x : ℕ). slot_with settings x c) el in
      e₂ ∙ ap (λ (x : List ℕ). put z x (tier t (slot j)) v) e₁
      ∙ ap₂ (λ (k x : ℕ). put z (written z img t c key value) (tier t (slot k)) x) slot_is number_is
