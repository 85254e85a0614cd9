-- The calls' answers, as the code puts them together.
use Prim.Native.Nat.{ℕ, ◌+◌, ◌-◌, ◌≤◌}
use mathlib.Core.List.{List}
use mathlib.Core.Path.{◌≡◌, refl, ap, sym, ◌∙◌, subst}
use mathlib.Core.Bool.{Bool, true, false}
use mathlib.Core.Option.{Option, none, some}
use native.Mathlib.Omega.{arith}
use lib.ListN.{length, take, drop}
use denote.Ref.{Bor}
use borrow.Rule.Slice.PartAt.{sl_partˢ}
use Rattle.std.specs.Prelude.{Ok, Err}
use Rattle.words.specs.Bytes.{Bytes}
use Rattle.layout.specs.declared.Shape.{Shape}
use Rattle.settings.specs.Rules.{largest}
use Rattle.chains.specs.Chains.{last_tier}
use Rattle.entries.specs.declared.Entry.{Entry}
use Rattle.entries.specs.declared.Live.{Live}
use Rattle.entries.specs.Keys.{segment_of}
use Rattle.entries.specs.Live.{entry_at, live_at}
use Rattle.entries.proofs.Hashes.{segment-lt}
use Rattle.entries.proofs.LiveLists.{live_in_lem}
use Rattle.search.specs.declared.Found.{Found}
use Rattle.search.specs.declared.Found.TheVariants.{At, Absent}
use Rattle.search.specs.Search.{first_empty, search}
use Rattle.search.proofs.Finding.{search-absent}
use Rattle.sound.specs.Sound.{SoundImage}
use Rattle.counters.specs.Recount.{settle}
use Rattle.unlinking.proofs.Emptied.{main-stays}
use Rattle.edit.specs.Edits.{find, without_entry, removed_entry, remove_image, no_room}
use Rattle.edit.specs.declared.Policy.{Policy}
use Rattle.edit.specs.Replaced.{is_there, Stores}
use Rattle.edit.proofs.Finding.{find-live, search-found, search-none}
use Rattle.edit.proofs.Replacing.{live-value}
use Rattle.image.specs.declared.Stage.{Stage}
use Rattle.image.specs.declared.Counts.{Counts}
use Rattle.image.specs.Check.{Examined, examine}
use Rattle.growing.specs.Growing.{no_bulk, grow_image}
use Rattle.chronicle_map.specs.declared.RecordPlace.{RecordPlace}
use Rattle.chronicle_map.specs.declared.SearchEnd.{SearchEnd}
use Rattle.std.specs.Prelude.{Result, Ok, Err}
use Rattle.chronicle_map.specs.declared.Located.{Located}
use Rattle.chronicle_map.specs.declared.Located.TheVariants as located
use Rattle.chronicle_map.specs.declared.EditError.{EditError}
use Rattle.chronicle_map.specs.declared.EditError.TheVariants as error
use Rattle.chronicle_map.specs.Asked.{a_key, an_entry, asked}
use Rattle.chronicle_map.specs.Calls.{place_of, from_find, looked_up, lookup, record_at, record_length, PartOf, RecordOf, remove_found, removing, remove, store_unless, storing, store, grow_unless, growing, grow}
use Rattle.chronicle_map.proofs.Asking.{key-sound}

-- ---- lookup

module _ (z : Shape) (img : List ℕ) (sound : SoundImage z img) (key : List ℕ) (r : Found) (e : r ≡ search z img key) (t j : ℕ) where
  pub looked-none : r ≡ Absent t j → located.Absent (record { tier = t; slot = j }) ≡ from_find z img key (find z img key)
  unfolding from_find
  looked-none f =
      let end : (t ≡ last_tier z img (segment_of z.settings key)) × (j ≡ first_empty z img key t) =
      search-absent z img key (segment-lt sound.fits.valid key) t j (sym e ∙ f) in
      let slot_is : j ≡ first_empty z img key (last_tier z img (segment_of z.settings key)) = end.1 ∙ ap (first_empty z img key) end.0 in
      rw (search-none z img sound key t j (sym e ∙ f)) (λ i. located.Absent (record { tier = end.0 i; slot = slot_is i }))

  pub looked-found : r ≡ At t j → {x : Entry} → x ≡ entry_at z img t j
      → located.Found (record { offset = x.valueAt; length = x.valueLength; tier = t; slot = j }) ≡ from_find z img key (find z img key)
  unfolding from_find live_at
  looked-found f ex =
      rw (search-found z img sound key t j (sym e ∙ f))
      (λ i. located.Found (record { offset = (ex i).valueAt; length = (ex i).valueLength; tier = t; slot = j }))

module _ (block img key : List ℕ) {x : Examined} (ex : x ≡ asked block img (a_key key)) where
  pub lookup-refused : (s : Stage) → x ≡ Err s → Err s ≡ lookup block img key
  unfolding lookup looked_up
  lookup-refused s e = ap (looked_up img key) (sym e ∙ ex)

  pub lookup-ready : (z : Shape) (c : Counts) → x ≡ Ok (z, c) → {r : Located} → r ≡ from_find z img key (find z img key) → Ok r ≡ lookup block img key
  unfolding lookup looked_up
  lookup-ready z c e er = ap Ok er ∙ ap (looked_up img key) (sym e ∙ ex)

-- ---- the record: a found one stands within the image

found-by : (z : Shape) (img key : List ℕ) → SoundImage z img → (o : Option Live) → find z img key ≡ o → (p : RecordPlace)
    → from_find z img key o ≡ located.Found p → (p.offset + p.length ≤ length img) × (length img ≤ largest)
unfolding from_find
found-by z img key sound none f p e = absurd (let q : ◌≡◌ {A = ℕ} 0 1 = cc in omega arith)
found-by z img key sound (some x) f p e =
    let q : place_of x ≡ p = cc in
    let a : x.entry.valueAt ≡ p.offset = ap (λ (y : RecordPlace). y.offset) q in
    let b : x.entry.valueLength ≡ p.length = ap (λ (y : RecordPlace). y.length) q in
    (omega (arith, live-value z img sound x (live_in_lem z img x (find-live z img key x f).0)), sound.fits.frame.image_length.1)

within_by : (block img key : List ℕ) → Bytes img → (x : Examined) → x ≡ asked block img (a_key key) → (p : RecordPlace)
    → looked_up img key x ≡ Ok (located.Found p) → (p.offset + p.length ≤ length img) × (length img ≤ largest)
unfolding looked_up
within_by block img key b (Err s) ex p e = absurd (let q : ◌≡◌ {A = ℕ} 0 1 = cc in omega arith)
within_by block img key b (Ok (z, c)) ex p e =
    let f : from_find z img key (find z img key) ≡ located.Found p = cc in
    found-by z img key (key-sound block img key z c ex refl b) (find z img key) refl p f

pub record_within : (block img key : List ℕ) (r : Result Located Stage) → r ≡ lookup block img key → Bytes img → (p : RecordPlace)
    → r ≡ Ok (located.Found p)
    → (p.offset + p.length ≤ length img) × (length img ≤ largest)
unfolding lookup
record_within block img key r er b p e = within_by block img key b (asked block img (a_key key)) refl p (sym er ∙ e)

-- the part of a lent slice from place `at` up to place at + n
part_of : (lent : Bor (List ℕ)) (at n : ℕ) → PartOf lent at n (sl_partˢ lent (at + lent.ref_ptr.1) at (at + n))
part_of lent at n =
    let q : at + n - at ≡ n = omega arith in
    record { memory = refl; start = omega arith; bytes = ap (λ (k : ℕ). take k (drop at lent.now)) q }

module _ (block : List ℕ) (img : Bor (List ℕ)) (key : List ℕ) (r : Result Located Stage) (er : r ≡ lookup block img.now key) where
  -- the part that the code cuts off is the record of what it found
  record_is : (l : Result Located Stage) → r ≡ l → RecordOf img (lookup block img.now key)
      (sl_partˢ img (record_at l + img.ref_ptr.1) (record_at l) (record_at l + record_length l))
  record_is l e =
      subst (λ (x : Result Located Stage). RecordOf img x (sl_partˢ img (record_at l + img.ref_ptr.1) (record_at l) (record_at l + record_length l)))
      (sym e ∙ er)
      (part_of img (record_at l) (record_length l))

  pub record_found : (p : RecordPlace) → r ≡ Ok (located.Found p) → RecordOf img (lookup block img.now key)
      (sl_partˢ img (p.offset + img.ref_ptr.1) p.offset (p.offset + p.length))
  unfolding record_at record_length
  record_found p e = record_is (Ok (located.Found p)) e

  pub record_absent : (end : SearchEnd) → r ≡ Ok (located.Absent end) → RecordOf img (lookup block img.now key) (sl_partˢ img (0 + img.ref_ptr.1) 0 0)
  unfolding record_at record_length
  record_absent end e = record_is (Ok (located.Absent end)) e

  pub record_refused : (s : Stage) → r ≡ Err s → RecordOf img (lookup block img.now key) (sl_partˢ img (0 + img.ref_ptr.1) 0 0)
  unfolding record_at record_length
  record_refused s e = record_is (Err s) e

-- ---- removal

module _ (z : Shape) (img key : List ℕ) where
  done-by : (o : Option Live) {img' : List ℕ} → is_there o ≡ true → img' ≡ remove_image z img key
      → record { answer = Ok tt; image = img' } ≡ remove_found z img key o
  unfolding remove_found
  done-by none t e = absurd (let q : ◌≡◌ {A = ℕ} 0 1 = cc in omega arith)
  done-by (some x) t e = λ i. record { answer = Ok tt; image = e i }

  absent_by : (o : Option Live) {img' : List ℕ} → find z img key ≡ o → is_there o ≡ false → img' ≡ remove_image z img key
      → record { answer = Err error.Absent; image = img' } ≡ remove_found z img key o
  unfolding remove_found remove_image removed_entry without_entry settle
  absent_by none f t e =
      let g : remove_image z img key ≡ img = ap (removed_entry z img) f ∙ main-stays z img 0 (omega arith) in
      λ i. record { answer = Err error.Absent; image = (e ∙ g) i }
  absent_by (some x) f t e = absurd (let q : ◌≡◌ {A = ℕ} 0 1 = cc in omega arith)

  module _ (r : Bool) (er : r ≡ is_there (find z img key)) {img' : List ℕ} (e : img' ≡ remove_image z img key) where
    pub removed-done : r ≡ true → record { answer = Ok tt; image = img' } ≡ remove_found z img key (find z img key)
    removed-done t = done-by (find z img key) (sym er ∙ t) e

    pub removed-absent : r ≡ false → record { answer = Err error.Absent; image = img' } ≡ remove_found z img key (find z img key)
    removed-absent t = absent_by (find z img key) refl (sym er ∙ t) e

module _ (block img key : List ℕ) {x : Examined} (ex : x ≡ asked block img (a_key key)) where
  pub remove-refused : (s : Stage) → x ≡ Err s → record { answer = Err (error.Refused s); image = img } ≡ remove block img key
  unfolding remove removing
  remove-refused s e = ap (removing img key) (sym e ∙ ex)

  pub remove-ready : (z : Shape) (c : Counts) → x ≡ Ok (z, c) → {r : Result (Unit {0}) EditError} {img' : List ℕ}
      → record { answer = r; image = img' } ≡ remove_found z img key (find z img key) → record { answer = r; image = img' } ≡ remove block img key
  unfolding remove removing
  remove-ready z c e er = er ∙ ap (removing img key) (sym e ∙ ex)

-- ---- store

module _ (policy : Policy) (z : Shape) (img key value : List ℕ) (r : Bool) {img' : List ℕ} (e : Stores policy z img key value r img') where
  pub stored-done : r ≡ true → record { answer = Ok tt; image = img' } ≡ store_unless policy z img key value (no_room z img key value)
  unfolding store_unless
  stored-done t =
      let s : Stores policy z img key value true img' = subst (λ (b : Bool). Stores policy z img key value b img') t e in
      rw s.0 (λ i. record { answer = Ok tt; image = s.1 i })

  pub stored-full : r ≡ false → record { answer = Err error.Full; image = img' } ≡ store_unless policy z img key value (no_room z img key value)
  unfolding store_unless
  stored-full t =
      let s : Stores policy z img key value false img' = subst (λ (b : Bool). Stores policy z img key value b img') t e in
      rw s.0 (λ i. record { answer = Err error.Full; image = s.1 i })

module _ (policy : Policy) (block img key value : List ℕ) {x : Examined} (ex : x ≡ asked block img (an_entry key value)) where
  pub store-refused : (s : Stage) → x ≡ Err s → record { answer = Err (error.Refused s); image = img } ≡ store policy block img key value
  unfolding store storing
  store-refused s e = ap (storing policy img key value) (sym e ∙ ex)

  pub store-ready : (z : Shape) (c : Counts) → x ≡ Ok (z, c) → {r : Result (Unit {0}) EditError} {img' : List ℕ}
      → record { answer = r; image = img' } ≡ store_unless policy z img key value (no_room z img key value)
      → record { answer = r; image = img' } ≡ store policy block img key value
  unfolding store storing
  store-ready z c e er = er ∙ ap (storing policy img key value) (sym e ∙ ex)

-- ---- one bulk more

module _ (z : Shape) (img : List ℕ) where
  pub grow-full : {b : Bool} → b ≡ no_bulk z (length img) → b ≡ true
      → record { answer = Err error.NoBulk; image = img } ≡ grow_unless z img (no_bulk z (length img))
  unfolding grow_unless
  grow-full e t = ap (grow_unless z img) (sym t ∙ e)

  pub grow-done : {b : Bool} → b ≡ no_bulk z (length img) → b ≡ false → {img' : List ℕ} → img' ≡ grow_image z img
      → record { answer = Ok tt; image = img' } ≡ grow_unless z img (no_bulk z (length img))
  unfolding grow_unless
  grow-done e t f = (λ i. record { answer = Ok tt; image = f i }) ∙ ap (grow_unless z img) (sym t ∙ e)

module _ (block img : List ℕ) {x : Examined} (ex : x ≡ examine block img) where
  pub grow-refused : (s : Stage) → x ≡ Err s → record { answer = Err (error.Refused s); image = img } ≡ grow block img
  unfolding grow growing
  grow-refused s e = ap (growing img) (sym e ∙ ex)

  pub grow-ready : (z : Shape) (c : Counts) → x ≡ Ok (z, c) → {r : Result (Unit {0}) EditError} {img' : List ℕ}
      → record { answer = r; image = img' } ≡ grow_unless z img (no_bulk z (length img)) → record { answer = r; image = img' } ≡ grow block img
  unfolding grow growing
  grow-ready z c e er = er ∙ ap (growing img) (sym e ∙ ex)
