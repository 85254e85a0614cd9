-- What stands at a chunk: where an entry is whole, and what of the image that depends on.
use Prim.Native.Nat.{ℕ, ◌+◌, ◌-◌, ◌*◌, ◌^◌, ◌≤◌, ◌<◌}
use mathlib.Core.Path.{◌≡◌, refl, ap, sym, ◌∙◌}
use mathlib.Core.List.{List, ◌++◌}
use mathlib.Core.Logic.{⊎_elim}
use native.Mathlib.Omega.{arith}
use Rattle.std.specs.Prelude.{Option, Some, None}
use Rattle.std.proofs.lemmas.Option.{none-some, same_Some, some_pair_parts}
use native.Mathlib.Nat.{mul-le-mul_right}
use lib.ListN.{length, take, drop, length-take, length-append}
use lib.Seq.{drop-drop}
use Rattle.lists.specs.Cases.{lt-or}
use Rattle.words.specs.Bytes.{cut}
use Rattle.leb128.specs.Leb128.{encode, decode, largest_length, EncodedAt}
use Rattle.leb128.proofs.Encode.{length-encode}
use Rattle.leb128.proofs.Decode.{decode-end, decode-sound, decode-complete}
use Rattle.settings.specs.Rules.{Valid}
use Rattle.layout.specs.declared.Shape.{Shape}
use Rattle.layout.specs.Places.{chunk_at}
use Rattle.layout.specs.Tiers.{IsTier}
use Rattle.layout.specs.Frame.{Framed}
use Rattle.layout.proofs.Chunks.{chunk-at, chunk-add, chunk-rest, chunks-inside}
use Rattle.entries.specs.declared.Entry.{Entry}
use Rattle.entries.specs.Stored.{value_offset, entry_size, chunks_for, entry_bytes, after_value_length, after_key_length, up_to_chunks, stored, entry_of, key_of, value_of}
use Rattle.entries.specs.Asking.{Lengths}
use Rattle.entries.specs.Telling.{KeyPart}
use Rattle.entries.proofs.Sizes.{chunks-enough, length-entry}
use Rattle.words.proofs.Cuts.{drop-take, cut-take, cut-within, cut-front, cut-back, cut-room}

-- ---- the two lengths that are read

abbrev Read : Option (ℕ × ℕ) → ℕ → ℕ → Type 0
Read d n next = d ≡ Some (n, next)

after_value_length-whole : (at k : ℕ) (d : Option (ℕ × ℕ)) (e : Entry) → after_value_length at k d ≡ Some e
    → (e.keyAt ≡ at) × (e.keyLength ≡ k) × Read d e.valueLength e.valueAt
unfolding after_value_length
after_value_length-whole at k None e h = absurd (none-some e h)
after_value_length-whole at k (Some (v, next)) e h =
    let same : record { keyAt = at; keyLength = k; valueAt = next; valueLength = v } ≡ e = same_Some _ e h in
    (ap (λ (x : Entry). x.keyAt) (sym same), ap (λ (x : Entry). x.keyLength) (sym same), ap (λ (x : Entry). Some (x.valueLength, x.valueAt)) same)

after_key_length-whole : (bytes : List ℕ) (d : Option (ℕ × ℕ)) (e : Entry) → after_key_length bytes d ≡ Some e
    → Read d e.keyLength e.keyAt × Read (decode bytes (e.keyAt + e.keyLength)) e.valueLength e.valueAt
unfolding after_key_length
after_key_length-whole bytes None e h = absurd (none-some e h)
after_key_length-whole bytes (Some (k, next)) e h =
    let p : (e.keyAt ≡ next) × (e.keyLength ≡ k) × Read (decode bytes (next + k)) e.valueLength e.valueAt =
    after_value_length-whole next k (decode bytes (next + k)) e h in
    (λ i. Some (sym p.1 i, sym p.0 i), rw (p.0, p.1) p.2)

-- read by offsets that were computed
pub decode-up_to_chunks : (z : Shape) (img : List ℕ) (t : ℕ) {end a b : ℕ} → end ≡ chunk_at z t z.settings.chunks → a ≡ b
    → decode (up_to_chunks z img t) b ≡ decode (take end img) a
decode-up_to_chunks z img t e f = rw (e, f)

-- the other way round: what was read gives what is stored

module _ (z : Shape) (img : List ℕ) (t c : ℕ) where
  open z use {settings}
  open settings use {chunks, chunkSize}

  pub stored-key-refused : decode (up_to_chunks z img t) (chunk_at z t c) ≡ None → stored z img t c ≡ None
  unfolding stored after_key_length
  stored-key-refused e = rw (e, stored)

  pub stored-value-refused : {k next : ℕ} → decode (up_to_chunks z img t) (chunk_at z t c) ≡ Some (k, next)
      → decode (up_to_chunks z img t) (next + k) ≡ None
      → stored z img t c ≡ None
  unfolding stored after_key_length after_value_length
  stored-value-refused e f = rw (e, stored, f)

  pub stored-both-read : {k next v after : ℕ} → decode (up_to_chunks z img t) (chunk_at z t c) ≡ Some (k, next)
      → decode (up_to_chunks z img t) (next + k) ≡ Some (v, after)
      → stored z img t c ≡ Some (record { keyAt = next; keyLength = k; valueAt = after; valueLength = v })
  unfolding stored after_key_length after_value_length
  stored-both-read e f = rw (e, stored, f)

  -- nothing is read past the chunks
  length-up_to_chunks : length (up_to_chunks z img t) ≤ chunk_at z t chunks
  length-up_to_chunks = rw length-take (omega arith)

  pub stored_past : chunks ≤ c → stored z img t c ≡ None
  stored_past h =
      stored-key-refused (decode-end (up_to_chunks z img t) (chunk_at z t c)
      (omega (arith, length-up_to_chunks, chunk-at z t c, chunk-at z t chunks, mul-le-mul_right chunkSize h)))

  -- ---- a whole entry: its lengths stand in their shortest forms, within the chunks

  pub record WholeAt (e : Entry) : Type 0 where
    pub key_small : e.keyLength ≤ largest_length
    pub value_small : e.valueLength ≤ largest_length
    pub key_is : e.keyAt ≡ chunk_at z t c + length (encode e.keyLength)
    pub value_is : e.valueAt ≡ chunk_at z t c + value_offset settings e.keyLength e.valueLength
    pub value_within : e.valueAt ≤ chunk_at z t chunks
    pub key_form : cut img (chunk_at z t c) (length (encode e.keyLength)) ≡ encode e.keyLength
    pub value_form : cut img (e.keyAt + e.keyLength) (length (encode e.valueLength)) ≡ encode e.valueLength

  -- a form that is read in the part up to the chunks' end stands in the image
  in_image : (at n next : ℕ) → EncodedAt (up_to_chunks z img t) at n next → (next ≤ chunk_at z t chunks) × (cut img at (length (encode n)) ≡ encode n)
  in_image at n next s =
      let size : 1 ≤ length (encode n) = (length-encode n s.small).0 in
      let room : at + length (encode n) ≤ length (up_to_chunks z img t) = cut-room (up_to_chunks z img t) at (length (encode n)) size (ap length s.form) in (
        omega (arith, s.after, length-up_to_chunks),
        sym (cut-take img (chunk_at z t chunks) at (length (encode n)) (omega (arith, length-up_to_chunks))) ∙ s.form,
      )

  in_chunks_lem : (at n next : ℕ) → n ≤ largest_length → next ≡ at + length (encode n) → next ≤ chunk_at z t chunks
      → cut img at (length (encode n)) ≡ encode n
      → EncodedAt (up_to_chunks z img t) at n next
  in_chunks_lem at n next small after within form =
      record { small = small; form = cut-take img (chunk_at z t chunks) at (length (encode n)) (omega arith) ∙ form; after = after }

  pub whole-sound : (e : Entry) → stored z img t c ≡ Some e → WholeAt e
  unfolding stored value_offset
  whole-sound e h =
      let p : Read (decode (up_to_chunks z img t) (chunk_at z t c)) e.keyLength e.keyAt
      × Read (decode (up_to_chunks z img t) (e.keyAt + e.keyLength)) e.valueLength e.valueAt =
      after_key_length-whole (up_to_chunks z img t) (decode (up_to_chunks z img t) (chunk_at z t c)) e h in
      let k : EncodedAt (up_to_chunks z img t) (chunk_at z t c) e.keyLength e.keyAt = decode-sound _ _ _ _ p.0 in
      let v : EncodedAt (up_to_chunks z img t) (e.keyAt + e.keyLength) e.valueLength e.valueAt = decode-sound _ _ _ _ p.1 in
      record {
        key_small = k.small;
        value_small = v.small;
        key_is = k.after;
        value_is = omega (arith, k.after, v.after);
        value_within = (in_image _ _ _ v).0;
        key_form = (in_image _ _ _ k).1;
        value_form = (in_image _ _ _ v).1;
      }

  -- what the key's length alone gives, of an entry that can be read
  module _ (e : Entry) (h : stored z img t c ≡ Some e) where
    pub key-read : decode (up_to_chunks z img t) (chunk_at z t c) ≡ Some (e.keyLength, e.keyAt)
    unfolding stored
    key-read = (after_key_length-whole (up_to_chunks z img t) (decode (up_to_chunks z img t) (chunk_at z t c)) e h).0

    pub key-part : {k next : ℕ} → decode (up_to_chunks z img t) (chunk_at z t c) ≡ Some (k, next)
        → KeyPart z img t c (record { at = next; length = k })
    key-part {k} {next} r =
        let p : (k ≡ e.keyLength) × (next ≡ e.keyAt) = some_pair_parts k e.keyLength next e.keyAt (sym r ∙ key-read) in
        let at : Option Entry → ℕ = λ x. (entry_of x).keyAt in
        let size : Option Entry → ℕ = λ x. (entry_of x).keyLength in
        record { at_is = p.1 ∙ ap at (sym h); length_is = p.0 ∙ ap size (sym h) }

  pub whole-complete : (e : Entry) → WholeAt e → stored z img t c ≡ Some e
  unfolding value_offset
  whole-complete e w =
      let after : e.valueAt ≡ e.keyAt + e.keyLength + length (encode e.valueLength) = omega (arith, w.value_is, w.key_is) in
      stored-both-read
      (decode-complete _ _ _ _ (in_chunks_lem (chunk_at z t c) e.keyLength e.keyAt w.key_small w.key_is (omega (arith, w.value_within)) w.key_form))
      (decode-complete _ _ _ _ (in_chunks_lem (e.keyAt + e.keyLength) e.valueLength e.valueAt w.value_small after w.value_within w.value_form))

  -- the lengths are small, read or not
  lengths-small : (s : Option Entry) → stored z img t c ≡ s → Lengths (entry_of s).keyLength (entry_of s).valueLength
  lengths-small (Some e) h = let w : WholeAt e = whole-sound e h in record { key_small = w.key_small; value_small = w.value_small }
  lengths-small None h = omega arith

  pub entry-small : Lengths (entry_of (stored z img t c)).keyLength (entry_of (stored z img t c)).valueLength
  entry-small = lengths-small (stored z img t c) refl

  -- where the value's length is looked for is a small number
  pub key-end-small : {k next : ℕ} → Framed z (length img) → IsTier z t → decode (up_to_chunks z img t) (chunk_at z t c) ≡ Some (k, next)
      → next + k ≤ 2 ^ 25
  key-end-small {k} {next} fr it h =
      let s : EncodedAt (up_to_chunks z img t) (chunk_at z t c) k next = decode-sound _ _ _ _ h in
      omega (arith, s.small, (in_image (chunk_at z t c) k next s).0, chunks-inside fr t it, fr.within, fr.small)

  module _ {e : Entry} (w : WholeAt e) where
    -- the key ends before the value starts, and so within the chunks
    pub key-before : e.keyAt + e.keyLength < e.valueAt
    unfolding value_offset
    key-before = omega (arith, w.key_is, w.value_is, length-encode e.valueLength w.value_small)

    pub key-within : e.keyAt + e.keyLength ≤ chunk_at z t chunks
    key-within = omega (arith, key-before, w.value_within)

    pub key_in_image : Framed z (length img) → IsTier z t → e.keyAt + e.keyLength ≤ length img
    key_in_image fr it = omega (arith, key-within, chunks-inside fr t it, fr.within)

    -- the value ends within the chunks that the entry covers
    pub value-ends : Valid settings → e.valueAt + e.valueLength ≤ chunk_at z t (c + chunks_for settings e.keyLength e.valueLength)
    value-ends v =
        omega (
          arith,
          w.value_is,
          chunk-add z t c (chunks_for settings e.keyLength e.valueLength),
          chunks-enough settings e.keyLength e.valueLength w.key_small w.value_small v,
        )

    pub whole_chunk : c < chunks
    whole_chunk =
        ⊎_elim
        (λ h. h)
        (λ (h : chunks ≤ c).
        absurd (omega (arith, key-before, w.key_is, w.value_within, chunk-at z t c, chunk-at z t chunks, mul-le-mul_right chunkSize h)))
        (lt-or c chunks)

-- ---- it depends on the bytes from the chunk on to the chunks' end

decode-ext : (l l' : List ℕ) (at : ℕ) → drop at l ≡ drop at l' → decode l at ≡ decode l' at
unfolding decode
decode-ext l l' at e = rw e

after_key_length-ext : (l l' : List ℕ) (a : ℕ) → drop a l ≡ drop a l' → (d : Option (ℕ × ℕ)) → decode l a ≡ d
    → after_key_length l d ≡ after_key_length l' d
unfolding after_key_length
after_key_length-ext l l' a e None h = refl
after_key_length-ext l l' a e (Some (k, next)) h =
    let i : ℕ = next + k - a in
    let there : a + i ≡ next + k = omega (arith, (decode-sound l a k next h).after) in
    let later : drop (a + i) l ≡ drop (a + i) l' = sym (drop-drop i a l) ∙ ap (drop i) e ∙ drop-drop i a l' in
    ap (after_value_length next k) (decode-ext l l' (next + k) (rw there at later))

module _ (z : Shape) (img img' : List ℕ) (t c : ℕ) where
  open z use {settings}
  open settings use {chunks, chunkSize}

  from-chunk : (l : List ℕ) → c ≤ chunks → drop (chunk_at z t c) (up_to_chunks z l t) ≡ cut l (chunk_at z t c) ((chunks - c) * chunkSize)
  from-chunk l h = rw (← chunk-rest z t c h) (drop-take (chunk_at z t c) ((chunks - c) * chunkSize) l)

  pub stored-ext : (c ≤ chunks → cut img (chunk_at z t c) ((chunks - c) * chunkSize) ≡ cut img' (chunk_at z t c) ((chunks - c) * chunkSize))
      → stored z img t c ≡ stored z img' t c
  unfolding stored
  stored-ext same =
      ⊎_elim
      (λ (h : c < chunks).
      let le : c ≤ chunks = omega arith in
      let e : drop (chunk_at z t c) (up_to_chunks z img t) ≡ drop (chunk_at z t c) (up_to_chunks z img' t) =
      from-chunk img le ∙ same le ∙ sym (from-chunk img' le) in
      after_key_length-ext (up_to_chunks z img t) (up_to_chunks z img' t) (chunk_at z t c) e _ refl
      ∙ ap (after_key_length (up_to_chunks z img' t)) (decode-ext (up_to_chunks z img t) (up_to_chunks z img' t) (chunk_at z t c) e))
      (λ h. stored_past z img t c h ∙ sym (stored_past z img' t c h))
      (lt-or c chunks)

  -- a whole entry depends on less: on the n bytes from the chunk on, once its value starts within them
  module _ {e : Entry} (n : ℕ) (w : WholeAt z img t c e) (same : cut img (chunk_at z t c) n ≡ cut img' (chunk_at z t c) n) where
    within : (at m : ℕ) → chunk_at z t c ≤ at → at + m ≤ chunk_at z t c + n → cut img at m ≡ cut img' at m
    within at m = cut-within img img' (chunk_at z t c) n at m same

    module _ (room : value_offset settings e.keyLength e.valueLength ≤ n) where
      pub whole-ext : WholeAt z img' t c e
      unfolding value_offset
      whole-ext =
          record {
            key_small = w.key_small;
            value_small = w.value_small;
            key_is = w.key_is;
            value_is = w.value_is;
            value_within = w.value_within;
            key_form = sym (within (chunk_at z t c) (length (encode e.keyLength)) (omega arith) (omega arith)) ∙ w.key_form;
            value_form =
                sym (within (e.keyAt + e.keyLength) (length (encode e.valueLength)) (omega (arith, w.key_is)) (omega (arith, w.key_is)))
                ∙ w.value_form;
          }

      pub key-ext : key_of img e ≡ key_of img' e
      unfolding value_offset
      key-ext = within e.keyAt e.keyLength (omega (arith, w.key_is)) (omega (arith, w.key_is))

    pub value-ext : entry_size settings e.keyLength e.valueLength ≤ n → value_of img e ≡ value_of img' e
    value-ext room = within e.valueAt e.valueLength (omega (arith, w.value_is)) (omega (arith, w.value_is))

-- ---- the bytes of a key and a value are a whole entry

-- the entry at chunk c by its lengths
abbrev pub entry_here : Shape → ℕ → ℕ → ℕ → ℕ → Entry
entry_here z t c k v =
    record {
      keyAt = chunk_at z t c + length (encode k);
      keyLength = k;
      valueAt = chunk_at z t c + value_offset z.settings k v;
      valueLength = v;
    }

module _ (z : Shape) (img : List ℕ) (t c : ℕ) (key value : List ℕ) where
  open z use {settings}
  open settings use {chunks}

  -- the entry with these bytes
  abbrev whole : Entry
  whole = entry_here z t c (length key) (length value)

  pub stored-whole : length key ≤ largest_length → length value ≤ largest_length
      → cut img (chunk_at z t c) (length (entry_bytes settings key value)) ≡ entry_bytes settings key value
      → chunk_at z t c + length (entry_bytes settings key value) ≤ chunk_at z t chunks
      → (stored z img t c ≡ Some whole) × (key_of img whole ≡ key) × (value_of img whole ≡ value)
  unfolding entry_bytes value_offset
  stored-whole hk hv bytes room =
      let a : ℕ = chunk_at z t c in
      let k : List ℕ = encode (length key) in
      let v : List ℕ = encode (length value) in
      let before-v : cut img a (length (k ++ key)) ≡ k ++ key = cut-front img a (k ++ key) v (cut-front img a (k ++ key ++ v) value bytes) in
      let at-v : cut img (a + length (k ++ key)) (length v) ≡ v = cut-back img a (k ++ key) v (cut-front img a (k ++ key ++ v) value bytes) in
      let at_value : cut img (a + length (k ++ key ++ v)) (length value) ≡ value = cut-back img a (k ++ key ++ v) value bytes in
      let to-v : a + length (k ++ key) ≡ a + length k + length key = rw length-append (omega arith) in
      let to-value : a + length (k ++ key ++ v) ≡ a + (length k + length key + length v) = simp length-append (omega arith) in (
        whole-complete z img t c whole
            (record {
              key_small = hk;
              value_small = hv;
              key_is = refl;
              value_is = refl;
              value_within = omega (arith, length-entry settings key value);
              key_form = cut-front img a k key before-v;
              value_form = rw to-v at at-v;
            }),
        cut-back img a k key before-v,
        rw to-value at at_value,
      )
