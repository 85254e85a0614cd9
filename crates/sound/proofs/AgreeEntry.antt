-- Two images that agree on the chunks of a tier, or on those that one entry covers: the entry is the same in both.
use Prim.Native.Nat.{ℕ, ◌+◌, ◌-◌, ◌*◌, ◌≤◌, ◌<◌}
use mathlib.Core.List.{List}
use mathlib.Core.Path.{◌≡◌, refl, ap, sym, ◌∙◌, subst}
use mathlib.Core.Logic.{◌≢◌, ⊎_elim}
use native.Mathlib.Omega.{arith}
use Rattle.std.specs.Prelude.{Option, Some, None}
use native.Mathlib.Nat.{mul-zero}
use Rattle.lists.specs.Cases.{same_or}
use Rattle.lists.proofs.Numbers.{ceil-enough}
use Rattle.words.specs.Bytes.{cut}
use Rattle.words.proofs.Cuts.{cut-within}
use Rattle.layout.specs.declared.Shape.{Shape}
use Rattle.layout.specs.Places.{chunk_at}
use Rattle.layout.proofs.Chunks.{chunk-at, chunk-rest, chunk_inside, chunk-add}
use Rattle.entries.specs.declared.Entry.{Entry}
use Rattle.entries.specs.Keys.{KeyFits, segment_of, lookup_key, slot_chunk, slot_key, slot_rest}
use Rattle.entries.specs.Stored.{stored, entry_of, key_of, value_of, entry_size, chunks_for, ValueFits}
use Rattle.entries.specs.Live.{slot_at, chunk_of, entry_at}
use Rattle.entries.proofs.Whole.{WholeAt, whole-sound, whole-complete, key-before, stored-ext, whole-ext, key-ext, value-ext}
use Rattle.search.specs.Rules.{IsWhole, keyAt, chunks_at, EntryFits}
use Rattle.sound.proofs.Values.{entry_for, pair_for}

-- on all chunks of tier u, and on the n from c on
abbrev pub SameBytes : Shape → List ℕ → List ℕ → ℕ → Type 0
SameBytes z img img' u =
    cut img' (chunk_at z u 0) (z.settings.chunks * z.settings.chunkSize)
    ≡ cut img (chunk_at z u 0) (z.settings.chunks * z.settings.chunkSize)

abbrev pub SameChunks : Shape → List ℕ → List ℕ → (u c n : ℕ) → Type 0
SameChunks z img img' u c n = cut img' (chunk_at z u c) (n * z.settings.chunkSize) ≡ cut img (chunk_at z u c) (n * z.settings.chunkSize)

-- what an entry is after a slot's number moved from j to k, where the chunks that it covers agree
pub record Moved (z : Shape) (img img' : List ℕ) (s u j k : ℕ) : Type 0 where
  pub fits : EntryFits z img' s u k
  pub entry : entry_for z img' u (slot_at z img' u k) ≡ entry_for z img u (slot_at z img u j)
  pub key : keyAt z img' u k ≡ keyAt z img u j
  pub pair : pair_for z img' u (slot_at z img' u k) ≡ pair_for z img u (slot_at z img u j)

-- ---- a whole entry ends within the chunks that it covers

module _ (z : Shape) (img : List ℕ) (u c : ℕ) where
  open z use {settings}
  open settings use {chunks, chunkSize}

  -- it needs chunks of some size, so the settings need not be known to be valid
  size-pos : (e : Entry) → WholeAt z img u c e → 0 < chunkSize
  size-pos e w =
      ⊎_elim
      (λ (h : chunkSize ≡ 0).
      let a : c * chunkSize ≡ 0 = rw (h, mul-zero) in
      let b : chunks * chunkSize ≡ 0 = rw (h, mul-zero) in
      absurd (omega (arith, key-before z img u c w, w.key_is, w.value_within, chunk-at z u c, chunk-at z u chunks)))
      (λ (h : chunkSize ≢ 0). omega arith)
      (same_or chunkSize 0)

  chunks-hold : (e : Entry) → WholeAt z img u c e
      → entry_size settings e.keyLength e.valueLength ≤ chunks_for settings e.keyLength e.valueLength * chunkSize
  unfolding chunks_for
  chunks-hold e w = ceil-enough (entry_size settings e.keyLength e.valueLength) chunkSize (size-pos e w)

module _ (z : Shape) (img img' : List ℕ) (u : ℕ) where
  open z use {settings}
  open settings use {chunks, chunkSize}

  -- what lies within the chunks is the same in both
  within : SameBytes z img img' u → (at n : ℕ) → chunk_at z u 0 ≤ at → at + n ≤ chunk_at z u chunks → cut img' at n ≡ cut img at n
  within b at n lo hi = cut-within img' img (chunk_at z u 0) (chunks * chunkSize) at n b lo (omega (arith, chunk-at z u chunks))

  pub same-stored : SameBytes z img img' u → (c : ℕ) → stored z img' u c ≡ stored z img u c
  same-stored b c =
      stored-ext z img' img u c
      (λ h. within b (chunk_at z u c) ((chunks - c) * chunkSize) (omega (arith, chunk-at z u c)) (omega (arith, chunk-rest z u c h)))

  -- an entry reads the same where the chunks that it covers do
  own-stored : (c : ℕ) (r : Option Entry) → stored z img u c ≡ r → IsWhole r
      → SameChunks z img img' u c (chunks_for settings (entry_of r).keyLength (entry_of r).valueLength)
      → (stored z img' u c ≡ r) × (key_of img' (entry_of r) ≡ key_of img (entry_of r)) × (value_of img' (entry_of r) ≡ value_of img (entry_of r))
  own-stored c (Some e) q w same =
      let a : WholeAt z img u c e = whole-sound z img u c e q in
      let n : ℕ = chunks_for settings e.keyLength e.valueLength * chunkSize in
      let room : entry_size settings e.keyLength e.valueLength ≤ n = chunks-hold z img u c e a in (
        whole-complete z img' u c e (whole-ext z img img' u c n a (sym same) (omega (arith, room))),
        sym (key-ext z img img' u c n a (sym same) (omega (arith, room))),
        sym (value-ext z img img' u c n a (sym same) room),
      )
  own-stored c None q w same = absurd w

  pub entry-stays : (s j k : ℕ) → SameChunks z img img' u (chunk_of z img u j) (chunks_at z img u j) → slot_at z img' u k ≡ slot_at z img u j
      → EntryFits z img s u j → Moved z img img' s u j k
  unfolding keyAt entry_at
  entry-stays s j k b e f =
      let r : Option Entry = stored z img u (chunk_of z img u j) in
      let own : (stored z img' u (chunk_of z img u j) ≡ r) × (key_of img' (entry_of r) ≡ key_of img (entry_of r))
      × (value_of img' (entry_of r) ≡ value_of img (entry_of r)) = own-stored (chunk_of z img u j) r refl f.whole b in
      let st : stored z img' u (chunk_of z img' u k) ≡ r = ap (λ (x : ℕ). stored z img' u (slot_chunk settings x)) e ∙ own.0 in
      let key : key_of img' (entry_of (stored z img' u (chunk_of z img' u k))) ≡ key_of img (entry_of r) =
      ap (λ (x : Option Entry). key_of img' (entry_of x)) st ∙ own.1 in
      let value : value_of img' (entry_of (stored z img' u (chunk_of z img' u k))) ≡ value_of img (entry_of r) =
      ap (λ (x : Option Entry). value_of img' (entry_of x)) st ∙ own.2 in
      let chunk : chunk_of z img' u k ≡ chunk_of z img u j = ap (slot_chunk settings) e in
      let many : chunks_at z img' u k ≡ chunks_at z img u j =
      ap (λ (x : Option Entry). chunks_for settings (entry_of x).keyLength (entry_of x).valueLength) st in
      record {
        fits =
            record {
              higher_bits = ap (slot_rest settings) e ∙ f.higher_bits;
              chunk_in = omega (arith, chunk, f.chunk_in);
              whole = subst IsWhole (sym st) f.whole;
              key_fits = subst (KeyFits settings) (sym key) f.key_fits;
              value_fits = subst (λ (x : Option Entry). ValueFits settings (entry_of x).keyLength (entry_of x).valueLength) (sym st) f.value_fits;
              range_ends = omega (arith, chunk, many, f.range_ends);
              hashed =
                  record {
                    segment_agrees = ap (segment_of settings) key ∙ f.hashed.segment_agrees;
                    lookup_agrees = ap (lookup_key settings) key ∙ f.hashed.lookup_agrees ∙ ap (slot_key settings) (sym e);
                  };
            };
        entry = ap entry_of st;
        key = key;
        pair = λ i. record { key = key i; value = value i };
      }

  -- so where all chunks do
  pub entry-moves : SameBytes z img img' u → (s j k : ℕ) → slot_at z img' u k ≡ slot_at z img u j → EntryFits z img s u j
      → Moved z img img' s u j k
  entry-moves b s j k e f =
      let c : ℕ = chunk_of z img u j in
      let n : ℕ = chunks_at z img u j in
      entry-stays s j k
      (within b (chunk_at z u c) (n * chunkSize) (omega (arith, chunk-at z u c))
      (omega (arith, chunk-add z u c n, chunk_inside z u (c + n) f.range_ends)))
      e f
