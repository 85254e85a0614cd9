-- A stored entry: key length, key, value length, value. Offsets are in the image.
use Rattle.std.specs.Prelude.{ℕ, ◌+◌, ◌≤◌, List, ◌++◌, ◌≡◌, length, take, Option, Some, None}
use Rattle.std.proofs.Math.Decide.{dec_le}
use Rattle.lists.specs.Decide.{rule}
use Rattle.lists.specs.Lists.{ceil}
use Rattle.words.specs.Bytes.{cut}
use Rattle.leb128.specs.Leb128.{encode, decode}
use Rattle.settings.specs.declared.Settings.{Settings}
use Rattle.layout.specs.declared.Shape.{Shape}
use Rattle.layout.specs.Places.{chunk_at}
use Rattle.entries.specs.declared.Entry.{Entry}

-- ---- an entry's size, by the lengths of its key and value

-- where the value starts, after the entry's first byte
unfoldable pub value_offset : Settings → ℕ → ℕ → ℕ
value_offset st k v = length (encode k) + k + length (encode v)

abbrev pub entry_size : Settings → ℕ → ℕ → ℕ
entry_size st k v = value_offset st k v + v

unfoldable pub chunks_for : Settings → ℕ → ℕ → ℕ
chunks_for st k v = ceil (entry_size st k v) st.chunkSize

-- which values may stand under a key, by the two lengths: refusals 6, of a stored one, and 9, of a given one
abbrev pub longest_value : ℕ
longest_value = 65535

pub record ValueFits (st : Settings) (k v : ℕ) : Type 0 where
  pub not_longer : v ≤ longest_value
  pub not_too_many : chunks_for st k v ≤ st.mostChunks

unfoldable pub value_fits? : (st : Settings) (k v : ℕ) → Dec (ValueFits st k v)
value_fits? st k v =
    rule (λ f. f.not_longer) (dec_le v longest_value) λ a.
    rule (λ f. f.not_too_many) (dec_le (chunks_for st k v) st.mostChunks) λ b.
    yes (record { not_longer = a; not_too_many = b })

-- a value that fits, with the chunks that its entry covers, or one that does not
abbrev pub SizeSays : Settings → ℕ → ℕ → Option ℕ → Type 0
SizeSays st k v (Some n) = ValueFits st k v × (n ≡ chunks_for st k v)
SizeSays st k v None = ValueFits st k v → ⊥

-- its bytes
unfoldable pub entry_bytes : Settings → List ℕ → List ℕ → List ℕ
entry_bytes st key value = encode (length key) ++ key ++ encode (length value) ++ value

-- ---- an entry as it stands at the first byte of a chunk; nothing past the tier's chunks is read

unfoldable pub after_value_length : ℕ → ℕ → Option (ℕ × ℕ) → Option Entry
after_value_length at k None = None
after_value_length at k (Some (v, next)) = Some (record { keyAt = at; keyLength = k; valueAt = next; valueLength = v })

unfoldable pub after_key_length : List ℕ → Option (ℕ × ℕ) → Option Entry
after_key_length bytes None = None
after_key_length bytes (Some (k, next)) = after_value_length next k (decode bytes (next + k))

-- the image up to the end of tier t's chunks
abbrev pub up_to_chunks : Shape → List ℕ → ℕ → List ℕ
up_to_chunks z img t = take (chunk_at z t z.settings.chunks) img

unfoldable pub stored : Shape → List ℕ → ℕ → ℕ → Option Entry
stored z img t c = after_key_length (up_to_chunks z img t) (decode (up_to_chunks z img t) (chunk_at z t c))

-- the entry, with zeros where it cannot be read
abbrev pub entry_of : Option Entry → Entry
entry_of (Some e) = e
entry_of None = record { keyAt = 0; keyLength = 0; valueAt = 0; valueLength = 0 }

-- the bytes of its key and of its value
abbrev pub key_of : List ℕ → Entry → List ℕ
key_of img e = cut img e.keyAt e.keyLength

abbrev pub value_of : List ℕ → Entry → List ℕ
value_of img e = cut img e.valueAt e.valueLength
