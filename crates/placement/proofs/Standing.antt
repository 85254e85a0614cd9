-- A slot that names an entry whose bytes stand there: it fits the rules and stands for that key and value.
use Prim.Native.Nat.{ℕ, ◌+◌, ◌≤◌}
use mathlib.Core.List.{List}
use mathlib.Core.Path.{◌≡◌, refl, ap, sym, ◌∙◌}
use native.Mathlib.Omega.{arith}
use Rattle.std.specs.Prelude.{Some}
use lib.ListN.{length}
use Rattle.words.specs.Bytes.{cut}
use Rattle.layout.specs.declared.Shape.{Shape}
use Rattle.layout.specs.Places.{chunk_at}
use Rattle.entries.specs.declared.Entry.{Entry}
use Rattle.entries.specs.Keys.{KeyFits, slot_chunk, slot_rest}
use Rattle.entries.specs.Stored.{entry_bytes, chunks_for, ValueFits, stored, entry_of, key_of, value_of}
use Rattle.entries.specs.Live.{slot_at, entry_at}
use Rattle.entries.specs.Pairs.{Pair}
use Rattle.entries.proofs.Whole.{entry_here, stored-whole}
use Rattle.search.specs.Rules.{Hashed, keyAt, EntryFits}
use Rattle.search.proofs.Fitting.{entry-right, Held}
use Rattle.sound.proofs.Values.{entry_for, pair_for}

-- slot j of tier t holds v, which names chunk c
pub record Stands (z : Shape) (img : List ℕ) (s t j v c : ℕ) (key value : List ℕ) : Type 0 where
  pub holds : slot_at z img t j ≡ v
  pub first : slot_chunk z.settings v ≡ c
  pub rest : slot_rest z.settings v ≡ 0
  pub hashed : Hashed z.settings s v key
  pub key_fits : KeyFits z.settings key
  pub value_fits : ValueFits z.settings (length key) (length value)
  pub range_ends : c + chunks_for z.settings (length key) (length value) ≤ z.settings.chunks
  pub bytes : cut img (chunk_at z t c) (length (entry_bytes z.settings key value)) ≡ entry_bytes z.settings key value
  pub in_chunks : chunk_at z t c + length (entry_bytes z.settings key value) ≤ chunk_at z t z.settings.chunks

module _ {z : Shape} {img : List ℕ} {s t j v c : ℕ} {key value : List ℕ} (w : Stands z img s t j v c key value) where
  open z use {settings}

  abbrev made : Entry
  made = entry_here z t c (length key) (length value)

  whole : (stored z img t c ≡ Some made) × (key_of img made ≡ key) × (value_of img made ≡ value)
  whole = stored-whole z img t c key value (omega (arith, w.key_fits.not_longer)) w.value_fits.not_longer w.bytes w.in_chunks

  stored_here : stored z img t (slot_chunk settings v) ≡ Some made
  stored_here = ap (stored z img t) w.first ∙ whole.0

  pub stands-entry : entry_for z img t v ≡ entry_here z t c (length key) (length value)
  stands-entry = ap entry_of stored_here

  pub stands-pair : pair_for z img t v ≡ record { key = key; value = value }
  stands-pair =
      let a : key_of img (entry_for z img t v) ≡ key = ap (key_of img) stands-entry ∙ whole.1 in
      let b : value_of img (entry_for z img t v) ≡ value = ap (value_of img) stands-entry ∙ whole.2 in
      λ i. record { key = a i; value = b i }

  pub stands-key : keyAt z img t j ≡ key
  unfolding keyAt entry_at
  stands-key = ap (λ (x : ℕ). (pair_for z img t x).key) w.holds ∙ ap (λ (x : Pair). x.key) stands-pair

  pub stands-fits : EntryFits z img s t j
  stands-fits =
      let holds : Held z img t j v (slot_chunk settings v) made = record { holds = sym w.holds; first = refl; whole = stored_here } in
      entry-right holds w.rest (rw whole.1 w.key_fits) w.value_fits refl (omega (arith, w.first, w.range_ends)) (rw whole.1 w.hashed)
