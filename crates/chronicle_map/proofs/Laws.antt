-- What a crate above the calls needs of them: the check's refusal is every call's, a lookup reads the map, a store leaves bytes.
use Prim.Native.Nat.{ℕ}
use mathlib.Core.List.{List, Memᴰ}
use mathlib.Core.Path.{◌≡◌, refl, ap, sym, ◌∙◌}
use mathlib.Core.Option.{Option, none, some}
use native.Mathlib.Omega.{arith}
use Rattle.std.specs.Prelude.{Ok, Err}
use Rattle.words.specs.Bytes.{Bytes}
use Rattle.settings.specs.Block.{settings_of}
use Rattle.layout.specs.declared.Shape.{Shape}
use Rattle.entries.specs.declared.Live.{Live}
use Rattle.entries.specs.Keys.{KeyFits}
use Rattle.entries.specs.Stored.{key_of}
use Rattle.entries.specs.Live.{live}
use Rattle.entries.specs.Pairs.{Pair, pair_of, pairs_of}
use Rattle.edit.specs.declared.Policy.{Policy}
use Rattle.image.specs.declared.Stage.{Stage}
use Rattle.image.specs.declared.Outcome.TheVariants as outcome
use Rattle.image.specs.declared.Verdict.{Verdict}
use Rattle.image.specs.Check.{Examined, examine, verdict_of, check}
use Rattle.edit.specs.Edits.{find}
use Rattle.edit.proofs.Finding.{find-live}
use Rattle.chronicle_map.specs.declared.RecordPlace.{RecordPlace}
use Rattle.std.specs.Prelude.{Ok, Err}
use Rattle.chronicle_map.specs.declared.Located.TheVariants as looked
use Rattle.chronicle_map.specs.declared.EditError.TheVariants as error
use Rattle.chronicle_map.specs.Asked.{Given, a_key, an_entry, after_examined, asked}
use Rattle.chronicle_map.specs.Calls.{place_of, search_end, lookup, record_at, record_length, record_bytes, store}
use Rattle.chronicle_map.specs.History.{stores, leaves, map_of, map_get}
use Rattle.chronicle_map.specs.Demands.{Accepted, shape}
use Rattle.chronicle_map.proofs.Accepting.{Holds, accepted-holds}
use Rattle.chronicle_map.proofs.Mapping.{map_found, map-none}
use Rattle.chronicle_map.proofs.Calling.{lookup-refused, store-refused}
use Rattle.chronicle_map.proofs.Steps.{step}
use Rattle.chronicle_map.proofs.Altering.{demand2}

-- ---- the check's refusal is every call's

refused-by : (x : Examined) (s : Stage) → verdict_of x ≡ record { outcome = outcome.Refused s } → x ≡ Err s
unfolding verdict_of
refused-by (Err r) s e =
    let f : outcome.Refused r ≡ outcome.Refused s = ap (λ (v : Verdict). v.outcome) e in
    let q : r ≡ s = cc in
    ap Err q
refused-by (Ok (z, c)) s e =
    absurd (let f : outcome.Accepted c ≡ outcome.Refused s = ap (λ (v : Verdict). v.outcome) e in let q : ◌≡◌ {A = ℕ} 0 1 = cc in omega arith)

module _ (block img : List ℕ) (s : Stage) (e : check block img ≡ record { outcome = outcome.Refused s }) where
  asked-refused : (g : Given) → asked block img g ≡ Err s
  unfolding check asked after_examined
  asked-refused g = ap (after_examined g) (refused-by (examine block img) s e)

  pub check-lookup : (key : List ℕ) → lookup block img key ≡ Err s
  check-lookup key = sym (lookup-refused block img key refl s (asked-refused (a_key key)))

  pub check-store : (policy : Policy) (key value : List ℕ) → store policy block img key value ≡ record { answer = Err (error.Refused s); image = img }
  check-store policy key value = sym (store-refused policy block img key value refl s (asked-refused (an_entry key value)))

-- ---- on an accepted image

-- the record of this key and record is found
pub record Looked (block img key : List ℕ) (p : Pair) : Type 0 where
  pub place : RecordPlace
  pub found : lookup block img key ≡ Ok (looked.Found place)
  pub bytes : record_bytes img (Ok (looked.Found place)) ≡ p.value

module _ (block img : List ℕ) (b : Bytes img) (a : Accepted block img) where
  abbrev z : Shape
  z = shape block img

  h : Holds block img
  h = accepted-holds block img b a

  -- a lookup gives the record that the map has under the key, or says that there is none

  pub lookup-some : (key : List ℕ) (p : Pair) → map_get (map_of block img) key ≡ some p → Looked block img key p
  unfolding record_bytes record_at record_length
  lookup-some key p g = by-find (find z img key) refl
    where
      by-find : (o : Option Live) → find z img key ≡ o → Looked block img key p
      by-find none f =
          absurd (let q : some p ≡ none = sym g ∙ map-none z img h.sound (pairs_of z img) (λ F. refl) key f in
          let n : ◌≡◌ {A = ℕ} 0 1 = cc in
          omega arith)
      by-find (some e) f =
          let r : Memᴰ e (live z img) × (key_of img e.entry ≡ key) = find-live z img key e f in
          let q : some (pair_of img e) ≡ some p = sym (map_found z img h.sound (pairs_of z img) (λ F. refl) key e f) ∙ g in
          let s : pair_of img e ≡ p = cc in
          record {
            place = place_of e;
            found = ((demand2 block img b a).lookups key).stored e r.0 r.1;
            bytes = ap (λ (x : Pair). x.value) s;
          }

  pub lookup-none : (key : List ℕ) → KeyFits (settings_of block) key → map_get (map_of block img) key ≡ none
      → lookup block img key ≡ Ok (looked.Absent (search_end z img key))
  lookup-none key fits g = ((demand2 block img b a).lookups key).none fits g

  -- a store leaves bytes
  pub store_bytes : (policy : Policy) (key value : List ℕ) → Bytes key → Bytes value → Bytes (store policy block img key value).image
  unfolding leaves
  store_bytes policy key value kb vb = (step block img h (pairs_of z img) (λ F. refl) (stores policy key value) (kb, vb)).holds.sound.bytes
