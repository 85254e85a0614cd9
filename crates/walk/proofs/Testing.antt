-- A full slot that the walk meets, path by path.
use Prim.Native.Nat.{ℕ, ◌+◌, ◌^◌, ◌≤◌}
use mathlib.Core.List.{List}
use mathlib.Core.Path.{◌≡◌, refl, ap, sym, ◌∙◌, subst}
use mathlib.Core.Logic.{◌≢◌}
use mathlib.Core.Bool.{true, false}
use native.Mathlib.Omega.{arith}
use Rattle.std.specs.Prelude.{Option, Some, None}
use lib.ListN.{length}
use borrow.Author.Tests.{eq-eqb, ne_eqb}
use Rattle.lists.proofs.Decides.{choose_no, choose_yes}
use Rattle.words.specs.Bytes.{same}
use Rattle.leb128.specs.Leb128.{decode}
use Rattle.layout.specs.declared.Shape.{Shape}
use Rattle.layout.specs.Tiers.{IsTier}
use Rattle.layout.specs.Places.{chunk_at}
use Rattle.layout.specs.Frame.{Framed}
use Rattle.layout.proofs.Chunks.{chunks-inside}
use Rattle.entries.specs.declared.Entry.{Entry}
use Rattle.entries.specs.Keys.{longest_key, lookup_key, slot_key, slot_chunk}
use Rattle.entries.specs.Stored.{up_to_chunks, stored, entry_of, key_of}
use Rattle.entries.proofs.Whole.{WholeAt, stored-value-refused, stored-both-read, whole-sound, whole_chunk}
use Rattle.search.specs.Rules.{IsWhole}
use Rattle.std.specs.Prelude.{Some, None, Ok}
use Rattle.walk.specs.Walk.{broken, entry_there, EntryReads, entry_reads?, compared, tested, at_slot}
use Rattle.walk.specs.Telling.{ReadsSay}

-- ---- the tests of an entry, by what is stored there

-- what is left to test of an entry that could be read
pub record Measured (z : Shape) (t : ℕ) (e : Entry) : Type 0 where
  pub some_byte : 1 ≤ e.keyLength
  pub key_not_longer : e.keyLength ≤ longest_key
  pub ends : e.valueAt + e.valueLength ≤ chunk_at z t z.settings.chunks

module _ (z : Shape) (img : List ℕ) (t c : ℕ) where
  pub broken-unread : stored z img t c ≡ None → EntryReads z img t c → ⊥
  broken-unread b r = subst IsWhole b r.whole

  module _ {e : Entry} (w : stored z img t c ≡ Some e) where
    pub reads-measured : EntryReads z img t c → Measured z t e
    reads-measured r =
        let q : entry_of (stored z img t c) ≡ e = ap entry_of w in
        record { some_byte = rw q at r.some_byte; key_not_longer = rw q at r.key_not_longer; ends = rw q at r.ends }

    pub measured-reads : Measured z t e → EntryReads z img t c
    measured-reads m =
        let q : entry_of (stored z img t c) ≡ e = ap entry_of w in
        let a : WholeAt z img t c e = whole-sound z img t c e w in
        record {
          chunk_in = whole_chunk z img t c a;
          whole = subst IsWhole (sym w) tt;
          some_byte = rw q m.some_byte;
          key_not_longer = rw q m.key_not_longer;
          value_not_longer = rw q a.value_small;
          ends = rw q m.ends;
        }

    -- where its value ends is a small number
    pub value-end-small : Framed z (length img) → IsTier z t → e.valueAt + e.valueLength ≤ 2 ^ 25
    value-end-small fr it =
        let a : WholeAt z img t c e = whole-sound z img t c e w in
        omega (arith, a.value_within, a.value_small, chunks-inside fr t it, fr.within, fr.small)

  -- the key's length is tested before the value's is read
  module _ {k next : ℕ} (d : decode (up_to_chunks z img t) (chunk_at z t c) ≡ Some (k, next)) where
    key-by : (x : Option (ℕ × ℕ)) → decode (up_to_chunks z img t) (next + k) ≡ x → EntryReads z img t c → (1 ≤ k) × (k ≤ longest_key)
    key-by None e r = absurd (broken-unread (stored-value-refused z img t c d e) r)
    key-by (Some (v, after)) e r =
        let m = reads-measured (stored-both-read z img t c d e) r in
        (m.some_byte, m.key_not_longer)

    pub reads-key : EntryReads z img t c → (1 ≤ k) × (k ≤ longest_key)
    reads-key r = key-by (decode (up_to_chunks z img t) (next + k)) refl r

  -- what the test of the entry answered
  module _ (r : Option Entry) (says : ReadsSay z img t c r) where
    pub say_broken : r ≡ None → EntryReads z img t c → ⊥
    say_broken e = let n : ReadsSay z img t c None = subst (ReadsSay z img t c) e says in n

    pub say_whole : (x : Entry) → r ≡ Some x → (stored z img t c ≡ Some x) × EntryReads z img t c
    say_whole x e = subst (ReadsSay z img t c) e says

-- ---- what the slot is, by its lookup key and its entry

module _ (z : Shape) (img key : List ℕ) (t v lookup : ℕ) (el : lookup ≡ lookup_key z.settings key) where
  open z use {settings}

  pub slot-other : slot_key settings v ≢ lookup → Ok None ≡ at_slot z img key t v
  unfolding at_slot
  slot-other n = sym (rw (ne_eqb (slot_key settings v) (lookup_key settings key) (λ q. n (q ∙ sym el)), at_slot))

  module _ (k : slot_key settings v ≡ lookup) (c : ℕ) (ec : c ≡ slot_chunk settings v) where
    at-chunk : tested z img key t c (entry_reads? z img t c) ≡ at_slot z img key t v
    unfolding at_slot
    at-chunk = sym (rw (eq-eqb (slot_key settings v) (lookup_key settings key) (k ∙ el), at_slot, ← ec))

    pub slot-broken : (EntryReads z img t c → ⊥) → broken ≡ at_slot z img key t v
    unfolding tested
    slot-broken n = sym (choose_no (entry_reads? z img t c) _ _ n) ∙ at-chunk

    module _ {e : Entry} (q : entry_there z img t c ≡ e) (r : EntryReads z img t c) where
      at_entry : compared z img key e ≡ at_slot z img key t v
      unfolding tested
      at_entry =
          ap (compared z img key) (sym q)
          ∙ sym (choose_yes (entry_reads? z img t c) _ _ r)
          ∙ at-chunk

      pub slot_same : same (key_of img e) key ≡ true → Ok (Some e) ≡ at_slot z img key t v
      unfolding compared
      slot_same s = sym (rw (s, compared)) ∙ at_entry

      pub slot-differs : same (key_of img e) key ≡ false → Ok None ≡ at_slot z img key t v
      unfolding compared
      slot-differs s = sym (rw (s, compared)) ∙ at_entry
