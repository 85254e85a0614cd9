-- From the tests of the code to the rules of slots and entries.
use Prim.Native.Nat.{ℕ, ◌+◌, ◌-◌, ◌≤◌, ◌<◌}
use mathlib.Core.List.{List}
use mathlib.Core.Path.{◌≡◌, refl, ap, sym, ◌∙◌, subst}
use native.Mathlib.Omega.{arith}
use Rattle.std.specs.Prelude.{Option, Some, None}
use lib.ListN.{length, take, drop}
use Rattle.words.specs.Bytes.{cut}
use Rattle.layout.specs.declared.Shape.{Shape}
use Rattle.layout.specs.FramedTier.{FramedTier}
use Rattle.entries.specs.declared.Entry.{Entry}
use Rattle.entries.specs.Keys.{slot_chunk, slot_rest, KeyFits}
use Rattle.entries.specs.Stored.{stored, entry_of, key_of, chunks_for, ValueFits}
use Rattle.entries.specs.Live.{slot_at, chunk_of, entry_at}
use Rattle.entries.proofs.Whole.{WholeAt, whole-sound, whole_chunk, key_in_image}
use Rattle.search.specs.declared.Found.{Found}
use Rattle.search.specs.declared.Found.TheVariants.{At, Absent}
use Rattle.std.specs.Prelude.{Some}
use Rattle.search.specs.Rules.{IsWhole, Hashed, keyAt, EntryFits, chunks_at}
use Rattle.search.specs.Landing.{SlotSays}
use Rattle.search.specs.Asking.{HasKey}

-- ---- the cut of a key, as the code has it: from a place up to another

pub key-cut : (l : List ℕ) (at n : ℕ) → take (at + n - at) (drop at l) ≡ cut l at n
key-cut l at n = let e : at + n - at ≡ n = omega arith in ap (λ (k : ℕ). take k (drop at l)) e

-- ---- the entry of a full slot

-- the slot holds v, with c as its first chunk, where the entry e stands
pub record Held (z : Shape) (img : List ℕ) (t j v c : ℕ) (e : Entry) : Type 0 where
  pub holds : v ≡ slot_at z img t j
  pub first : c ≡ slot_chunk z.settings v
  pub whole : stored z img t c ≡ Some e

pub held : {z : Shape} {img : List ℕ} {t j v c : ℕ} {e : Entry} {r : Option Entry} → v ≡ slot_at z img t j → c ≡ slot_chunk z.settings v
    → r ≡ stored z img t c
    → r ≡ Some e → Held z img t j v c e
held ev ec er w = record { holds = ev; first = ec; whole = sym er ∙ w }

pub fits-broken : {z : Shape} {img : List ℕ} {s t j v c : ℕ} → v ≡ slot_at z img t j → c ≡ slot_chunk z.settings v → stored z img t c ≡ None
    → EntryFits z img s t j → ⊥
fits-broken {z} {img} {s} {t} ev ec b f = subst IsWhole (ap (stored z img t) (sym (ec ∙ ap (slot_chunk z.settings) ev)) ∙ b) f.whole

module _ {z : Shape} {img : List ℕ} {t j v c : ℕ} {e : Entry} (h : Held z img t j v c e) where
  open z use {settings}
  open settings use {chunks}

  chunk-is : c ≡ chunk_of z img t j
  chunk-is = h.first ∙ ap (slot_chunk settings) h.holds

  entry-is : entry_at z img t j ≡ e
  unfolding entry_at
  entry-is = ap (λ (k : ℕ). entry_of (stored z img t k)) (sym chunk-is) ∙ ap entry_of h.whole

  key-is : key_of img e ≡ keyAt z img t j
  unfolding keyAt
  key-is = ap (key_of img) (sym entry-is)

  chunks-is : {n : ℕ} → n ≡ chunks_for settings e.keyLength e.valueLength → n ≡ chunks_at z img t j
  chunks-is q = q ∙ ap (λ (x : Entry). chunks_for settings x.keyLength x.valueLength) (sym entry-is)

  pub sound : WholeAt z img t c e
  sound = whole-sound z img t c e h.whole

  pub held-inside : FramedTier z img t → e.keyAt + e.keyLength ≤ length img
  held-inside tier = key_in_image z img t c sound tier.framed tier.tier_in

  pub key-taken : take (e.keyAt + e.keyLength - e.keyAt) (drop e.keyAt img) ≡ key_of img e
  key-taken = key-cut img e.keyAt e.keyLength

  -- a rule is broken

  module _ {s : ℕ} where
    pub key-wrong : {key : List ℕ} → key ≡ key_of img e → (KeyFits settings key → ⊥) → EntryFits z img s t j → ⊥
    key-wrong q b f = b (rw (q, key-is) f.key_fits)

    pub value-wrong : (ValueFits settings e.keyLength e.valueLength → ⊥) → EntryFits z img s t j → ⊥
    value-wrong b f = b (subst (λ (x : Entry). ValueFits settings x.keyLength x.valueLength) entry-is f.value_fits)

    pub too_far : {n : ℕ} → n ≡ chunks_for settings e.keyLength e.valueLength → chunks < c + n → EntryFits z img s t j → ⊥
    too_far q l f = omega (arith, f.range_ends, chunks-is q, chunk-is)

    pub hash-wrong : (Hashed settings s v (key_of img e) → ⊥) → EntryFits z img s t j → ⊥
    hash-wrong b f = b (rw (h.holds, key-is) f.hashed)

    -- or all hold

    pub entry-right : {n : ℕ} → slot_rest settings v ≡ 0 → KeyFits settings (key_of img e) → ValueFits settings e.keyLength e.valueLength
        → n ≡ chunks_for settings e.keyLength e.valueLength → c + n ≤ chunks → Hashed settings s v (key_of img e) → EntryFits z img s t j
    entry-right r key value q end hash =
        record {
          higher_bits = ap (slot_rest settings) (sym h.holds) ∙ r;
          chunk_in = omega (arith, whole_chunk z img t c sound, chunk-is);
          whole = subst IsWhole (sym (ap (stored z img t) (sym chunk-is) ∙ h.whole)) tt;
          key_fits = rw key-is at key;
          value_fits = subst (λ (x : Entry). ValueFits settings x.keyLength x.valueLength) (sym entry-is) value;
          range_ends = omega (arith, chunks-is q, chunk-is);
          hashed = rw (h.holds, key-is) at hash;
        }

    -- with the chunks that it covers
    pub entry-says : {n : ℕ} → n ≡ chunks_for settings e.keyLength e.valueLength → EntryFits z img s t j
        → SlotSays z img (EntryFits z img s t j) t j (Some (c, n))
    entry-says q f = (f, (chunk-is, chunks-is q))

-- ---- where a search ended

pub never_both : (r : Found) (t j u k : ℕ) → r ≡ At t j → r ≡ Absent u k → ⊥
never_both r t j u k p q = let z : ◌≡◌ {A = ℕ} 0 1 = cc in omega arith

pub same-tier : (r : Found) (t j u k : ℕ) → r ≡ At t j → r ≡ At u k → u ≡ t
same-tier r t j u k p q = cc

module _ (z : Shape) (img : List ℕ) (t j : ℕ) where
  key-inside : FramedTier z img t → (r : Option Entry) → stored z img t (chunk_of z img t j) ≡ r → IsWhole r
      → (entry_at z img t j).keyAt + (entry_at z img t j).keyLength ≤ length img
  unfolding entry_at
  key-inside tier (Some e) q w =
      let same : entry_at z img t j ≡ e = ap entry_of q in
      rw same (key_in_image z img t (chunk_of z img t j) (whole-sound z img t (chunk_of z img t j) e q) tier.framed tier.tier_in)
  key-inside tier None q w = absurd w

  -- the key of a slot whose entry can be read stands within the image
  pub entry-has-key : FramedTier z img t → IsWhole (stored z img t (chunk_of z img t j)) → (e : Entry) → e ≡ entry_at z img t j → HasKey z img e
  entry-has-key tier w e q = record { framed = tier.framed; key_inside = rw q (key-inside tier (stored z img t (chunk_of z img t j)) refl w) }

  pub key-part : (e : Entry) → e ≡ entry_at z img t j → take (e.keyAt + e.keyLength - e.keyAt) (drop e.keyAt img) ≡ keyAt z img t j
  unfolding keyAt
  key-part e q = key-cut img e.keyAt e.keyLength ∙ ap (key_of img) q
