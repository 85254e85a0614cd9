-- The walk of a quick lookup: along the chain of the key's segment, in each tier slot by slot upward from the start slot. What it meets
-- is tested, and nothing else.
use Rattle.std.specs.Prelude.{ℕ, zero, suc, ◌+◌, ◌≤◌, ◌<◌, List, true, false, eqb, Option, Some, None, Result, Ok, Err}
use Rattle.std.proofs.Math.Decide.{dec_le, dec_lt}
use Rattle.lists.specs.Decide.{rule, choose}
use Rattle.words.specs.Bytes.{same}
use Rattle.layout.specs.declared.Shape.{Shape}
use Rattle.layout.specs.Tiers.{tiers}
use Rattle.layout.specs.Places.{chunk_at}
use Rattle.chains.specs.Chains.{next_of, is_extra?}
use Rattle.probe.specs.Ring.{next}
use Rattle.entries.specs.declared.Entry.{Entry}
use Rattle.entries.specs.Keys.{longest_key, segment_of, lookup_key, start, slot_key, slot_chunk}
use Rattle.entries.specs.Stored.{stored, entry_of, key_of, longest_value}
use Rattle.entries.specs.Live.{slot_at}
use Rattle.search.specs.Rules.{IsWhole, is_whole?}
use Rattle.walk.specs.declared.Broken.{Broken}
use Rattle.walk.specs.declared.TierMet.{TierMet}
use Rattle.walk.specs.declared.TierMet.TheVariants.{Holds, Empty}
use Rattle.walk.specs.declared.WalkEnd.{WalkEnd}
use Rattle.walk.specs.declared.WalkEnd.TheVariants.{Found, Absent}

-- what is answered where something broken is met
abbrev pub broken : {A : Type 0} → Result A Broken
broken = Err (record {})

-- ---- what is tested where a slot has the key's lookup key: chunk c of tier t, which the slot names, and the entry there

module _ (z : Shape) (img : List ℕ) (t c : ℕ) where
  open z use {settings}
  open settings use {chunks}

  abbrev pub entry_there : Entry
  entry_there = entry_of (stored z img t c)

  pub record EntryReads : Type 0 where
    pub chunk_in : c < chunks
    -- both lengths are in the shortest form
    pub whole : IsWhole (stored z img t c)
    pub some_byte : 1 ≤ entry_there.keyLength
    pub key_not_longer : entry_there.keyLength ≤ longest_key
    pub value_not_longer : entry_there.valueLength ≤ longest_value
    -- the entry ends within the tier's chunks
    pub ends : entry_there.valueAt + entry_there.valueLength ≤ chunk_at z t chunks

  unfoldable pub entry_reads? : Dec EntryReads
  entry_reads? =
      rule (λ v. v.chunk_in) (dec_lt c chunks) λ a.
      rule (λ v. v.whole) (is_whole? (stored z img t c)) λ b.
      rule (λ v. v.some_byte) (dec_le 1 entry_there.keyLength) λ d.
      rule (λ v. v.key_not_longer) (dec_le entry_there.keyLength longest_key) λ e.
      rule (λ v. v.value_not_longer) (dec_le entry_there.valueLength longest_value) λ f.
      rule (λ v. v.ends) (dec_le (entry_there.valueAt + entry_there.valueLength) (chunk_at z t chunks)) λ g.
      yes (record { chunk_in = a; whole = b; some_byte = d; key_not_longer = e; value_not_longer = f; ends = g })

module _ (z : Shape) (img key : List ℕ) where
  open z use {settings}
  open settings use {slots}

  -- ---- a full slot of tier t that holds v: the entry is tested before the whole keys are compared

  unfoldable pub compared : Entry → Result (Option Entry) Broken
  compared e = elim (same (key_of img e) key) [ true ↦ Ok (Some e) | false ↦ Ok None ]

  unfoldable pub tested : (t c : ℕ) → Dec (EntryReads z img t c) → Result (Option Entry) Broken
  tested t c d = choose d (λ _. broken) (λ _. compared (entry_there z img t c))

  unfoldable pub at_slot : (t v : ℕ) → Result (Option Entry) Broken
  at_slot t v =
      elim (eqb (slot_key settings v) (lookup_key settings key)) [
        | true ↦ tested t (slot_chunk settings v) (entry_reads? z img t (slot_chunk settings v))
        | false ↦ Ok None
      ]

  -- ---- tier t from slot j on, over at most n slots: up to the whole key, an empty slot, or something broken

  unfoldable pub over_slots : (t n j : ℕ) → Result TierMet Broken
  over_slots t zero j = broken
  over_slots t (suc n) j =
      elim (eqb (slot_at z img t j) 0) [
        | true ↦ Ok (Empty j)
        | false ↦ elim (at_slot t (slot_at z img t j)) [ Ok (Some e) ↦ Ok (Holds j e) | Err _ ↦ broken | Ok None ↦ over_slots t n (next slots j) ]
      ]

  -- the whole tier: all its slots without an empty one are something broken
  unfoldable pub in_tier : (t : ℕ) → Result TierMet Broken
  in_tier t = over_slots t slots (start settings (lookup_key settings key))

  -- ---- from tier t on, over at most n tiers; an empty slot leads to the tier's next, which is 0 or an extra tier

  unfoldable pub from_tier : (n t : ℕ) → Result WalkEnd Broken
  from_tier zero t = broken
  from_tier (suc n) t =
      elim (in_tier t) [
        | Ok (Holds j e) ↦ Ok (Found t j e)
        | Err _ ↦ broken
        | Ok (Empty j) ↦ elim (eqb (next_of z img t) 0) [
          | true ↦ Ok (Absent t j)
          | false ↦ choose (is_extra? z img (next_of z img t)) (λ _. broken) (λ _. from_tier n (next_of z img t))
        ]
      ]

  -- the walk: over at most all the tiers
  unfoldable pub walk : Result WalkEnd Broken
  walk = from_tier (tiers z) (suc (segment_of settings key))
