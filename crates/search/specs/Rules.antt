-- The rules of slots and entries: refusal 6.
use Rattle.std.specs.Prelude.{ℕ, ◌+◌, ◌≤◌, ◌<◌, List, ◌≡◌, ◌≢◌, Option, Some, None}
use Rattle.std.proofs.Math.Decide.{dec_le, dec_lt, ℕ_discrete}
use Rattle.lists.specs.Decide.{both, implied, refuted, rule, some_below}
use Rattle.lists.specs.Quantify.{Below, Every, below?, every?}
use Rattle.words.specs.Same.{same?}
use Rattle.settings.specs.declared.Settings.{Settings}
use Rattle.layout.specs.declared.Shape.{Shape}
use Rattle.chains.specs.Chains.{chain}
use Rattle.probe.specs.Ring.{dist}
use Rattle.entries.specs.declared.Entry.{Entry}
use Rattle.entries.specs.Keys.{KeyFits, segment_of, lookup_key, start, slot_key, slot_rest, key_fits?}
use Rattle.entries.specs.Stored.{stored, key_of, chunks_for, ValueFits, value_fits?}
use Rattle.entries.specs.Live.{slot_at, chunk_of, entry_at}

-- an entry could be read
abbrev pub IsWhole : Option Entry → Type 0
IsWhole (Some e) = Unit {0}
IsWhole None = ⊥

unfoldable pub is_whole? : (r : Option Entry) → Dec (IsWhole r)
is_whole? (Some e) = yes tt
is_whole? None = no (λ x. x)

-- the key's hash agrees with the segment s and with the lookup key of a slot that holds v
pub record Hashed (st : Settings) (s v : ℕ) (key : List ℕ) : Type 0 where
  pub segment_agrees : segment_of st key ≡ s
  pub lookup_agrees : lookup_key st key ≡ slot_key st v

unfoldable pub hashed? : (st : Settings) (s v : ℕ) (key : List ℕ) → Dec (Hashed st s v key)
hashed? st s v key =
    rule (λ h. h.segment_agrees) (ℕ_discrete (segment_of st key) s) λ a.
    rule (λ h. h.lookup_agrees) (ℕ_discrete (lookup_key st key) (slot_key st v)) λ b.
    yes (record { segment_agrees = a; lookup_agrees = b })

module _ (z : Shape) (img : List ℕ) where
  open z use {settings}
  open settings use {segments, slots, chunks}

  -- the key that slot j of tier t stands for
  unfoldable pub keyAt : ℕ → ℕ → List ℕ
  keyAt t j = key_of img (entry_at z img t j)

  -- the chunks that its entry covers
  abbrev pub chunks_at : ℕ → ℕ → ℕ
  chunks_at t j = chunks_for settings (entry_at z img t j).keyLength (entry_at z img t j).valueLength

  -- a full slot of a tier in segment s's chain
  pub record EntryFits (s t j : ℕ) : Type 0 where
    pub higher_bits : slot_rest settings (slot_at z img t j) ≡ 0
    pub chunk_in : chunk_of z img t j < chunks
    pub whole : IsWhole (stored z img t (chunk_of z img t j))
    pub key_fits : KeyFits settings (keyAt t j)
    pub value_fits : ValueFits settings (entry_at z img t j).keyLength (entry_at z img t j).valueLength
    pub range_ends : chunk_of z img t j + chunks_at t j ≤ chunks
    pub hashed : Hashed settings s (slot_at z img t j) (keyAt t j)

  -- where the search for its lookup key starts
  abbrev pub start_at : ℕ → ℕ → ℕ
  start_at t j = start settings (slot_key settings (slot_at z img t j))

  -- no slot from its start slot up to itself, wrapping, is empty
  abbrev pub Reached : ℕ → ℕ → Type 0
  Reached t j = Below slots (λ k. dist slots (start_at t j) k ≤ dist slots (start_at t j) j → slot_at z img t k ≢ 0)

  abbrev pub SomeEmpty : ℕ → Type 0
  SomeEmpty t = (j : ℕ) × ((j < slots) × (slot_at z img t j ≡ 0))

  -- what is asked of the slots one by one, and the whole
  pub record SlotsFit (s t : ℕ) : Type 0 where
    pub some_empty : SomeEmpty t
    pub full : Below slots (λ j. slot_at z img t j ≢ 0 → EntryFits s t j)

  pub record TierSlotsFit (s t : ℕ) : Type 0 where
    pub slots_fit : SlotsFit s t
    pub reached : Below slots (λ j. slot_at z img t j ≢ 0 → Reached t j)

  -- no other full slot of segment s's chain stands for the key of slot j of tier t
  abbrev pub KeyOnce : ℕ → ℕ → ℕ → Type 0
  KeyOnce s t j = Every (chain z img s) (λ u. Below slots (λ k. slot_at z img u k ≢ 0 → keyAt t j ≡ keyAt u k → (t ≡ u) × (j ≡ k)))

  abbrev pub KeysOnce : ℕ → Type 0
  KeysOnce s = Every (chain z img s) (λ t. Below slots (λ j. slot_at z img t j ≢ 0 → KeyOnce s t j))

  pub record EntriesFit : Type 0 where
    pub tiers_fit : Below segments (λ s. Every (chain z img s) (TierSlotsFit s))
    pub keys_once : Below segments KeysOnce

  -- ---- decided

  unfoldable pub full? : (t j : ℕ) → Dec (slot_at z img t j ≢ 0)
  full? t j = refuted (ℕ_discrete (slot_at z img t j) 0)

  unfoldable pub reached? : (t j : ℕ) → Dec (Reached t j)
  reached? t j =
      below? (λ k. dist slots (start_at t j) k ≤ dist slots (start_at t j) j → slot_at z img t k ≢ 0)
      (λ k. implied (dec_le (dist slots (start_at t j) k) (dist slots (start_at t j) j)) (λ _. full? t k)) slots

  unfoldable pub entry_fits? : (s t j : ℕ) → Dec (EntryFits s t j)
  entry_fits? s t j =
      rule (λ v. v.higher_bits) (ℕ_discrete (slot_rest settings (slot_at z img t j)) 0) λ a.
      rule (λ v. v.chunk_in) (dec_lt (chunk_of z img t j) chunks) λ b.
      rule (λ v. v.whole) (is_whole? (stored z img t (chunk_of z img t j))) λ c.
      rule (λ v. v.key_fits) (key_fits? settings (keyAt t j)) λ d.
      rule (λ v. v.value_fits) (value_fits? settings (entry_at z img t j).keyLength (entry_at z img t j).valueLength) λ e.
      rule (λ v. v.range_ends) (dec_le (chunk_of z img t j + chunks_at t j) chunks) λ f.
      rule (λ v. v.hashed) (hashed? settings s (slot_at z img t j) (keyAt t j)) λ g.
      yes (record {
        higher_bits = a;
        chunk_in = b;
        whole = c;
        key_fits = d;
        value_fits = e;
        range_ends = f;
        hashed = g;
      })

  unfoldable pub slots_fit? : (s t : ℕ) → Dec (SlotsFit s t)
  slots_fit? s t =
      rule (λ v. v.some_empty) (some_below (λ j. slot_at z img t j ≡ 0) (λ j. ℕ_discrete (slot_at z img t j) 0) slots) λ a.
      rule (λ v. v.full) (below? (λ j. slot_at z img t j ≢ 0 → EntryFits s t j) (λ j. implied (full? t j) (λ _. entry_fits? s t j)) slots) λ b.
      yes (record { some_empty = a; full = b })

  unfoldable pub tier_slots_fit? : (s t : ℕ) → Dec (TierSlotsFit s t)
  tier_slots_fit? s t =
      rule (λ v. v.slots_fit) (slots_fit? s t) λ a.
      rule (λ v. v.reached) (below? (λ j. slot_at z img t j ≢ 0 → Reached t j) (λ j. implied (full? t j) (λ _. reached? t j)) slots) λ b.
      yes (record { slots_fit = a; reached = b })

  unfoldable pub key_once? : (s t j : ℕ) → Dec (KeyOnce s t j)
  key_once? s t j =
      every? (λ u. Below slots (λ k. slot_at z img u k ≢ 0 → keyAt t j ≡ keyAt u k → (t ≡ u) × (j ≡ k)))
      (λ u. below? (λ k. slot_at z img u k ≢ 0 → keyAt t j ≡ keyAt u k → (t ≡ u) × (j ≡ k))
      (λ k. implied (full? u k) (λ _. implied (same? (keyAt t j) (keyAt u k)) (λ _. both (ℕ_discrete t u) (λ _. ℕ_discrete j k)))) slots)
      (chain z img s)

  unfoldable pub keys_once? : (s : ℕ) → Dec (KeysOnce s)
  keys_once? s =
      every? (λ t. Below slots (λ j. slot_at z img t j ≢ 0 → KeyOnce s t j))
      (λ t. below? (λ j. slot_at z img t j ≢ 0 → KeyOnce s t j) (λ j. implied (full? t j) (λ _. key_once? s t j)) slots) (chain z img s)

  unfoldable pub entries_fit? : Dec EntriesFit
  entries_fit? =
      rule (λ v. v.tiers_fit)
      (below? (λ s. Every (chain z img s) (TierSlotsFit s)) (λ s. every? (TierSlotsFit s) (tier_slots_fit? s) (chain z img s)) segments) λ a.
      rule (λ v. v.keys_once) (below? KeysOnce keys_once? segments) λ b.
      yes (record { tiers_fit = a; keys_once = b })
