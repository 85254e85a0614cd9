-- What a search finds: in one tier, and tier by tier.
use Prim.Native.Nat.{ℕ, ◌<◌}
use mathlib.Core.List.{List, [], ◌∷◌, ◌++◌, Memᴰ}
use mathlib.Core.Path.{◌≡◌, refl, ap, sym, ◌∙◌}
use mathlib.Core.Logic.{⊎_elim, ◌≢◌}
use mathlib.Core.Bool.{true, false≢true}
use native.Mathlib.Omega.{arith}
use lib.Dec.{eqb}
use lib.ListN.{length, get_or}
use borrow.Author.Tests.{eq-eqb, ne_eqb}
use Rattle.lists.specs.Cases.{by-test, same_or}
use Rattle.lists.specs.Quantify.{Every}
use Rattle.words.proofs.Bytes.{same-eq, same_true}
use Rattle.layout.specs.declared.Shape.{Shape}
use Rattle.layout.specs.Tiers.{IsTier}
use Rattle.layout.specs.Frame.{Framed}
use Rattle.chains.specs.Chains.{chain, last_tier}
use Rattle.chains.proofs.Segments.{chain-some, last-met}
use Rattle.probe.specs.Search.{room, ends, seek}
use Rattle.probe.proofs.Search.{probe-lt, seek-room, seek-empty-room, room-empty}
use Rattle.entries.specs.Keys.{segment_of, lookup_key, start, slot_key}
use Rattle.entries.specs.Live.{slot_at, entry_at}
use Rattle.entries.proofs.Hashes.{start-lt}
use Rattle.search.specs.declared.Sought.TheVariants.{Holds, Empty}
use Rattle.search.specs.declared.Found.TheVariants.{At, Absent}
use Rattle.search.specs.Search.{slots_of, hits, seek_in, sought_in, first_empty, search_from, search}
use Rattle.search.specs.Rules.{keyAt, SomeEmpty}
use Rattle.search.specs.Asking.{Lacks}
use Rattle.search.proofs.Slots.{slots-lawful}
use Rattle.probe.specs.Table.{Empty as EmptySlot}

module _ (z : Shape) (img : List ℕ) where
  open z use {settings}
  open settings use {segments, slots}

  -- ---- what a hit is

  pub hits-key : (key : List ℕ) (t j : ℕ) → hits z img key t (slot_at z img t j) ≡ true → keyAt z img t j ≡ key
  unfolding hits keyAt entry_at
  hits-key key t j h =
      by-test (eqb (slot_key settings (slot_at z img t j)) (lookup_key settings key))
      (λ e. same_true _ key (rw e at h))
      (λ e. absurd (false≢true (rw e at h)))

  pub hits-own : (key : List ℕ) (t j : ℕ) → slot_key settings (slot_at z img t j) ≡ lookup_key settings key → keyAt z img t j ≡ key
      → hits z img key t (slot_at z img t j) ≡ true
  unfolding hits keyAt entry_at
  hits-own key t j e k = rw (eq-eqb _ _ e, hits) (same-eq _ key k)

  -- ---- the search, tier by tier

  module _ (key : List ℕ) where
    pub sought-empty : (t : ℕ) → slot_at z img t (seek_in z img key t) ≡ 0 → sought_in z img key t ≡ Empty (seek_in z img key t)
    unfolding sought_in
    sought-empty t h = rw (eq-eqb _ _ h, sought_in)

    pub sought-holds : (t : ℕ) → slot_at z img t (seek_in z img key t) ≢ 0 → sought_in z img key t ≡ Holds (seek_in z img key t)
    unfolding sought_in
    sought-holds t h = rw (ne_eqb _ _ h, sought_in)

    -- an empty slot that ends it is the first one from the key's start slot on
    pub sought-first : (t j : ℕ) → sought_in z img key t ≡ Empty j → (slot_at z img t j ≡ 0) × (j ≡ first_empty z img key t)
    unfolding seek_in
    sought-first t j e =
        ⊎_elim
        (λ (h : slot_at z img t (seek_in z img key t) ≡ 0).
        let f : Empty (seek_in z img key t) ≡ Empty j = sym (sought-empty t h) ∙ e in
        let q : seek_in z img key t ≡ j = cc in
        (rw q at h, sym q ∙ seek-empty-room (slots_of z t) (start settings (lookup_key settings key)) (hits z img key t) img h))
        (λ (h : slot_at z img t (seek_in z img key t) ≢ 0).
        let f : Holds (seek_in z img key t) ≡ Empty j = sym (sought-holds t h) ∙ e in
        absurd (let q : ◌≡◌ {A = ℕ} 0 1 = cc in omega arith))
        (same_or (slot_at z img t (seek_in z img key t)) 0)

    pub search-here : (u i t j : ℕ) (ts : List ℕ) → sought_in z img key t ≡ Holds j → search_from z img key u i (t ∷ ts) ≡ At t j
    unfolding search_from
    search-here u i t j ts h = rw (h, search_from)

    pub search-on : (u i t j : ℕ) (ts : List ℕ) → sought_in z img key t ≡ Empty j → search_from z img key u i (t ∷ ts) ≡ search_from z img key t j ts
    unfolding search_from
    search-on u i t j ts h = rw (h, search_from)

    pub search-end : (u i : ℕ) → search_from z img key u i [] ≡ Absent u i
    unfolding search_from
    search-end u i = refl

    -- tiers where it ends empty are passed: up to one that holds the key, or all of them
    pub search-reaches : (front ts : List ℕ) (u i t j : ℕ) → Every front (λ x. (k : ℕ) × (sought_in z img key x ≡ Empty k))
        → sought_in z img key t ≡ Holds j → search_from z img key u i (front ++ (t ∷ ts)) ≡ At t j
    search-reaches [] ts u i t j f h = search-here u i t j ts h
    search-reaches (x ∷ front) ts u i t j f h =
        let e : (k : ℕ) × (sought_in z img key x ≡ Empty k) = f x (mathlib.Core.List.Memᴰ.head refl) in
        search-on u i x e.0 (front ++ (t ∷ ts)) e.1 ∙ search-reaches front ts x e.0 t j (λ y m. f y (mathlib.Core.List.Memᴰ.tail m)) h

    pub search-passes : (ts : List ℕ) (u i : ℕ) → Every ts (λ x. (k : ℕ) × (sought_in z img key x ≡ Empty k))
        → (t j : ℕ) × (search_from z img key u i ts ≡ Absent t j)
    search-passes [] u i f = (u, i, search-end u i)
    search-passes (x ∷ ts) u i f =
        let e : (k : ℕ) × (sought_in z img key x ≡ Empty k) = f x (mathlib.Core.List.Memᴰ.head refl) in
        let r : (t j : ℕ) × (search_from z img key x e.0 ts ≡ Absent t j) = search-passes ts x e.0 (λ y m. f y (mathlib.Core.List.Memᴰ.tail m)) in
        (r.0, r.1, search-on u i x e.0 ts e.1 ∙ r.2)

    -- what is found is where the search in its tier ended
    pub found_at : (u i : ℕ) (ts : List ℕ) (t j : ℕ) → search_from z img key u i ts ≡ At t j
        → (seek_in z img key t ≡ j) × ((slot_at z img t j ≢ 0) × Memᴰ t ts)
    found_at u i [] t j e = absurd (let f : Absent u i ≡ At t j = sym (search-end u i) ∙ e in let q : ◌≡◌ {A = ℕ} 0 1 = cc in omega arith)
    found_at u i (x ∷ ts) t j e =
        ⊎_elim
        (λ (h : slot_at z img x (seek_in z img key x) ≡ 0).
        let r : (seek_in z img key t ≡ j) × ((slot_at z img t j ≢ 0) × Memᴰ t ts) =
        found_at x (seek_in z img key x) ts t j (sym (search-on u i x _ ts (sought-empty x h)) ∙ e) in
        (r.0, (r.1.0, mathlib.Core.List.Memᴰ.tail r.1.1)))
        (λ (h : slot_at z img x (seek_in z img key x) ≢ 0).
        let f : At x (seek_in z img key x) ≡ At t j = sym (search-here u i x _ ts (sought-holds x h)) ∙ e in
        let p : x ≡ t = cc in
        let q : seek_in z img key x ≡ j = cc in
        (rw p at q, (rw (q, p) at h, mathlib.Core.List.Memᴰ.head (sym p))))
        (same_or (slot_at z img x (seek_in z img key x)) 0)

    -- a search that finds nothing ended in the last tier, at an empty slot
    pub absent-after : (u i : ℕ) (ts : List ℕ) (t j : ℕ) → (length ts ≡ 0 → sought_in z img key u ≡ Empty i)
        → search_from z img key u i ts ≡ Absent t j
        → (t ≡ get_or (u ∷ ts) (length ts) 0) × (sought_in z img key t ≡ Empty j)
    absent-after u i [] t j h e =
        let f : Absent u i ≡ Absent t j = sym (search-end u i) ∙ e in
        let p : u ≡ t = cc in
        let q : i ≡ j = cc in
        (sym p, rw (q, p) at (h refl))
    absent-after u i (x ∷ ts) t j h e =
        ⊎_elim
        (λ (empty : slot_at z img x (seek_in z img key x) ≡ 0).
        let g : sought_in z img key x ≡ Empty (seek_in z img key x) = sought-empty x empty in
        absent-after x (seek_in z img key x) ts t j (λ _. g) (sym (search-on u i x _ ts g) ∙ e))
        (λ (full : slot_at z img x (seek_in z img key x) ≢ 0).
        let f : At x (seek_in z img key x) ≡ Absent t j = sym (search-here u i x _ ts (sought-holds x full)) ∙ e in
        absurd (let q : ◌≡◌ {A = ℕ} 0 1 = cc in omega arith))
        (same_or (slot_at z img x (seek_in z img key x)) 0)

    -- the segment's last one, at the first empty slot there
    pub search-absent : segment_of settings key < segments → (t j : ℕ) → search z img key ≡ Absent t j
        → (t ≡ last_tier z img (segment_of settings key)) × (j ≡ first_empty z img key t)
    unfolding search
    search-absent hs t j e =
        let ts : List ℕ = chain z img (segment_of settings key) in
        let r : (t ≡ get_or (0 ∷ ts) (length ts) 0) × (sought_in z img key t ≡ Empty j) =
        absent-after 0 0 ts t j (λ q. absurd (omega (arith, chain-some z img (segment_of settings key) hs))) e in
        (r.0 ∙ last-met z img (segment_of settings key) hs, (sought-first t j r.1).1)

  -- ---- where the search in one tier ends

  module _ {len : ℕ} (fr : Framed z len) where
    pub seek_in-lt : (key : List ℕ) (t : ℕ) → seek_in z img key t < slots
    unfolding seek_in seek
    seek_in-lt key t = probe-lt slots (ends (slots_of z t) (hits z img key t) img) slots _ (start-lt fr.valid _)

    -- the search for a key that no slot stands for ends at the first empty slot from its start on
    pub seek_in-room : (key : List ℕ) (t : ℕ) → Lacks z img key t
        → seek_in z img key t ≡ room (slots_of z t) img (start settings (lookup_key settings key))
    unfolding seek_in
    seek_in-room key t lacks =
        seek-room (slots_of z t) _ (start-lt fr.valid _) (hits z img key t) img
        (λ k h full. by-test (hits z img key t (slot_at z img t k)) (λ e. absurd (lacks k h full (hits-key key t k e))) (λ e. e))

    pub sought-absent : (key : List ℕ) (t : ℕ) → IsTier z t → SomeEmpty z img t → Lacks z img key t
        → sought_in z img key t ≡ Empty (room (slots_of z t) img (start settings (lookup_key settings key)))
    sought-absent key t is some lacks =
        let e : seek_in z img key t ≡ room (slots_of z t) img (start settings (lookup_key settings key)) = seek_in-room key t lacks in
        let free : EmptySlot (slots_of z t) img (room (slots_of z t) img (start settings (lookup_key settings key))) =
        room-empty (slots_of z t) (slots-lawful fr t is) img _ some.0 (start-lt fr.valid _) (record { lt = some.1.0; free = some.1.1 }) in
        sought-empty key t (rw e free.free) ∙ ap Empty e
