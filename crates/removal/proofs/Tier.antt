-- The tier that a slot was removed from fits the rules again, but for its counters.
use Prim.Native.Nat.{ℕ, ◌+◌, ◌≤◌, ◌<◌}
use mathlib.Core.List.{List, Memᴰ}
use mathlib.Core.Path.{◌≡◌, refl, ap, ap₂, sym, ◌∙◌}
use mathlib.Core.Logic.{⊎_elim, ◌⊎◌, inl, inr, ◌≢◌}
use mathlib.Core.Bool.{Bool, true, false, ◌&&◌}
use native.Mathlib.Omega.{arith}
use Rattle.std.specs.Prelude.{Option}
use lib.Dec.{leb, ltb}
use borrow.Author.Tests.{lt-ltb, le-ltb, le-leb, lt-leb}
use Rattle.lists.specs.Cases.{lt-or}
use Rattle.lists.specs.Lists.{how_many}
use Rattle.layout.specs.declared.Shape.{Shape}
use Rattle.layout.specs.Places.{mark}
use Rattle.layout.proofs.Marks.{mark-lt, mark-put_marks_in, mark-put_marks-out}
use Rattle.chains.specs.Chains.{chain}
use Rattle.probe.specs.Table.{slot_total}
use Rattle.entries.specs.declared.Entry.{Entry}
use Rattle.entries.specs.Keys.{slot_chunk}
use Rattle.entries.specs.Stored.{entry_of, key_of, chunks_for}
use Rattle.entries.specs.Live.{slot_at, chunk_of, entry_at, live_at, live_in}
use Rattle.search.specs.Search.{slots_of}
use Rattle.search.specs.Rules.{keyAt, KeysOnce, TierSlotsFit}
use Rattle.chunks.specs.Chunks.{covers, MarksFit}
use Rattle.removal.specs.Removal.{remove_at}
use Rattle.sound.proofs.Values.{entry_for, if_full}
use Rattle.lists.proofs.Totals.{how_many-total}
use Rattle.sound.proofs.Sums.{live_in_total}
use Rattle.sound.proofs.AgreeEntry.{SameBytes, Moved, same-stored, entry-moves}
use Rattle.sound.proofs.Replaced.{TierAgain}
use Rattle.removal.proofs.Slots.{cleared, stays, same_bytes}
use Rattle.removal.proofs.Numbers.{Removable, range_in, sums, new-empty, new-good, stood, stood-once}

-- a slot's key by its number alone
same_key : (z : Shape) (img : List ℕ) (t a b : ℕ) → slot_at z img t a ≡ slot_at z img t b → keyAt z img t a ≡ keyAt z img t b
unfolding keyAt entry_at
same_key z img t a b e = ap (λ (v : ℕ). key_of img (entry_for z img t v)) e

-- a test as a number, as sums count it; whether chunk i is one of the n from c on
abbrev one_if : Bool → ℕ
one_if b = elim b [ true ↦ 1 | false ↦ 0 ]

abbrev in_range : ℕ → ℕ → ℕ → ℕ
in_range c n i = one_if (leb c i && ltb i (c + n))

range-yes : (c n i : ℕ) → c ≤ i → i < c + n → in_range c n i ≡ 1
range-yes c n i a b = ap₂ (λ x y. one_if (x && y)) (le-leb c i a) (lt-ltb i (c + n) b)

range-no : (c n i : ℕ) → (i < c) ⊎ (c + n ≤ i) → in_range c n i ≡ 0
range-no c n i o =
    ⊎_elim
    (λ (l : i < c). ap (λ x. one_if (x && ltb i (c + n))) (lt-leb c i l))
    (λ (l : c ≤ i). ap₂ (λ x y. one_if (x && y)) (le-leb c i l) (le-ltb i (c + n) (⊎_elim (λ a. absurd (omega arith)) (λ a. a) o)))
    (lt-or i c)

module _ {z : Shape} {img : List ℕ} {s t j c n : ℕ} (w : Removable z img s t j c n) where
  open z use {settings}
  open settings use {slots, chunks}

  abbrev new : List ℕ
  new = remove_at z img t j c n

  pub bytes_same : SameBytes z img new t
  bytes_same = same_bytes w.image t w.tier_is j c n w.slot_in (range_in w) t w.tier_is

  -- what a full slot holds was held by a slot before, with the same entry
  pub record Stood (k : ℕ) : Type 0 where
    pub from : ℕ
    pub lt : from < slots
    pub is : slot_at z new t k ≡ slot_at z img t from
    pub full : slot_at z img t from ≢ 0
    pub moved : Moved z img new s t from k

  pub was : (k : ℕ) → k < slots → slot_at z new t k ≢ 0 → Stood k
  was k hk fk =
      let r : (i : ℕ) × (i < slots) × (slot_at z new t k ≡ slot_at z img t i) = stood w k hk fk in
      let f : slot_at z img t r.0 ≢ 0 = λ e. fk (r.2 ∙ e) in
      record {
        from = r.0;
        lt = r.1;
        is = r.2;
        full = f;
        moved = entry-moves z img new t bytes_same s r.0 k r.2 (w.fits.slots_fit.full r.0 r.1 f);
      }

  again-fits : TierSlotsFit z new s t
  again-fits =
      record {
        slots_fit = record { some_empty = new-empty w; full = λ k hk fk. (was k hk fk).moved.fits };
        reached = λ i hi fi k hk d. new-good w i k hi hk fi d;
      }

  module _ (mt : Memᴰ t (chain z img s)) (once : KeysOnce z img s) where
    again-own : (i k : ℕ) → i < slots → k < slots → slot_at z new t i ≢ 0 → slot_at z new t k ≢ 0
        → keyAt z new t i ≡ keyAt z new t k → i ≡ k
    again-own i k hi hk fi fk e =
        let a : Stood i = was i hi fi in
        let b : Stood k = was k hk fk in
        let one : (x y : ℕ) → x < slots → y < slots → slot_at z img t x ≢ 0 → slot_at z img t y ≢ 0 → keyAt z img t x ≡ keyAt z img t y
        → x ≡ y =
        λ x y hx hy fx fy k. (once t mt x hx fx t mt y hy fy k).1 in
        let p : a.from ≡ b.from = one a.from b.from a.lt b.lt a.full b.full (sym a.moved.key ∙ e ∙ b.moved.key) in
        stood-once w (slot_at z new t i) fi
        (λ x y hx hy ex ey. one x y hx hy (λ q. fi (sym ex ∙ q)) (λ q. fi (sym ey ∙ q)) (same_key z img t x y (ex ∙ sym ey)))
        i k hi hk refl (b.is ∙ ap (slot_at z img t) (sym p) ∙ sym a.is)

    again-apart : (u : ℕ) → Memᴰ u (chain z img s) → u ≢ t → (i k : ℕ) → i < slots → k < slots → slot_at z new t i ≢ 0
        → slot_at z img u k ≢ 0
        → keyAt z new t i ≢ keyAt z img u k
    again-apart u mu ne i k hi hk fi fk e =
        let a : Stood i = was i hi fi in
        ne (sym (once t mt a.from a.lt a.full u mu k hk fk (sym a.moved.key ∙ e)).0)

  -- ---- the marks

  -- whether the entry of a slot that holds v covers chunk i
  abbrev weight : ℕ → ℕ → ℕ
  weight i v = in_range (slot_chunk settings v) (chunks_for settings (entry_for z img t v).keyLength (entry_for z img t v).valueLength) i

  by_number : (img' : List ℕ) → SameBytes z img img' t → (i k : ℕ) → one_if (covers i (live_at z img' s t k)) ≡ weight i (slot_at z img' t k)
  unfolding live_at entry_at
  by_number img' b i k =
      ap (λ (x : Option Entry). in_range (chunk_of z img' t k) (chunks_for settings (entry_of x).keyLength (entry_of x).valueLength) i)
      (same-stored z img img' t b (chunk_of z img' t k))

  covered : (img' : List ℕ) → SameBytes z img img' t → (i : ℕ)
      → how_many (live_in z img' s t) (covers i) ≡ slot_total (slots_of z t) (if_full (weight i)) img' slots
  covered img' b i =
      how_many-total (live_in z img' s t) (covers i)
      ∙ live_in_total z img' s t (λ e. one_if (covers i e)) (weight i) (λ k hk fk. by_number img' b i k)

  removed-weight : (i : ℕ) → weight i (slot_at z img t j) ≡ in_range c n i
  unfolding entry_at
  removed-weight i = ap₂ (λ x y. in_range x y i) (sym w.chunk_is) (sym w.chunks_is)

  -- one entry less covers the chunks of the range, and none elsewhere
  fewer : (i : ℕ) → how_many (live_in z new s t) (covers i) + in_range c n i ≡ how_many (live_in z img s t) (covers i)
  fewer i = omega (arith, covered new bytes_same i, covered img refl i, sums w (weight i), removed-weight i)

  new-mark : (i : ℕ) → i < chunks → mark z new t i ≡ mark z (cleared z img t c n) t i
  new-mark i h = (stays w.image t w.tier_is j c n w.slot_in (range_in w)).marks t i w.tier_is h

  pub mark_in : (i : ℕ) → c ≤ i → i < c + n → mark z new t i ≡ 0
  mark_in i lo hi =
      new-mark i (omega (arith, range_in w)) ∙ mark-put_marks_in w.image t c n 0 i w.tier_is (range_in w) (omega arith) lo hi

  pub mark-out : (i : ℕ) → i < chunks → (i < c) ⊎ (c + n ≤ i) → mark z new t i ≡ mark z img t i
  mark-out i h o = new-mark i h ∙ mark-put_marks-out z img t c n 0 i (omega arith) o

  again-marks : MarksFit z img s t → MarksFit z new s t
  again-marks marks i h =
      ⊎_elim
      (λ (a : i < c). out (inl a))
      (λ (a : c ≤ i).
      ⊎_elim
      (λ (b : i < c + n). omega (arith, fewer i, range-yes c n i a b, mark_in i a b, marks i h, mark-lt z img t i))
      (λ (b : c + n ≤ i). out (inr b))
      (lt-or i (c + n)))
      (lt-or i c)
    where
      out : (i < c) ⊎ (c + n ≤ i) → how_many (live_in z new s t) (covers i) ≡ mark z new t i
      out o = omega (arith, fewer i, range-no c n i o, mark-out i h o, marks i h)

  pub again : Memᴰ t (chain z img s) → KeysOnce z img s → MarksFit z img s t → TierAgain z img new s t
  again mt once marks = record { fits = again-fits; marks = again-marks marks; own = again-own mt once; apart = again-apart mt once }
