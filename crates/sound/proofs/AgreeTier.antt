-- Two images that agree on a tier: on its slots, its marks and its chunks.
use Prim.Native.Nat.{ℕ, ◌≤◌, ◌<◌}
use mathlib.Core.List.{List, map}
use mathlib.Core.Path.{◌≡◌, refl, ap, sym, ◌∙◌, subst}
use mathlib.Core.Logic.{◌≢◌}
use mathlib.Core.Bool.{not}
use mathlib.Core.Option.{Option}
use native.Mathlib.Omega.{arith}
use lib.Dec.{eqb}
use lib.ListN.{length}
use Rattle.lists.specs.Lists.{below, how_many, or_else}
use Rattle.lists.specs.Quantify.{Below}
use Rattle.lists.proofs.Lists.{span_in}
use Rattle.lists.proofs.SameLists.{same-those, same_first, same_map}
use Rattle.layout.specs.declared.Shape.{Shape}
use Rattle.layout.specs.Places.{get, mark, count_place, low_place}
use Rattle.entries.specs.declared.Live.{Live}
use Rattle.entries.specs.Keys.{start, slot_chunk, slot_key}
use Rattle.entries.specs.Stored.{stored, entry_of}
use Rattle.entries.specs.Live.{slot_at, entry_at, full_slots, live_at, live_in}
use Rattle.entries.specs.Pairs.{Pair}
use Rattle.entries.proofs.LiveLists.{full_slots_in, live_made}
use Rattle.probe.specs.Ring.{dist}
use Rattle.search.specs.Rules.{EntryFits, SomeEmpty, SlotsFit, TierSlotsFit}
use Rattle.chunks.specs.Chunks.{covers, clear, lowest_clear, MarksFit, CountersFit, FreeTierFits}
use Rattle.chunks.proofs.LowMark.{low-mark-same}
use Rattle.sound.proofs.Values.{pair_for, weigh}
use Rattle.sound.proofs.Sums.{table_same}
use Rattle.sound.proofs.AgreeEntry.{SameBytes, same-stored, entry-moves}

-- on the slots of tier u, and on its marks
abbrev pub SameSlots : Shape → List ℕ → List ℕ → ℕ → Type 0
SameSlots z img img' u = Below z.settings.slots (λ j. slot_at z img' u j ≡ slot_at z img u j)

abbrev pub SameMarks : Shape → List ℕ → List ℕ → ℕ → Type 0
SameMarks z img img' u = Below z.settings.chunks (λ i. mark z img' u i ≡ mark z img u i)

pub record SameTier (z : Shape) (img img' : List ℕ) (u : ℕ) : Type 0 where
  pub slots : SameSlots z img img' u
  pub marks : SameMarks z img img' u
  pub bytes : SameBytes z img img' u

-- on its two counters
pub record SameCounters (z : Shape) (img img' : List ℕ) (u : ℕ) : Type 0 where
  pub count : get z img' (count_place z u) ≡ get z img (count_place z u)
  pub low : get z img' (low_place z u) ≡ get z img (low_place z u)

module _ (z : Shape) (img img' : List ℕ) (u : ℕ) where
  open z use {settings}
  open settings use {slots, chunks}

  -- ---- where the slots agree

  module _ (same : SameSlots z img img' u) where
    -- the same slots are full
    pub full-before : (j : ℕ) → j < slots → slot_at z img' u j ≢ 0 → slot_at z img u j ≢ 0
    full-before j h ne e = ne (same j h ∙ e)

    pub same_full : full_slots z img' u ≡ full_slots z img u
    unfolding full_slots
    same_full =
        same-those (λ j. not (eqb (slot_at z img' u j) 0)) (λ j. not (eqb (slot_at z img u j) 0)) (below slots)
        (λ j m. ap (λ (v : ℕ). not (eqb v 0)) (same j (omega (arith, span_in 0 slots j m))))

    -- the tier fits still if the entry of each full slot does
    pub slots-still : (s : ℕ) → TierSlotsFit z img s u → Below slots (λ j. slot_at z img u j ≢ 0 → EntryFits z img' s u j)
        → TierSlotsFit z img' s u
    slots-still s f entries =
        let some : SomeEmpty z img u = f.slots_fit.some_empty in
        record {
          slots_fit =
              record {
                some_empty = (some.0, (some.1.0, same some.0 some.1.0 ∙ some.1.1));
                full = λ j h ne. entries j h (full-before j h ne);
              };
          reached =
              λ j h ne k hk d e.
              f.reached j h (full-before j h ne) k hk
              (subst (λ (v : ℕ). dist slots (start settings (slot_key settings v)) k ≤ dist slots (start settings (slot_key settings v)) j)
              (same j h) d)
              (sym (same k hk) ∙ e);
        }

  -- ---- and the marks

  pub same-lowest : SameMarks z img img' u → lowest_clear z img' u ≡ lowest_clear z img u
  unfolding lowest_clear
  same-lowest same =
      ap (λ (o : Option ℕ). or_else o chunks)
      (same_first (clear z img' u) (clear z img u) (below chunks)
      (λ i m. ap (λ (v : ℕ). eqb v 0) (same i (omega (arith, span_in 0 chunks i m)))))

  pub same-counters : SameSlots z img img' u → SameMarks z img img' u → SameCounters z img img' u → CountersFit z img u → CountersFit z img' u
  same-counters slotsSame marksSame c f =
      record {
        entry_count = c.count ∙ f.entry_count ∙ sym (ap length (same_full slotsSame));
        low_mark = low-mark-same refl c.low (same-lowest marksSame) f.low_mark;
      }

  pub same-free : SameSlots z img img' u → SameMarks z img img' u → FreeTierFits z img u → FreeTierFits z img' u
  same-free slotsSame marksSame f =
      record { slots_empty = λ j h. slotsSame j h ∙ f.slots_empty j h; chunks_clear = λ i h. marksSame i h ∙ f.chunks_clear i h }

  -- ---- all of the tier

  module _ (same : SameTier z img img' u) where
    same-entry : (j : ℕ) → j < slots → entry_at z img' u j ≡ entry_at z img u j
    unfolding entry_at
    same-entry j h =
        ap entry_of (ap (λ (x : ℕ). stored z img' u (slot_chunk settings x)) (same.slots j h)
        ∙ same-stored z img img' u same.bytes (slot_chunk settings (slot_at z img u j)))

    same-live_at : (s j : ℕ) → j < slots → live_at z img' s u j ≡ live_at z img s u j
    unfolding live_at
    same-live_at s j h = live_made z img s u j (ap (slot_chunk settings) (same.slots j h)) (same-entry j h) refl

    pub same_live_in : (s : ℕ) → live_in z img' s u ≡ live_in z img s u
    unfolding live_in
    same_live_in s =
        same_map (live_at z img' s u) (live_at z img s u) (full_slots z img' u) (λ j m. same-live_at s j (full_slots_in z img' u j m).0)
        ∙ ap (map (live_at z img s u)) (same_full same.slots)

    pub same-tier-fits : (s : ℕ) → TierSlotsFit z img s u → TierSlotsFit z img' s u
    same-tier-fits s f =
        slots-still same.slots s f (λ j h full. (entry-moves z img img' u same.bytes s j j (same.slots j h) (f.slots_fit.full j h full)).fits)

    pub same-marks : (s : ℕ) → MarksFit z img s u → MarksFit z img' s u
    same-marks s f i h = ap (λ (l : List Live). how_many l (covers i)) (same_live_in s) ∙ f i h ∙ sym (same.marks i h)

    pub same-weigh : (s : ℕ) → SlotsFit z img s u → (F : Pair → ℕ) → weigh z img' F u ≡ weigh z img F u
    unfolding weigh
    same-weigh s f F =
        table_same z u img img' (λ v. F (pair_for z img u v)) (λ v. F (pair_for z img' u v)) same.slots
        (λ j h ne.
        ap (λ (v : ℕ). F (pair_for z img' u v)) (sym (same.slots j h))
        ∙ ap F (entry-moves z img img' u same.bytes s j j (same.slots j h) (f.full j h ne)).pair)
