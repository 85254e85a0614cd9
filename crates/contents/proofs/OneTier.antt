-- The rules of one tier, from what its loops found.
use Prim.Native.Nat.{ℕ, ◌≤◌, ◌<◌}
use mathlib.Core.List.{List}
use mathlib.Core.Path.{◌≡◌, refl, ap, sym, ◌∙◌, subst}
use mathlib.Core.Bool.{Bool}
use native.Mathlib.Omega.{arith}
use lib.ListN.{length, get_or, replicate, length-replicate}
use Rattle.lists.specs.Lists.{how_many}
use Rattle.lists.specs.Quantify.{Every}
use Rattle.layout.specs.declared.Shape.{Shape}
use Rattle.layout.specs.Places.{get, count_place}
use Rattle.chains.specs.Walk.{tally}
use Rattle.chains.proofs.Tally.{length-tally, get_or-tally, zeros-met}
use Rattle.entries.specs.Live.{full_slots, live_in}
use Rattle.entries.proofs.LiveLists.{full_slots_in, in_full_slots}
use Rattle.search.specs.Rules.{SomeEmpty, TierSlotsFit}
use Rattle.search.specs.Landing.{SlotHolds}
use Rattle.std.specs.Prelude.{Option, Some, None, Result, Ok, Err}
use Rattle.chunks.specs.Chunks.{covers, LowMarkFits, TierChunksFit}
use Rattle.chunks.specs.Counting.{chunks_of_all, MarksBelow}
use Rattle.chunks.proofs.Covering.{covered-by}
use Rattle.chunks.proofs.Marks.{marked_all}
use Rattle.contents.specs.declared.ContentsError.{ContentsError}
use Rattle.contents.specs.declared.ContentsError.TheVariants.{Chunks, Entries}
use Rattle.contents.specs.Counting.{AllCovered, Covers, ChunksSay, TierSays}
use Rattle.contents.proofs.Saying.{says_as}

module _ (z : Shape) (img : List ℕ) (s t : ℕ) where
  open z use {settings}
  open settings use {chunks}

  -- ---- slots and entries

  pub no-empty : (SomeEmpty z img t → ⊥) → TierSays z img s t (Err Entries)
  no-empty n = record { so = λ f. n f.slots_fit.some_empty }

  slot-wrong : (Every (full_slots z img t) (SlotHolds z img s t) → ⊥) → TierSays z img s t (Err Entries)
  slot-wrong n =
      record { so = λ f. n (λ j m. let k = full_slots_in z img t j m in (f.slots_fit.full j k.0 k.1, f.reached j k.0 k.1)) }

  pub holds : SomeEmpty z img t → Every (full_slots z img t) (SlotHolds z img s t) → TierSlotsFit z img s t
  holds e f =
      record {
        slots_fit = record { some_empty = e; full = λ j h full. (f j (in_full_slots z img t j h full)).0 };
        reached = λ j h full. (f j (in_full_slots z img t j h full)).1;
      }

  -- what covering the slots gave, with the equation that it is taken by
  module _ (before after : List ℕ) (r : Option Bool) (q : Covers z img s t before after r) where
    pub covered-broken : r ≡ None → TierSays z img s t (Err Entries)
    covered-broken e = let n : Covers z img s t before after None = subst (Covers z img s t before after) e q in slot-wrong n

    pub covered-held : (apart : Bool) → r ≡ Some apart → AllCovered z img s t before after apart
    covered-held apart e = let h : Covers z img s t before after (Some apart) = subst (Covers z img s t before after) e q in h

  -- where these hold, the tier's answer is that of its chunks and counters
  pub tier-says : TierSlotsFit z img s t → (r : Result (ℕ × ℕ) ContentsError) → ChunksSay z img s t r → TierSays z img s t r
  tier-says held r p = says_as (λ _. held) (λ _. tt) (λ c. c) (λ c. c) refl refl r p

  -- ---- chunks and counters

  pub tier-wrong : (TierChunksFit z img s t → ⊥) → ChunksSay z img s t (Err Chunks)
  tier-wrong n = record { so = (tt, n) }

  module _ (few : chunks ≤ 4096) {covered : List ℕ} (v : covered ≡ tally (replicate 4096 0) (chunks_of_all (live_in z img s t))) where
    pub covered-long : chunks ≤ length covered
    covered-long = omega (arith, ap length v, length-tally (replicate 4096 0) (chunks_of_all (live_in z img s t)), length-replicate {A = ℕ} 4096 0)

    counted : (i : ℕ) → i < chunks → get_or covered i 0 ≡ how_many (live_in z img s t) (covers i)
    counted i h =
        let l : i < length (replicate {A = ℕ} 4096 0) = rw length-replicate (omega arith) in
        omega (
          arith,
          ap (λ (r : List ℕ). get_or r i 0) v,
          get_or-tally (replicate 4096 0) (chunks_of_all (live_in z img s t)) i l,
          zeros-met 4096 i,
          covered-by i (live_in z img s t),
        )

    -- what comparing the counts with the bits gave, with the equation that it is taken by
    module _ (r : Option ℕ) (w : MarksBelow z img t covered chunks r) where
      pub marks-wrong : r ≡ None → ChunksSay z img s t (Err Chunks)
      marks-wrong e =
          let n : MarksBelow z img t covered chunks None = subst (MarksBelow z img t covered chunks) e w in
          tier-wrong (λ f. n (λ i h. counted i h ∙ f.marks i h))

      pub tier-right : (m : ℕ) → r ≡ Some m → {n : ℕ} → n ≡ length (full_slots z img t) → get z img (count_place z t) ≡ n
          → LowMarkFits z img t
          → ChunksSay z img s t (Ok (n, m))
      tier-right m e en c l =
          let a : MarksBelow z img t covered chunks (Some m) = subst (MarksBelow z img t covered chunks) e w in
          record {
            so = (
              (tt, record { marks = λ i h. sym (counted i h) ∙ a.0 i h; counters = record { entry_count = c ∙ en; low_mark = l } }),
              (en, a.1 ∙ marked_all z img t),
            );
          }
