-- What counting the chunks of entries finds.
use Prim.Native.Nat.{ℕ, ◌+◌, ◌≤◌, ◌<◌}
use mathlib.Core.List.{List, [], ◌∷◌, ◌++◌, flat_map}
use mathlib.Core.Path.{◌≡◌, refl, ap, sym, ◌∙◌, subst}
use mathlib.Core.Logic.{⊎_elim, ◌≢◌}
use native.Mathlib.Omega.{arith}
use native.Mathlib.Numerals.{add-one}
use lib.Dec.{eqb}
use lib.ListN.{length, get_or, set}
use borrow.Author.Tests.{lt-ltb, le-ltb, le-leb, lt-leb}
use Rattle.lists.specs.Cases.{lt-or}
use Rattle.lists.specs.Lists.{span, those, how_many}
use Rattle.lists.proofs.Lists.{span_more, how_many-append, flat_map_last}
use Rattle.layout.specs.declared.Shape.{Shape}
use Rattle.chains.specs.Walk.{tally, MetAtMost}
use Rattle.chains.proofs.Tally.{tally-append, get_or-tally}
use Rattle.entries.specs.declared.Live.{Live}
use Rattle.entries.specs.Stored.{chunks_for}
use Rattle.entries.specs.Live.{slot_at, chunk_of, entry_at, live_at}
use Rattle.chunks.specs.Chunks.{covers}
use Rattle.chunks.specs.Counting.{chunks_of_entry, chunks_of_all}
use Rattle.lists.proofs.Rows.{how_many-span-before, how_many-span-after, how_many-span_in}

-- ---- the chunks of one entry

pub record Counting (before : List ℕ) (c n : ℕ) (now : List ℕ) (i : ℕ) : Type 0 where
  pub low : i ≤ n
  pub counted : now ≡ tally before (span c i)

pub counting-starts : (before : List ℕ) (c n : ℕ) → Counting before c n before 0
unfolding tally span
counting-starts before c n = record { low = omega arith; counted = refl }

module _ {before : List ℕ} {c n : ℕ} {now : List ℕ} {i : ℕ} (w : Counting before c n now i) where
  -- the next chunk was not counted yet
  pub counting-small : MetAtMost before 4096 → c + i < length before → get_or now (c + i) 0 ≤ 4096
  counting-small b h =
      omega (
        arith,
        ap (λ (r : List ℕ). get_or r (c + i) 0) w.counted,
        get_or-tally before (span c i) (c + i) h,
        how_many-span-after c i (c + i) (omega arith),
        b (c + i),
      )

  pub counting-turns : i < n → Counting before c n (set now (c + i) (get_or now (c + i) 0 + 1)) (i + 1)
  unfolding tally
  counting-turns h =
      record {
        low = omega arith;
        counted =
            ap (λ (r : List ℕ). set r (c + i) (get_or r (c + i) 0 + 1)) w.counted ∙ sym (tally-append before (span c i) ((c + i) ∷ [])) ∙
            sym (ap (tally before) (ap (span c) (add-one i) ∙ span_more c i));
      }

-- ---- the chunks of several entries: as often as entries cover it is a chunk among them

one_more : (i : ℕ) (e : Live) (es : List Live) → how_many (e ∷ es) (covers i) ≡ how_many (chunks_of_entry e) (eqb i) + how_many es (covers i)
unfolding those
one_more i e es =
    ⊎_elim
    (λ (l : i < e.chunk). rw (lt-leb e.chunk i l, those) (omega (arith, how_many-span-before e.chunk e.chunks i l)))
    (λ (l : e.chunk ≤ i).
    ⊎_elim
    (λ (k : i < e.chunk + e.chunks).
    rw (le-leb e.chunk i l, lt-ltb i (e.chunk + e.chunks) k, those) (omega (arith, how_many-span_in e.chunk e.chunks i l k)))
    (λ (k : e.chunk + e.chunks ≤ i).
    rw (le-leb e.chunk i l, le-ltb i (e.chunk + e.chunks) k, those) (omega (arith, how_many-span-after e.chunk e.chunks i k)))
    (lt-or i (e.chunk + e.chunks)))
    (lt-or i e.chunk)

pub covered-by : (i : ℕ) (es : List Live) → how_many (chunks_of_all es) (eqb i) ≡ how_many es (covers i)
unfolding chunks_of_all flat_map those
covered-by i [] = refl
covered-by i (e ∷ es) =
    how_many-append (eqb i) (chunks_of_entry e) (chunks_of_all es) ∙ omega (arith, one_more i e es, covered-by i es)

pub chunks_of_all-more : (es : List Live) (e : Live) → chunks_of_all (es ++ (e ∷ [])) ≡ chunks_of_all es ++ chunks_of_entry e
unfolding chunks_of_all flat_map
chunks_of_all-more es e = flat_map_last chunks_of_entry es e

-- ---- an entry in its tier

module _ (z : Shape) (img : List ℕ) (s t : ℕ) where
  open z use {settings}
  open settings use {slots, chunks}

  -- the entry of each full slot ends within the tier, and so each that a slot names does
  abbrev pub RangesIn : Type 0
  RangesIn =
      (j : ℕ) → j < slots → slot_at z img t j ≢ 0
      → chunk_of z img t j + chunks_for settings (entry_at z img t j).keyLength (entry_at z img t j).valueLength ≤ chunks

  pub range-ends : RangesIn → (j : ℕ) → j < slots → slot_at z img t j ≢ 0 → (e : Live) → e ≡ live_at z img s t j
      → e.chunk + e.chunks ≤ chunks
  unfolding live_at
  range-ends f j h ne e q = subst (λ (x : Live). x.chunk + x.chunks ≤ chunks) (sym q) (f j h ne)
