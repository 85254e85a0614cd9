-- The chunks that a tier's entries cover, and an entry that covers none of some.
use Prim.Native.Nat.{ℕ, ◌+◌, ◌*◌, ◌≤◌, ◌<◌}
use mathlib.Core.List.{List}
use mathlib.Core.Path.{◌≡◌, refl, ◌∙◌}
use mathlib.Core.Logic.{◌⊎◌, inl, inr, ⊎_elim}
use mathlib.Core.Bool.{true, false, ◌&&◌}
use native.Mathlib.Omega.{arith}
use lib.Dec.{leb, ltb}
use borrow.Author.Tests.{lt-ltb, le-ltb, le-leb, lt-leb}
use Rattle.lists.specs.Cases.{lt-or}
use Rattle.lists.specs.Lists.{how_many}
use Rattle.lists.proofs.Totals.{how_many-total}
use Rattle.words.specs.Bytes.{Apart}
use Rattle.settings.specs.Rules.{Valid}
use Rattle.layout.specs.declared.Shape.{Shape}
use Rattle.layout.specs.Places.{chunk_at}
use Rattle.layout.proofs.Chunks.{chunk-add, chunk-mono}
use Rattle.probe.specs.Table.{slot_total}
use Rattle.entries.specs.Keys.{slot_chunk}
use Rattle.entries.specs.Stored.{chunks_for}
use Rattle.entries.specs.Live.{chunk_of, entry_at, live_at, live_in}
use Rattle.entries.specs.Asking.{Lengths}
use Rattle.entries.proofs.Sizes.{chunks-pos}
use Rattle.entries.proofs.Whole.{entry-small}
use Rattle.search.specs.Search.{slots_of}
use Rattle.search.specs.Rules.{chunks_at}
use Rattle.chunks.specs.Chunks.{covers}
use Rattle.sound.proofs.Values.{entry_for, if_full}
use Rattle.sound.proofs.Sums.{live_in_total}

-- ---- whether the k chunks from d on have chunk i among them

unfoldable pub within : ℕ → ℕ → ℕ → ℕ
within d k i = elim (leb d i && ltb i (d + k)) [ true ↦ 1 | false ↦ 0 ]

pub within_in : (d k i : ℕ) → d ≤ i → i < d + k → within d k i ≡ 1
unfolding within
within_in d k i lo hi = rw (le-leb d i lo, lt-ltb i (d + k) hi, within)

pub within-out : (d k i : ℕ) → (i < d) ⊎ (d + k ≤ i) → within d k i ≡ 0
unfolding within
within-out d k i o =
    ⊎_elim
    (λ (l : i < d). rw (lt-leb d i l, within))
    (λ (l : d + k ≤ i). let q : d ≤ i = omega arith in rw (le-leb d i q, le-ltb i (d + k) l, within))
    o

-- the same of the entry that a slot with v of tier t names
abbrev pub covers_of : Shape → List ℕ → ℕ → ℕ → ℕ → ℕ
covers_of z img t i v =
    within (slot_chunk z.settings v) (chunks_for z.settings (entry_for z img t v).keyLength (entry_for z img t v).valueLength) i

-- how many entries of tier t cover chunk i, as a sum over its slots
pub covered-total : (z : Shape) (img : List ℕ) (s t i : ℕ)
    → how_many (live_in z img s t) (covers i) ≡ slot_total (slots_of z t) (if_full (covers_of z img t i)) img z.settings.slots
unfolding within live_at entry_at
covered-total z img s t i =
    how_many-total (live_in z img s t) (covers i)
    ∙ live_in_total z img s t (λ e. elim (covers i e) [ true ↦ 1 | false ↦ 0 ]) (covers_of z img t i) (λ j h ne. refl)

-- two ranges without a common number
apart-ranges : (d k c n : ℕ) → 0 < k → 0 < n → ((i : ℕ) → c ≤ i → i < c + n → d ≤ i → i < d + k → ⊥)
    → (d + k ≤ c) ⊎ (c + n ≤ d)
apart-ranges d k c n hk hn never =
    ⊎_elim
    (λ (l : c < d + k).
    ⊎_elim
    (λ (q : d < c + n).
    ⊎_elim
    (λ (m : c < d). absurd (never d (omega arith) (omega arith) (omega arith) (omega arith)))
    (λ (m : d ≤ c). absurd (never c (omega arith) (omega arith) (omega arith) (omega arith)))
    (lt-or c d))
    (λ q. inr q)
    (lt-or d (c + n)))
    (λ l. inl l)
    (lt-or c (d + k))

module _ (z : Shape) (img : List ℕ) (t k : ℕ) (valid : Valid z.settings) where
  -- the chunks of slot k's entry
  abbrev d : ℕ
  d = chunk_of z img t k

  abbrev l : ℕ
  l = chunks_at z img t k

  some : 0 < l
  unfolding entry_at
  some = let small : Lengths _ _ = entry-small z img t d in chunks-pos z.settings _ _ small.key_small small.value_small valid

  -- if they are none of the n chunks from c on, their bytes are none of those that these begin with
  pub entry-apart : (c n long : ℕ) → 0 < n → long ≤ n * z.settings.chunkSize
      → ((i : ℕ) → c ≤ i → i < c + n → chunk_of z img t k ≤ i → i < chunk_of z img t k + chunks_at z img t k → ⊥)
      → Apart (chunk_at z t (chunk_of z img t k)) (chunks_at z img t k * z.settings.chunkSize) (chunk_at z t c) long
  entry-apart c n long hn hl never =
      ⊎_elim
      (λ (q : d + l ≤ c). inl (omega (arith, chunk-add z t d l, chunk-mono z t (d + l) c q)))
      (λ (q : c + n ≤ d). inr (omega (arith, chunk-add z t c n, chunk-mono z t (c + n) d q)))
      (apart-ranges d l c n some hn never)
