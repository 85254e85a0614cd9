-- The marked chunks of a sound image are as many as its pairs need.
use Prim.Native.Nat.{ℕ, zero, suc, ◌+◌, ◌≤◌, ◌<◌}
use mathlib.Core.List.{List, [], ◌∷◌, flat_map, Memᴰ}
use mathlib.Core.Path.{◌≡◌, refl, sym, ◌∙◌}
use mathlib.Core.Logic.{◌≢◌}
use native.Mathlib.Omega.{arith}
use Rattle.std.specs.Prelude.{Option, Some, None}
use native.Mathlib.Numerals.{add-one}
use lib.Dec.{ltb}
use lib.ListN.{length, length-append}
use Rattle.lists.specs.Lists.{how_many, total}
use Rattle.lists.specs.Quantify.{Below, Every}
use Rattle.lists.proofs.Lists.{span_in, length-span}
use Rattle.lists.proofs.Members.{flat_map_in}
use Rattle.lists.proofs.Counted.{how_many-ltb-more, how_many-ltb-zero, how_many-ltb-all}
use Rattle.words.proofs.Bytes.{length_cut}
use Rattle.layout.specs.declared.Shape.{Shape}
use Rattle.layout.specs.Tiers.{IsTier}
use Rattle.layout.specs.Places.{mark}
use Rattle.layout.specs.Frame.{Image}
use Rattle.layout.proofs.Chunks.{chunk_inside, chunks-inside}
use Rattle.chains.specs.Chains.{chain, chained}
use Rattle.entries.specs.declared.Entry.{Entry}
use Rattle.entries.specs.declared.Live.{Live}
use Rattle.entries.specs.Stored.{stored, entry_of, key_of, value_of, chunks_for}
use Rattle.entries.specs.Live.{slot_at, chunk_of, entry_at, live_at, live_in}
use Rattle.entries.proofs.LiveLists.{live_in_in}
use Rattle.entries.proofs.Whole.{WholeAt, whole-sound, key_in_image, value-ends}
use Rattle.search.specs.Rules.{IsWhole, EntryFits, SlotsFit}
use Rattle.chunks.specs.Chunks.{covers, marked_in, marked_chunks}
use Rattle.chunks.specs.Counting.{chunks_of_entry, chunks_of_all}
use Rattle.chunks.proofs.Covering.{covered-by, range-ends}
use Rattle.chunks.proofs.Marks.{marked_below, marked-none, marked_more, marked_all}
use Rattle.entries.specs.Pairs.{Pair, pairs_of}
use Rattle.sound.specs.Sound.{SoundImage}
use Rattle.sound.proofs.Values.{pair_for, weigh}
use Rattle.lists.proofs.Totals.{total-same}
use Rattle.sound.proofs.Sums.{live_in_total, pairs-total}
use Rattle.chains.proofs.Chained.{chained_in}
use Rattle.chains.proofs.Tiers.{chain-tiers}
use Rattle.sound.proofs.Sound.{sound-image}

-- ---- the chunks of several entries

length-chunks : (es : List Live) → length (chunks_of_all es) ≡ total es (λ e. e.chunks)
unfolding chunks_of_all flat_map total
length-chunks [] = refl
length-chunks (e ∷ es) =
    omega (arith, length-append (chunks_of_entry e) (chunks_of_all es), length-span e.chunk e.chunks, length-chunks es)

chunks-below : (n : ℕ) (es : List Live) → Every es (λ e. e.chunk + e.chunks ≤ n) → Every (chunks_of_all es) (λ x. x < n)
unfolding chunks_of_all
chunks-below n es f x m =
    let r : (e : Live) × Memᴰ e es × Memᴰ x (chunks_of_entry e) = flat_map_in chunks_of_entry es m in
    omega (arith, f r.0 r.1, span_in r.0.chunk r.0.chunks x r.2)

-- ---- a tier's marks

module _ (z : Shape) (img : List ℕ) where
  open z use {settings}
  open settings use {segments, slots, chunks}

  marked-chunks : (t : ℕ) (es : List Live) → Below chunks (λ i. how_many es (covers i) ≡ mark z img t i)
      → (n : ℕ) → n ≤ chunks → marked_below z img t n ≡ how_many (chunks_of_all es) (λ x. ltb x n)
  marked-chunks t es f zero h = marked-none z img t ∙ sym (how_many-ltb-zero (chunks_of_all es))
  marked-chunks t es f (suc n) h =
      let e : marked_below z img t (n + 1) ≡ how_many (chunks_of_all es) (λ x. ltb x (n + 1)) =
      omega (arith, marked_more z img t n, how_many-ltb-more n (chunks_of_all es), covered-by n es, f n (omega arith), marked-chunks t es f n (omega arith)) in
      rw add-one at e

  marked-tier : (t : ℕ) (es : List Live) → Below chunks (λ i. how_many es (covers i) ≡ mark z img t i)
      → Every es (λ e. e.chunk + e.chunks ≤ chunks)
      → marked_in z img t ≡ total es (λ e. e.chunks)
  marked-tier t es f g =
      sym (marked_all z img t) ∙ marked-chunks t es f chunks (omega arith)
      ∙ how_many-ltb-all chunks (chunks_of_all es) (chunks-below chunks es g) ∙ length-chunks es

  -- ---- what one entry needs

  -- key and value stand within the image
  pub whole_in_image : (t c : ℕ) → Image z img → IsTier z t → (r : Option Entry) → stored z img t c ≡ r → IsWhole r
      → c + chunks_for settings (entry_of r).keyLength (entry_of r).valueLength ≤ chunks
      → ((entry_of r).keyAt + (entry_of r).keyLength ≤ length img) × ((entry_of r).valueAt + (entry_of r).valueLength ≤ length img)
  whole_in_image t c im it None e w h = absurd w
  whole_in_image t c im it (Some x) e w h =
      let a : WholeAt z img t c x = whole-sound z img t c x e in
      let n : ℕ = c + chunks_for settings x.keyLength x.valueLength in (
        key_in_image z img t c a im.framed it,
        omega (arith, value-ends z img t c a im.framed.valid, chunk_inside z t n h, chunks-inside im.framed t it, im.framed.within),
      )

  -- of the entry of a full slot; so its lengths are those that were read
  module _ (s t j : ℕ) (im : Image z img) (it : IsTier z t) (f : EntryFits z img s t j) where
    pub entry-inside : ((entry_at z img t j).keyAt + (entry_at z img t j).keyLength ≤ length img)
        × ((entry_at z img t j).valueAt + (entry_at z img t j).valueLength ≤ length img)
    unfolding entry_at
    entry-inside = whole_in_image t (chunk_of z img t j) im it (stored z img t (chunk_of z img t j)) refl f.whole f.range_ends

    pub entry-long : (length (key_of img (entry_at z img t j)) ≡ (entry_at z img t j).keyLength)
        × (length (value_of img (entry_at z img t j)) ≡ (entry_at z img t j).valueLength)
    entry-long = (length_cut img _ _ entry-inside.0, length_cut img _ _ entry-inside.1)

  -- the chunks that a pair needs
  abbrev needs : Pair → ℕ
  needs p = chunks_for settings (length p.key) (length p.value)

  entry-needs : (s t j : ℕ) → Image z img → IsTier z t → EntryFits z img s t j
      → (live_at z img s t j).chunks ≡ needs (pair_for z img t (slot_at z img t j))
  unfolding live_at entry_at
  entry-needs s t j im it f = let q : _ = entry-long s t j im it f in rw (q.0, q.1)

  entry-ends : (s t : ℕ) → SlotsFit z img s t → Every (live_in z img s t) (λ e. e.chunk + e.chunks ≤ chunks)
  entry-ends s t fits e m =
      let r : (j : ℕ) × (j < slots) × (slot_at z img t j ≢ 0) × (e ≡ live_at z img s t j) = live_in_in z img s t e m in
      range-ends z img s t (λ j h full. (fits.full j h full).range_ends) r.0 r.1 r.2 e r.3

  tier-needs : (s t : ℕ) → SoundImage z img → s < segments → Memᴰ t (chain z img s) → marked_in z img t ≡ weigh z img needs t
  unfolding weigh
  tier-needs s t sound hs m =
      let fits : SlotsFit z img s t = (sound.fits.entries.tiers_fit s hs t m).slots_fit in
      let it : IsTier z t = chain-tiers z img sound.fits.chains s hs t m in
      marked-tier t (live_in z img s t) (sound.fits.chunks.tiers_fit s hs t m).marks (entry-ends s t fits)
      ∙ live_in_total z img s t (λ e. e.chunks) (λ v. needs (pair_for z img t v))
      (λ j hj full. entry-needs s t j (sound-image z img sound) it (fits.full j hj full))

  pub marked-sum : SoundImage z img → marked_chunks z img ≡ total (pairs_of z img) (λ p. chunks_for settings (length p.key) (length p.value))
  unfolding marked_chunks
  marked-sum sound =
      total-same (chained z img) (weigh z img needs) (marked_in z img)
      (λ t m.
      let c : (s : ℕ) × (s < segments) × Memᴰ t (chain z img s) = chained_in z img sound.fits.chains t m in
      tier-needs c.0 t sound c.1 c.2)
      ∙ sym (pairs-total z img needs)
