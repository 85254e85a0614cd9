-- The counters follow: a tier's entry count and lowest free chunk field, written anew, make the image sound.
use Prim.Native.Nat.{ℕ, ◌<◌}
use mathlib.Core.List.{List, [], ◌∷◌, Memᴰ}
use mathlib.Core.Path.{◌≡◌, refl, ap, sym, ◌∙◌, subst}
use mathlib.Core.Logic.{⊎_elim, ◌≢◌}
use native.Mathlib.Omega.{arith}
use lib.ListN.{length}
use Rattle.lists.specs.Lists.{total}
use Rattle.lists.specs.Cases.{same_or}
use Rattle.lists.specs.Quantify.{Every, every-cons, every-none}
use Rattle.layout.specs.declared.Shape.{Shape}
use Rattle.layout.specs.Tiers.{IsTier}
use Rattle.layout.specs.declared.Global.{Global}
use Rattle.layout.specs.declared.Global.TheVariants.{FirstFree as firstFree, UsedTiers as usedTiers}
use Rattle.layout.specs.declared.Header.TheVariants.{EntryCount as entry_count, LowestFree as lowestFree, NextTier as nextTier}
use Rattle.layout.specs.declared.Counter.{Counter}
use Rattle.layout.specs.declared.Counter.TheVariants.{Next as next, Low as low, Count as count, Previous as previous, Segment as segment, Order as order}
use Rattle.layout.specs.Places.{Place, global, tier, slot, counter, free, byte, counter_no, In, get, put, next_place, low_place, count_place, ◌≔◌, puts}
use Rattle.layout.specs.Frame.{Image}
use Rattle.layout.proofs.Places.{written, get-same, get_other, get-puts-other, image-put, image-puts, length-puts, shared_in, shared-never, shared-slot, shared-free, shared-byte, shared-tiers, shared-fields, global-lt}
use Rattle.chains.specs.Chains.{chain, free_chain, ChainsFit}
use Rattle.chains.proofs.Chained.{IsChained}
use Rattle.entries.specs.Live.{full_slots}
use Rattle.chunks.specs.Chunks.{lowest_clear, low_field, CountersFit}
use Rattle.chunks.proofs.Marks.{lowest-few}
use Rattle.chunks.proofs.LowMark.{low-mark-exact}
use Rattle.entries.specs.Pairs.{Pair, pairs_of}
use Rattle.sound.specs.Sound.{SoundImage, SoundBut}
use Rattle.counters.specs.Recount.{recount, settle}
use Rattle.chains.proofs.Tiers.{chain-tiers}
use Rattle.sound.proofs.Sound.{sound-image, but-sound, but-less}
use Rattle.entries.proofs.FullSlots.{full-few}
use Rattle.counters.proofs.CountRoom.{count_room, low-room}
use Rattle.sound.proofs.AgreeTier.{SameSlots, SameTier, same_full, same-lowest, same-weigh}
use Rattle.chains.proofs.AgreeChains.{SameChains, same-chain, same-free_chain}
use Rattle.sound.proofs.Replaced.{OnlyTier, tier-stays, tier-replaced, pairs-replaced}
use Rattle.sound.proofs.Elsewhere.{tier-by-places}

-- ---- what the two writes keep

module _ (z : Shape) (img : List ℕ) (s t : ℕ) (hs : s < z.settings.segments) {but : List ℕ} (sound : SoundBut z img (t ∷ but))
    (m : Memᴰ t (chain z img s)) where
  abbrev after : List ℕ
  after = recount z img t

  im : Image z img
  im = sound-image z img sound

  it : IsTier z t
  it = chain-tiers z img sound.fits.chains s hs t m

  long : length after ≡ length img
  unfolding recount
  long = length-puts z img _

  -- any other place
  keeps : (q : Place) → In z q → count_place z t ≢ q → low_place z t ≢ q → get z after q ≡ get z img q
  unfolding recount
  keeps q h a b =
      get-puts-other im.framed img (count_place z t ≔ length (full_slots z img t) ∷ low_place z t ≔ lowest_clear z img t ∷ []) q h
      (every-cons (λ w. In z (written w) × (q ≢ written w)) (count_place z t ≔ length (full_slots z img t)) _
      (shared_in z entry_count count t it, λ e. a (sym e))
      (every-cons (λ w. In z (written w) × (q ≢ written w)) (low_place z t ≔ lowest_clear z img t) _ (shared_in z lowestFree low t it, λ e. b (sym e))
      (every-none _)))

  keeps-global : (f : Global) → get z after (global f) ≡ get z img (global f)
  keeps-global f =
      keeps (global f) tt
      (shared-never z entry_count count t (global f) (omega (arith, global-lt f)) (omega (arith, global-lt f)))
      (shared-never z lowestFree low t (global f) (omega (arith, global-lt f)) (omega (arith, global-lt f)))

  keeps-counter : (u : ℕ) → IsTier z u → (g : Counter) → counter_no g ≢ counter_no count → counter_no g ≢ counter_no low
      → get z after (tier u (counter g)) ≡ get z img (tier u (counter g))
  keeps-counter u is g a b =
      keeps (tier u (counter g)) (is, tt)
      (shared-never z entry_count count t (tier u (counter g)) (omega arith) (omega arith))
      (shared-never z lowestFree low t (tier u (counter g)) (omega arith) (omega arith))

  -- the slots, marks and chunks of each tier
  keeps-tier : (u : ℕ) → IsTier z u → SameTier z img after u
  keeps-tier u is =
      tier-by-places z img after u long
      (λ j h. keeps (tier u (slot j)) (is, h) (shared-slot z entry_count count t u j) (shared-slot z lowestFree low t u j))
      (λ b h. keeps (tier u (free b)) (is, h) (shared-free z entry_count count t u b) (shared-free z lowestFree low t u b))
      (λ i h. keeps (tier u (byte i)) (is, h) (shared-byte z entry_count count t u i) (shared-byte z lowestFree low t u i))

  keeps-chains : SameChains z img after
  keeps-chains =
      record {
        nexts =
            λ u is.
            keeps (next_place z u) (shared_in z nextTier next u is)
            (shared-fields z entry_count nextTier count next t u (omega arith) (omega arith))
            (shared-fields z lowestFree nextTier low next t u (omega arith) (omega arith));
        previous = λ u is. keeps-counter u is previous (omega arith) (omega arith);
        segment = λ u is. keeps-counter u is segment (omega arith) (omega arith);
        order = λ u is. keeps-counter u is order (omega arith) (omega arith);
        head = keeps-global firstFree;
        used = keeps-global usedTiers;
      }

  pub recount-only : OnlyTier z img (recount z img t) t
  unfolding recount
  recount-only =
      record {
        image = image-puts im _;
        long = long;
        globals = keeps-global;
        chains = keeps-chains;
        others = λ u is _. keeps-tier u is;
        counts =
            λ u is ne.
            record {
              count =
                  keeps (count_place z u) (shared_in z entry_count count u is)
                  (shared-tiers z entry_count count t u it.0 is.0 (λ e. ne (sym e)))
                  (shared-fields z lowestFree entry_count low count t u (omega arith) (omega arith));
              low =
                  keeps (low_place z u) (shared_in z lowestFree low u is)
                  (shared-fields z entry_count lowestFree count low t u (omega arith) (omega arith))
                  (shared-tiers z lowestFree low t u it.0 is.0 (λ e. ne (sym e)));
            };
      }

  pub recount-tier : SameTier z img (recount z img t) t
  recount-tier = keeps-tier t it

  -- ---- the two numbers are what the tier has

  count-written : get z after (count_place z t) ≡ length (full_slots z img t)
  unfolding recount puts
  count-written =
      get_other im.framed (put z img (count_place z t) (length (full_slots z img t))) (low_place z t) (lowest_clear z img t) (count_place z t)
      (shared_in z lowestFree low t it) (shared_in z entry_count count t it) (shared-fields z entry_count lowestFree count low t t (omega arith) (omega arith))
      ∙ get-same im (count_place z t) (length (full_slots z img t)) (shared_in z entry_count count t it)
      (omega (arith, count_room z t, full-few z img t, sound.fits.valid.slots.1))

  low-written : get z after (low_place z t) ≡ lowest_clear z img t
  unfolding recount puts
  low-written =
      get-same (image-put im (count_place z t) (length (full_slots z img t))) (low_place z t) (lowest_clear z img t) (shared_in z lowestFree low t it)
      (omega (arith, low-room z t, lowest-few z img t, sound.fits.valid.chunks))

  pub recount-exact : low_field z (recount z img t) t ≡ lowest_clear z (recount z img t) t
  recount-exact = low-written ∙ sym (same-lowest z img after t recount-tier.marks)

  written-counters : CountersFit z after t
  written-counters =
      record {
        entry_count = count-written ∙ ap length (sym (same_full z img after t recount-tier.slots));
        low_mark = low-mark-exact recount-exact;
      }

  -- the tier was in the list, and the change put it there once more
  pub recount-sound : SoundBut z (recount z img t) but
  recount-sound =
      but-less z after written-counters
      (but-less z after written-counters
      (tier-replaced z img s t hs sound m after recount-only (tier-stays z img s t hs sound m after recount-tier)))

  pub recount-pairs : (F : Pair → ℕ) → total (pairs_of z (recount z img t)) F ≡ total (pairs_of z img) F
  recount-pairs F =
      omega (
        arith,
        pairs-replaced z img s t hs sound m after recount-only F,
        same-weigh z img after t recount-tier s (sound.fits.entries.tiers_fit s hs t m).slots_fit F,
      )

-- ---- the counters of several tiers

module _ (z : Shape) where
  pub recount-chained : (img : List ℕ) (t : ℕ) {but : List ℕ} → SoundBut z img (t ∷ but) → IsChained z img t → (u : ℕ) → IsChained z img u
      → IsChained z (recount z img t) u
  recount-chained img t sound c u d =
      let same : chain z (recount z img t) d.0 ≡ chain z img d.0 =
      same-chain z img (recount z img t) sound.fits.chains (recount-only z img c.0 t c.1.0 sound c.1.1).chains d.0 d.1.0 in
      (d.0, (d.1.0, subst (Memᴰ u) (sym same) d.1.1))

  pub settle-sound : (ts img : List ℕ) → SoundBut z img ts → Every ts (IsChained z img) → SoundImage z (settle z img ts)
  unfolding settle
  settle-sound [] img sound c = but-sound z img sound
  settle-sound (t ∷ ts) img sound c =
      let here : IsChained z img t = c t (Memᴰ.head refl) in
      settle-sound ts (recount z img t) (recount-sound z img here.0 t here.1.0 sound here.1.1)
      (λ u m. recount-chained img t sound here u (c u (Memᴰ.tail m)))

  pub settle-pairs : (ts img : List ℕ) → SoundBut z img ts → Every ts (IsChained z img) → (F : Pair → ℕ)
      → total (pairs_of z (settle z img ts)) F ≡ total (pairs_of z img) F
  unfolding settle
  settle-pairs [] img sound c F = refl
  settle-pairs (t ∷ ts) img sound c F =
      let here : IsChained z img t = c t (Memᴰ.head refl) in
      settle-pairs ts (recount z img t) (recount-sound z img here.0 t here.1.0 sound here.1.1)
      (λ u m. recount-chained img t sound here u (c u (Memᴰ.tail m))) F
      ∙ recount-pairs z img here.0 t here.1.0 sound here.1.1 F

  -- what each recount keeps is kept by all of them
  settle-keeps : (Q : List ℕ → Type 0)
      → ((i : List ℕ) (t : ℕ) → OnlyTier z i (recount z i t) t → SameTier z i (recount z i t) t → ChainsFit z i → Q i → Q (recount z i t))
      → (ts img : List ℕ) → SoundBut z img ts → Every ts (IsChained z img) → Q img → Q (settle z img ts)
  unfolding settle
  settle-keeps Q one [] img sound c q = q
  settle-keeps Q one (t ∷ ts) img sound c q =
      let here : IsChained z img t = c t (Memᴰ.head refl) in
      settle-keeps Q one ts (recount z img t) (recount-sound z img here.0 t here.1.0 sound here.1.1)
      (λ u m. recount-chained img t sound here u (c u (Memᴰ.tail m)))
      (one img t (recount-only z img here.0 t here.1.0 sound here.1.1) (recount-tier z img here.0 t here.1.0 sound here.1.1)
      sound.fits.chains q)

  module _ (ts img : List ℕ) (sound : SoundBut z img ts) (c : Every ts (IsChained z img)) where
    pub settle-slots : (u : ℕ) → IsTier z u → SameSlots z img (settle z img ts) u
    settle-slots u is =
        settle-keeps (λ i. SameSlots z img i u)
        (λ i t only own f q.
        let same : SameTier z i (recount z i t) u =
        ⊎_elim (λ (e : u ≡ t). rw e own) (λ (ne : u ≢ t). only.others u is ne) (same_or u t) in
        λ j h. same.slots j h ∙ q j h)
        ts img sound c (λ j h. refl)

    pub settle-chain : (s : ℕ) → s < z.settings.segments → chain z (settle z img ts) s ≡ chain z img s
    settle-chain s hs =
        settle-keeps (λ i. chain z i s ≡ chain z img s)
        (λ i t only own f q. same-chain z i (recount z i t) f only.chains s hs ∙ q)
        ts img sound c refl

    pub settle-free : free_chain z (settle z img ts) ≡ free_chain z img
    settle-free =
        settle-keeps (λ i. free_chain z i ≡ free_chain z img)
        (λ i t only own f q. same-free_chain z i (recount z i t) f only.chains ∙ q)
        ts img sound c refl

    pub settle-chained : (u : ℕ) → IsChained z img u → IsChained z (settle z img ts) u
    settle-chained u d = (d.0, (d.1.0, subst (Memᴰ u) (sym (settle-chain d.0 d.1.0)) d.1.1))
