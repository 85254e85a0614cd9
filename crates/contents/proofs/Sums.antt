-- The answers for a chain's tiers taken together, and for the chains one after the other.
use Rattle.std.specs.Prelude.{Result, Ok}
use Prim.Native.Nat.{ℕ, suc, ◌+◌, ◌*◌, ◌≤◌, ◌<◌}
use mathlib.Core.List.{List, [], ◌∷◌, ◌++◌, flat_map, append-nil, Memᴰ}
use mathlib.Core.Path.{◌≡◌, refl, ap, sym, ◌∙◌, subst}
use mathlib.Core.Logic.{◌≢◌}
use native.Mathlib.Omega.{arith}
use native.Mathlib.Numerals.{add-one}
use mathlib.Core.Bool.{Bool, false, not, false≢true}
use lib.Dec.{eqb}
use lib.ListN.{length, length-append}
use Rattle.lists.specs.Lists.{span, below, total}
use Rattle.lists.specs.Quantify.{Below, Every, below_suc, every-none}
use Rattle.lists.proofs.Members.{every_more, every_first, every-last}
use Rattle.lists.proofs.Lists.{flat_map_append, flat_map_below, total-append, how_many-le, length-span}
use Rattle.links.proofs.Follow.{length-follow}
use Rattle.links.proofs.Along.{Along, along-starts, along-ends, along_in, along-turns, along-goes, along-less}
use Rattle.layout.specs.declared.Shape.{Shape}
use Rattle.layout.specs.Tiers.{tiers}
use Rattle.chains.specs.Chains.{next_of, follow, chain, ChainFits}
use Rattle.entries.specs.declared.Live.{Live}
use Rattle.entries.specs.Live.{slot_at, full_slots, live_in, live_of}
use Rattle.entries.proofs.LiveLists.{length_live_in}
use Rattle.search.specs.Rules.{TierSlotsFit}
use Rattle.chunks.specs.Chunks.{marked_in, TierChunksFit}
use Rattle.chunks.proofs.Marks.{marked_all, marked-le}
use Rattle.contents.specs.declared.ContentsError.{ContentsError}
use Rattle.contents.specs.declared.Tier.{Tier}
use Rattle.contents.specs.Asking.{FirstKnown}
use Rattle.contents.specs.Counting.{Says, joined, AtMost, TierSays, TierTold, TiersSay, ChainHolds, ChainSays, AllSay}
use Rattle.contents.proofs.Saying.{both_say, says_as, says-small}

module _ (z : Shape) (img : List ℕ) where
  open z use {settings}
  open settings use {segments, slots, chunks}

  -- ---- the counts of some tiers, in a row

  unfoldable pub live_over : ℕ → List ℕ → ℕ
  live_over s ts = length (flat_map (live_in z img s) ts)

  unfoldable pub marked_over : List ℕ → ℕ
  marked_over ts = total ts (marked_in z img)

  none-live : (s : ℕ) → live_over s [] ≡ 0
  unfolding live_over flat_map
  none-live s = refl

  none-marked : marked_over [] ≡ 0
  unfolding marked_over total
  none-marked = refl

  more-live : (s : ℕ) (ts : List ℕ) (t : ℕ) → live_over s (ts ++ (t ∷ [])) ≡ live_over s ts + length (full_slots z img t)
  unfolding live_over flat_map
  more-live s ts t =
      ap length
      (flat_map_append (live_in z img s) ts (t ∷ []) ∙ ap (λ (r : List Live). flat_map (live_in z img s) ts ++ r) (append-nil (live_in z img s t)))
      ∙
      (length-append (flat_map (live_in z img s) ts) (live_in z img s t) ∙ ap (λ (n : ℕ). length (flat_map (live_in z img s) ts) + n)
      (length_live_in z img s t))

  more-marked : (ts : List ℕ) (t : ℕ) → marked_over (ts ++ (t ∷ [])) ≡ marked_over ts + marked_in z img t
  unfolding marked_over total
  more-marked ts t = omega (arith, total-append (marked_in z img) ts (t ∷ []))

  module _ (fewSlots : slots ≤ 4096) (fewChunks : chunks ≤ 4096) where
    full-few : (t : ℕ) → length (full_slots z img t) ≤ 4096
    unfolding full_slots
    full-few t = omega (arith, how_many-le (λ j. not (eqb (slot_at z img t j) 0)) (below slots), length-span 0 slots)

    marked-few : (t : ℕ) → marked_in z img t ≤ 4096
    marked-few t = omega (arith, marked_all z img t, marked-le z img t chunks)

    live-bound : (s : ℕ) (ts : List ℕ) → live_over s ts ≤ length ts * 4096
    unfolding live_over flat_map
    live-bound s [] = omega arith
    live-bound s (t ∷ ts) =
        omega (arith, length-append (live_in z img s t) (flat_map (live_in z img s) ts), length_live_in z img s t, full-few t, live-bound s ts)

    marked-bound : (ts : List ℕ) → marked_over ts ≤ length ts * 4096
    unfolding marked_over total
    marked-bound [] = omega arith
    marked-bound (t ∷ ts) = omega (arith, marked-few t, marked-bound ts)

  -- ---- one chain

  -- the tiers of done were met, sum is their answers taken together, and apart is what the first one said of its keys
  pub record Summing (s : ℕ) (sum : Result (ℕ × ℕ) ContentsError) (apart : Bool) (t : ℕ) : Type 0 where
    pub done : List ℕ
    pub alone : FirstKnown z img s apart
    pub along : Along (next_of z img) (tiers z) (suc s) done t
    pub says : Says (Every done (TierSlotsFit z img s)) (Every done (TierChunksFit z img s)) (live_over s done) (marked_over done) sum

  pub summing_starts : (s : ℕ) → Summing s (Ok (0, 0)) false (s + 1)
  summing_starts s =
      rw (add-one s)
      (record {
        done = [];
        alone = λ e. absurd (false≢true e);
        along = along-starts (next_of z img) (tiers z) (suc s);
        says = record { so = ((every-none (TierSlotsFit z img s), every-none (TierChunksFit z img s)), (sym (none-live s), sym none-marked)) };
      })

  pub tier-small : (s t : ℕ) (r : Result (ℕ × ℕ) ContentsError) → slots ≤ 4096 → chunks ≤ 4096 → TierSays z img s t r → AtMost 4294967296 r
  tier-small s t r a b q = says-small 4294967296 (omega (arith, full-few a b t)) (omega (arith, marked-few a b t)) r q

  module _ {s : ℕ} {sum : Result (ℕ × ℕ) ContentsError} {apart : Bool} {t : ℕ} (w : Summing s sum apart t) where
    -- the next tier
    module _ (fits : ChainFits z img s) (ne : t ≢ 0) where
      low : length w.done < tiers z
      low = along-goes w.along fits.ends ne

      pub summing_in : Memᴰ t (chain z img s)
      unfolding chain
      summing_in = along_in w.along low ne

      pub summing_less : {u : ℕ} → u ≡ next_of z img t → length (follow z img (tiers z) u) < length (follow z img (tiers z) t)
      summing_less e = along-less w.along fits.ends ne e

    pub summing_turns : ChainFits z img s → t ≢ 0 → {tier : Tier} → TierTold z img s t tier → {next : Result (ℕ × ℕ) ContentsError}
        → next ≡ joined sum tier.contents → {apart' : Bool} → FirstKnown z img s apart' → {u : ℕ} → u ≡ next_of z img t
        → Summing s next apart' u
    summing_turns fits ne {tier} q {next} e alone eu =
        record {
          done = w.done ++ (t ∷ []);
          alone = alone;
          along = along-turns w.along (low fits ne) ne eu;
          says =
              says_as
              (λ p. every_more w.done t p.0 p.1) (λ p. (every_first w.done t p, every-last w.done t p))
              (λ p. every_more w.done t p.0 p.1) (λ p. (every_first w.done t p, every-last w.done t p))
              (sym (more-live s w.done t)) (sym (more-marked w.done t)) next (both_say e w.says q.says);
        }

    -- the counts so far are small
    pub summing_small : slots ≤ 4096 → chunks ≤ 4096 → tiers z ≤ 1024 → AtMost 4294967296 sum
    summing_small a b c =
        says-small 4294967296
        (omega (arith, live-bound a b s w.done, w.along.low))
        (omega (arith, marked-bound a b w.done, w.along.low))
        sum w.says

    pub summing_ends : t ≡ 0 → TiersSay z img s sum
    unfolding live_over marked_over live_of chain
    summing_ends e =
        let d : w.done ≡ chain z img s = along-ends w.along e in
        subst (λ (x : List ℕ). Says (Every x (TierSlotsFit z img s)) (Every x (TierChunksFit z img s)) (live_over s x) (marked_over x) sum) d w.says

  -- ---- the chains one after the other

  -- the counts of the first s segments
  abbrev live_first : ℕ → ℕ
  live_first s = length (flat_map (live_of z img) (below s))

  abbrev marked_first : ℕ → ℕ
  marked_first s = total (flat_map (chain z img) (below s)) (marked_in z img)

  more-live-first : (s : ℕ) → live_first s + length (live_of z img s) ≡ live_first (s + 1)
  more-live-first s = sym (ap length (flat_map_below (live_of z img) s) ∙ length-append (flat_map (live_of z img) (below s)) (live_of z img s))

  more-marked-first : (s : ℕ) → marked_first s + total (chain z img s) (marked_in z img) ≡ marked_first (s + 1)
  more-marked-first s =
      sym (ap (λ (r : List ℕ). total r (marked_in z img)) (flat_map_below (chain z img) s)
      ∙ total-append (marked_in z img) (flat_map (chain z img) (below s)) (chain z img s))

  module _ (fewSlots : slots ≤ 4096) (fewChunks : chunks ≤ 4096) (fewTiers : tiers z ≤ 1024) where
    live-few : (s : ℕ) → length (live_of z img s) ≤ 4194304
    unfolding chain live_over live_of
    live-few s = omega (arith, live-bound fewSlots fewChunks s (chain z img s), length-follow (next_of z img) (tiers z) (suc s))

    marks-few : (s : ℕ) → total (chain z img s) (marked_in z img) ≤ 4194304
    unfolding chain marked_over
    marks-few s = omega (arith, marked-bound fewSlots fewChunks (chain z img s), length-follow (next_of z img) (tiers z) (suc s))

    pub chain-small : (s : ℕ) (r : Result (ℕ × ℕ) ContentsError) → ChainSays z img s r → AtMost 4294967296 r
    chain-small s r q = says-small 4294967296 (omega (arith, live-few s)) (omega (arith, marks-few s)) r q

  pub record AllSumming (sum : Result (ℕ × ℕ) ContentsError) (s : ℕ) : Type 0 where
    pub low : s ≤ segments
    pub says : AllSay z img s sum
    pub small : (live_first s ≤ s * 4194304) × (marked_first s ≤ s * 4194304)

  pub all-starts : AllSumming (Ok (0, 0)) 0
  unfolding flat_map total span
  all-starts =
      record { low = omega arith; says = record { so = ((λ s h. absurd (omega arith), λ s h. absurd (omega arith)), (refl, refl)) }; small = omega arith }

  -- asked of s + 1 segments, it is asked of the first s and of the last
  first_below : (P : ℕ → Type 0) (s : ℕ) → Below (s + 1) P → Below s P × P s
  first_below P s f = (λ i h. f i (omega arith), f s (omega arith))

  module _ {sum : Result (ℕ × ℕ) ContentsError} {s : ℕ} (w : AllSumming sum s) where
    pub all_small : segments ≤ 256 → AtMost 4294967296 sum
    all_small h = says-small 4294967296 (omega (arith, w.low, w.small)) (omega (arith, w.low, w.small)) sum w.says

    pub all-turns : slots ≤ 4096 → chunks ≤ 4096 → tiers z ≤ 1024 → s < segments → {r next : Result (ℕ × ℕ) ContentsError} → ChainSays z img s r
        → next ≡ joined sum r → AllSumming next (s + 1)
    all-turns a b c h {r} {next} q e =
        record {
          low = omega arith;
          says =
              says_as
              (λ p. rw (add-one s) (below_suc (ChainHolds z img) s p.0 p.1))
              (first_below (ChainHolds z img) s)
              (λ p. rw (add-one s) (below_suc (λ s. Every (chain z img s) (TierChunksFit z img s)) s p.0 p.1))
              (first_below (λ s. Every (chain z img s) (TierChunksFit z img s)) s)
              (more-live-first s) (more-marked-first s) next (both_say e w.says q);
          small = omega (arith, w.small, more-live-first s, more-marked-first s, live-few a b c s, marks-few a b c s);
        }

    pub all-ends : segments ≤ s → AllSay z img segments sum
    all-ends h = let e : s ≡ segments = omega (arith, w.low) in rw e at w.says
