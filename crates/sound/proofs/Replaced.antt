-- One tier is changed and nothing else: what must be known of it so that the image stays sound.
use Prim.Native.Nat.{ℕ, ◌+◌, ◌<◌}
use mathlib.Core.List.{List, ◌∷◌, Memᴰ}
use mathlib.Core.Path.{◌≡◌, refl, ap, sym, ◌∙◌, subst}
use mathlib.Core.Logic.{◌≢◌, ⊎_elim}
use native.Mathlib.Omega.{arith}
use lib.ListN.{length}
use Rattle.lists.specs.Cases.{same_or}
use Rattle.lists.specs.Lists.{total}
use Rattle.lists.specs.Quantify.{Below, Every}
use Rattle.layout.specs.declared.Shape.{Shape}
use Rattle.layout.specs.Tiers.{IsTier}
use Rattle.layout.specs.declared.Global.{Global}
use Rattle.layout.specs.declared.Global.TheVariants.{BulkCount as bulkCount, HeadersOffset as headersOffset, StoreSize as storeSize}
use Rattle.layout.specs.Places.{get, global}
use Rattle.layout.specs.Frame.{Image}
use Rattle.layout.proofs.Frames.{shape_same, fits-same}
use Rattle.chains.specs.Chains.{chain, free_chain, chained}
use Rattle.entries.specs.Live.{slot_at}
use Rattle.search.specs.Rules.{keyAt, KeyOnce, KeysOnce, EntriesFit, TierSlotsFit}
use Rattle.chunks.specs.Chunks.{MarksFit, CountersFit}
use Rattle.entries.specs.Pairs.{Pair, pairs_of}
use Rattle.sound.specs.Sound.{SoundBut}
use Rattle.sound.proofs.Values.{weigh}
use Rattle.lists.proofs.Totals.{total-change}
use Rattle.sound.proofs.Sums.{pairs-total}
use Rattle.chains.proofs.Chained.{chain-segment, free-not-chained, chained-once, chained_in}
use Rattle.chains.proofs.Tiers.{chain-tiers, free-tiers}
use Rattle.sound.proofs.AgreeEntry.{entry-moves}
use Rattle.sound.proofs.AgreeTier.{SameSlots, SameTier, SameCounters, full-before, same-tier-fits, same-marks, same-counters, same-free, same-weigh}
use Rattle.chains.proofs.AgreeChains.{SameChains, same-chain, same-free_chain, same-chained, same-chains-fit}

pub record OnlyTier (z : Shape) (img img' : List ℕ) (t : ℕ) : Type 0 where
  pub image : Image z img'
  pub long : length img' ≡ length img
  pub globals : (f : Global) → get z img' (global f) ≡ get z img (global f)
  pub chains : SameChains z img img'
  pub others : (u : ℕ) → IsTier z u → u ≢ t → SameTier z img img' u
  pub counts : (u : ℕ) → IsTier z u → u ≢ t → SameCounters z img img' u

-- what must be known of the changed tier
pub record TierAgain (z : Shape) (img img' : List ℕ) (s t : ℕ) : Type 0 where
  pub fits : TierSlotsFit z img' s t
  pub marks : MarksFit z img' s t
  -- no key is there twice
  pub own : (j k : ℕ) → j < z.settings.slots → k < z.settings.slots → slot_at z img' t j ≢ 0 → slot_at z img' t k ≢ 0
      → keyAt z img' t j ≡ keyAt z img' t k → j ≡ k
  -- and none is in another tier of the chain
  pub apart : (u : ℕ) → Memᴰ u (chain z img s) → u ≢ t → (j k : ℕ) → j < z.settings.slots → k < z.settings.slots
      → slot_at z img' t j ≢ 0 → slot_at z img u k ≢ 0
      → keyAt z img' t j ≢ keyAt z img u k

module _ (z : Shape) (img : List ℕ) (s t : ℕ) (hs : s < z.settings.segments) {but : List ℕ} (sound : SoundBut z img but)
    (m : Memᴰ t (chain z img s)) where
  open z use {settings}
  open settings use {segments, slots, chunks}

  -- a tier whose slots agree and stand for the same keys
  pub keys-stay : (img' : List ℕ) → SameSlots z img img' t → Below slots (λ j. slot_at z img t j ≢ 0 → keyAt z img' t j ≡ keyAt z img t j)
      → TierSlotsFit z img' s t → MarksFit z img' s t → TierAgain z img img' s t
  keys-stay img' same keys fits marks =
      let full : (j : ℕ) → j < slots → slot_at z img' t j ≢ 0 → slot_at z img t j ≢ 0 = full-before z img img' t same in
      let key : (j : ℕ) → j < slots → slot_at z img' t j ≢ 0 → keyAt z img' t j ≡ keyAt z img t j = λ j h ne. keys j h (full j h ne) in
      record {
        fits = fits;
        marks = marks;
        own =
            λ j k hj hk fj fk e.
            (sound.fits.entries.keys_once s hs t m j hj (full j hj fj) t m k hk (full k hk fk)
            (sym (key j hj fj) ∙ e ∙ key k hk fk)).1;
        apart = λ u mu ne j k hj hk fj fk e. ne (sym (sound.fits.entries.keys_once s hs t m j hj (full j hj fj) u mu k hk fk (sym (key j hj fj) ∙ e)).0);
      }

  -- a tier that was not changed
  pub tier-stays : (img' : List ℕ) → SameTier z img img' t → TierAgain z img img' s t
  tier-stays img' same =
      let fits : TierSlotsFit z img s t = sound.fits.entries.tiers_fit s hs t m in
      keys-stay img' same.slots
      (λ j h full. (entry-moves z img img' t same.bytes s j j (same.slots j h) (fits.slots_fit.full j h full)).key)
      (same-tier-fits z img img' t same s fits)
      (same-marks z img img' t same s (sound.fits.chunks.marks s hs t m))

  module _ (img' : List ℕ) (only : OnlyTier z img img' t) where
    -- what holds of the changed tier in its segment, and of the other tiers of a segment's chain
    by-tier : (P : ℕ → ℕ → Type 0) → P s t → (s' : ℕ) → s' < segments
        → ((u : ℕ) → Memᴰ u (chain z img s') → u ≢ t → P s' u)
        → Every (chain z img' s') (P s')
    by-tier P p s' h f u mu =
        let mu₀ : Memᴰ u (chain z img s') = subst (Memᴰ u) (same-chain z img img' sound.fits.chains only.chains s' h) mu in
        ⊎_elim
        (λ (e : u ≡ t).
        let same : s ≡ s' = chain-segment z img sound.fits.chains s s' t hs h m (subst (λ (x : ℕ). Memᴰ x (chain z img s')) e mu₀) in
        subst (λ (x : ℕ). P x u) same (subst (P s) (sym e) p))
        (λ (ne : u ≢ t). f u mu₀ ne)
        (same_or u t)

    module _ (s' : ℕ) (h : s' < segments) (u : ℕ) (mu : Memᴰ u (chain z img s')) (ne : u ≢ t) where
      other : SameTier z img img' u
      other = only.others u (chain-tiers z img sound.fits.chains s' h u mu) ne

      other_fits : TierSlotsFit z img s' u
      other_fits = sound.fits.entries.tiers_fit s' h u mu

      -- a full slot was full and stands for the same key
      other-full : (k : ℕ) → k < slots → slot_at z img' u k ≢ 0 → slot_at z img u k ≢ 0
      other-full = full-before z img img' u other.slots

      other_key : (k : ℕ) → k < slots → slot_at z img' u k ≢ 0 → keyAt z img' u k ≡ keyAt z img u k
      other_key k hk full =
          (entry-moves z img img' u other.bytes s' k k (other.slots k hk) (other_fits.slots_fit.full k hk (other-full k hk full))).key

    module _ (a : TierAgain z img img' s t) where
      -- the keys of slot j of tier v and slot k of tier u are one key only if the slots are one
      abbrev One : ℕ → ℕ → ℕ → Type 0
      One v j u = Below slots (λ k. slot_at z img' u k ≢ 0 → keyAt z img' v j ≡ keyAt z img' u k → (v ≡ u) × (j ≡ k))

      -- a slot of the changed tier
      once-here : (j : ℕ) → j < slots → slot_at z img' t j ≢ 0 → KeyOnce z img' s t j
      once-here j hj fj =
          by-tier (λ x u. One t j u) (λ k hk fk e. (refl, a.own j k hj hk fj fk e)) s hs
          (λ u mu ne k hk fk e.
          absurd (a.apart u mu ne j k hj hk fj (other-full s hs u mu ne k hk fk) (e ∙ other_key s hs u mu ne k hk fk)))

      -- one of another
      once-there : (s' : ℕ) → s' < segments → (v : ℕ) → Memᴰ v (chain z img s') → v ≢ t
          → (j : ℕ) → j < slots → slot_at z img' v j ≢ 0
          → KeyOnce z img' s' v j
      once-there s' h v mv ne j hj fj u mu =
          let fv : slot_at z img v j ≢ 0 = other-full s' h v mv ne j hj fj in
          let ev : keyAt z img' v j ≡ keyAt z img v j = other_key s' h v mv ne j hj fj in
          by-tier (λ x u. Memᴰ v (chain z img x) → One v j u)
          (λ mv k hk fk e. absurd (a.apart v mv ne k j hk hj fk fv (sym e ∙ ev)))
          s' h
          (λ u mu nu mv k hk fk e.
          sound.fits.entries.keys_once s' h v mv j hj fv u mu k hk (other-full s' h u mu nu k hk fk) (sym ev ∙ e ∙ other_key s' h u mu nu k hk fk))
          u mu mv

      keys-once : (s' : ℕ) → s' < segments → KeysOnce z img' s'
      keys-once s' h =
          by-tier (λ x v. Below slots (λ j. slot_at z img' v j ≢ 0 → KeyOnce z img' x v j)) once-here s' h (once-there s' h)

      entries_fit : EntriesFit z img'
      entries_fit =
          record {
            tiers_fit =
                λ s' h.
                by-tier (TierSlotsFit z img') a.fits s' h
                (λ u mu ne. same-tier-fits z img img' u (other s' h u mu ne) s' (other_fits s' h u mu ne));
            keys_once = keys-once;
          }

    counters-again : Below segments (λ s'. Every (chain z img' s') (λ u. (Memᴰ u (t ∷ but) → ⊥) → CountersFit z img' u))
    counters-again s' h u mu out =
        let mu₀ : Memᴰ u (chain z img s') = subst (Memᴰ u) (same-chain z img img' sound.fits.chains only.chains s' h) mu in
        let is : IsTier z u = chain-tiers z img sound.fits.chains s' h u mu₀ in
        let ne : u ≢ t = λ e. out (mathlib.Core.List.Memᴰ.head e) in
        same-counters z img img' u (only.others u is ne).slots (only.others u is ne).marks (only.counts u is ne)
        (sound.fits.chunks.counters s' h u mu₀ (λ k. out (mathlib.Core.List.Memᴰ.tail k)))

    pub tier-replaced : TierAgain z img img' s t → SoundBut z img' (t ∷ but)
    tier-replaced a =
        let free-is : free_chain z img' ≡ free_chain z img = same-free_chain z img img' sound.fits.chains only.chains in
        record {
          bytes = only.image.bytes;
          shape = shape_same z img img' (only.globals headersOffset) (only.globals bulkCount) ∙ sound.shape;
          fits = record {
            valid = sound.fits.valid;
            frame = fits-same z img img' only.long (only.globals storeSize) sound.fits.frame;
            chains = same-chains-fit z img img' sound.fits.chains only.chains;
            entries = entries_fit a;
            chunks = record {
              marks =
                  λ s' h.
                  by-tier (MarksFit z img') a.marks s' h
                  (λ u mu ne. same-marks z img img' u (other s' h u mu ne) s' (sound.fits.chunks.marks s' h u mu));
              counters = counters-again;
              free =
                  λ u mu.
                  let mu₀ : Memᴰ u (free_chain z img) = subst (Memᴰ u) free-is mu in
                  let is : IsTier z u = free-tiers z img sound.fits.chains.free_fits u mu₀ in
                  let same : SameTier z img img' u = only.others u is (free-not-chained z img sound.fits.chains s t u hs m mu₀) in
                  same-free z img img' u same.slots same.marks (sound.fits.chunks.free u mu₀);
            };
          };
        }

    pub pairs-replaced : (F : Pair → ℕ) → total (pairs_of z img') F + weigh z img F t ≡ total (pairs_of z img) F + weigh z img' F t
    pairs-replaced F =
        let now : total (pairs_of z img') F ≡ total (chained z img) (weigh z img' F) =
        pairs-total z img' F ∙ ap (λ (l : List ℕ). total l (weigh z img' F)) (same-chained z img img' sound.fits.chains only.chains) in
        let each : Every (chained z img) (λ u. u ≢ t → weigh z img' F u ≡ weigh z img F u) =
        λ u mu ne.
        let w : (s' : ℕ) × (s' < segments) × Memᴰ u (chain z img s') = chained_in z img sound.fits.chains u mu in
        same-weigh z img img' u (other w.0 w.1 u w.2 ne) w.0 (other_fits w.0 w.1 u w.2 ne).slots_fit F in
        omega (
          arith,
          now,
          pairs-total z img F,
          total-change (chained z img) t (weigh z img F) (weigh z img' F) (chained-once z img sound.fits.chains s t hs m) each,
        )
