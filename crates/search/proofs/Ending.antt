-- Where the search for the key of a full slot ends: at that slot or before it.
use Prim.Native.Nat.{ℕ, suc, ◌+◌, ◌-◌, ◌≤◌, ◌<◌}
use mathlib.Core.List.{List}
use mathlib.Core.Path.{◌≡◌, refl, ap, sym, ◌∙◌, subst}
use mathlib.Core.Logic.{◌≢◌}
use mathlib.Core.Bool.{Bool, true, false}
use native.Mathlib.Omega.{arith}
use lib.ListN.{length}
use Rattle.lists.specs.Decide.{Decides}
use Rattle.layout.specs.declared.Shape.{Shape}
use Rattle.layout.specs.Tiers.{tiers, IsTier}
use Rattle.layout.specs.Frame.{Framed}
use Rattle.chains.specs.Chains.{chain, next_of}
use Rattle.chains.proofs.Segments.{segments-le}
use Rattle.probe.specs.Ring.{next, dist}
use Rattle.probe.proofs.Ring.{dist-lt, dist-nearer}
use Rattle.entries.specs.Keys.{segment_of, lookup_key, start, slot_key}
use Rattle.entries.specs.Live.{slot_at}
use Rattle.search.specs.declared.Sought.TheVariants.{Holds, Empty}
use Rattle.search.specs.declared.Found.TheVariants.{At}
use Rattle.search.specs.Search.{hits, seek_in, sought_in, search, ChainTiers}
use Rattle.search.specs.Rules.{keyAt, EntryFits}
use Rattle.search.proofs.Finding.{hits-own, sought-holds, found_at}
use Rattle.search.proofs.Seeking.{Seeking, seek-starts, seek-empty, seek_found, seek-turns, Searching, search-starts, searching-ends, searching-out, searching-tier, searching-found, searching-turns}
use Rattle.search.proofs.Fitting.{never_both, same-tier}

-- ---- in the slot's own tier: the loop of `ends_at`

module _ (z : Shape) (img : List ℕ) (t j : ℕ) where
  open z use {settings}
  open settings use {slots}

  abbrev key : List ℕ
  key = keyAt z img t j

  -- the search has come to slot i, and has steps enough left for slot j
  pub record Coming (i : ℕ) : Type 0 where
    pub left : ℕ
    pub seeking : Seeking z img key t i left
    pub enough : dist slots i j < left

  module _ (hj : j < slots) where
    pub coming-starts : (i lookup : ℕ) → lookup ≡ lookup_key settings key → i ≡ start settings lookup → i < slots → Coming i
    coming-starts i lookup e q h = record { left = slots; seeking = seek-starts z img key t i lookup e q h; enough = dist-lt slots h hj }

    module _ {i : ℕ} (w : Coming i) where
      module _ (ne : i ≢ j) (v : ℕ) (ev : v ≡ slot_at z img t i) where
        pub coming-empty : v ≡ 0 → seek_in z img key t ≡ j → ⊥
        coming-empty e q = ne (seek-empty z img key t w.seeking v ev e ∙ q)

        pub coming-hit : hits z img key t v ≡ true → seek_in z img key t ≡ j → ⊥
        coming-hit e q = ne (seek_found z img key t w.seeking v ev e ∙ q)

        module _ (fr : Framed z (length img)) where
          pub coming-nearer : (k : ℕ) → k ≡ next slots i → dist slots i j ≡ suc (dist slots k j)
          coming-nearer k ek = rw ek (dist-nearer slots w.seeking.lt hj (omega (arith, fr.valid.slots)) ne)

          pub coming-turns : v ≢ 0 → hits z img key t v ≡ false → (k : ℕ) → k ≡ next slots i → Coming k
          coming-turns n e k ek =
              let d : dist slots i j ≡ suc (dist slots k j) = coming-nearer k ek in
              let l : dist slots i j < w.left = w.enough in
              record { left = w.left - 1; seeking = seek-turns z img key t w.seeking fr v ev n e (omega arith) k ek; enough = omega arith }

      -- slot j stands for its own key
      pub coming-found : lookup_key settings key ≡ slot_key settings (slot_at z img t j) → i ≡ j → seek_in z img key t ≡ j
      coming-found l q =
          let h : hits z img key t (slot_at z img t i) ≡ true = rw q (hits-own z img key t j (sym l) refl) in
          sym (seek_found z img key t w.seeking (slot_at z img t i) refl h) ∙ q

-- ---- in the tiers of its chain: the loop of `comes_to`

module _ (z : Shape) (img key : List ℕ) (t : ℕ) where
  open z use {settings}
  open settings use {segments}

  -- the search has come to tier u, after k tiers
  pub record Reaching (most u k : ℕ) : Type 0 where
    pub tier : ℕ
    pub slot : ℕ
    pub searching : Searching z img key most u tier slot k

  pub reaching-starts : (most u s : ℕ) → most ≡ tiers z → u ≡ s + 1 → s ≡ segment_of settings key → s < segments → ChainTiers z img
      → Reaching most u 0
  reaching-starts most u s em eu es hs ts = record { tier = 0; slot = 0; searching = search-starts z img key most u s em eu es hs ts }

  module _ {most u k : ℕ} (w : Reaching most u k) where
    pub reaching-ends : u ≡ 0 → (j : ℕ) → search z img key ≡ At t j → ⊥
    reaching-ends e j q = never_both (search z img key) t j _ _ q (sym (searching-ends z img key w.searching e))

    pub reaching-out : most ≤ k → (j : ℕ) → search z img key ≡ At t j → ⊥
    reaching-out h j q = never_both (search z img key) t j _ _ q (sym (searching-out z img key w.searching h))

    module _ (h : k < most) where
      pub reaching-here : IsTier z t → sought_in z img key t ≡ Holds (seek_in z img key t) → u ≡ t → search z img key ≡ At t (seek_in z img key t)
      reaching-here is holds q =
          let ne : u ≢ 0 = omega (arith, is) in
          let f : At u (seek_in z img key t) ≡ search z img key = searching-found z img key w.searching h ne _ (rw q holds) in
          sym (rw q at f)

      module _ (ne : u ≢ 0) where
        pub reaching-tier : IsTier z u
        reaching-tier = searching-tier z img key w.searching h ne

        pub reaching-wrong : (i : ℕ) → sought_in z img key u ≡ Holds i → u ≢ t → (j : ℕ) → search z img key ≡ At t j → ⊥
        reaching-wrong i e other j q = other (same-tier (search z img key) t j u i q (sym (searching-found z img key w.searching h ne i e)))

        pub reaching-turns : (i : ℕ) → sought_in z img key u ≡ Empty i → (n : ℕ) → n ≡ next_of z img u → Reaching most n (k + 1)
        reaching-turns i e n en = record { tier = u; slot = i; searching = searching-turns z img key w.searching h ne i e n en }

-- ---- what is asked of a full slot

module _ (z : Shape) (img : List ℕ) (t j : ℕ) where
  open z use {settings}
  open settings use {segments}

  abbrev own : List ℕ
  own = keyAt z img t j

  -- a key that is found in a slot is found there by the search in its tier
  pub lands_in : search z img own ≡ At t j → seek_in z img own t ≡ j
  unfolding search
  lands_in q = (found_at z img own 0 0 (chain z img (segment_of settings own)) t j q).0

  module _ (e : seek_in z img own t ≡ j) where
    -- in the first tier of its chain a slot is met at once
    pub lands-first : (s : ℕ) → EntryFits z img s t j → s < segments → ChainTiers z img → IsTier z t → slot_at z img t j ≢ 0 → t ≡ s + 1
        → search z img own ≡ At t j
    lands-first s fits hs ts is full q =
        reaching-here z img own t (reaching-starts z img own t (tiers z) (s + 1) s refl refl (sym fits.hashed.segment_agrees) hs ts)
        (omega (arith, segments-le z img)) is
        (sought-holds z img own t (rw e full))
        (sym q)
        ∙ ap (At t) e

    -- the key, as the code cuts it out
    module _ (k : List ℕ) (ek : k ≡ own) where
      pub lands-holds : slot_at z img t j ≢ 0 → sought_in z img k t ≡ Holds (seek_in z img k t)
      lands-holds full = sought-holds z img k t (rw (ek, e) full)

      pub lands-decided : (b : Bool) → Decides b (search z img k ≡ At t (seek_in z img k t)) → Decides b (search z img own ≡ At t j)
      lands-decided b d =
          let d₁ : Decides b (search z img own ≡ At t (seek_in z img own t)) =
          subst (λ (x : List ℕ). Decides b (search z img x ≡ At t (seek_in z img x t))) ek d in
          subst (λ (x : ℕ). Decides b (search z img own ≡ At t x)) e d₁
