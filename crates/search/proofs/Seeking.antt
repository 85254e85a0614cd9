-- What the loops of `seek` and `search` keep: what is left gives the same as the whole.
use Prim.Native.Nat.{ℕ, ◌+◌, ◌-◌, ◌≤◌, ◌<◌}
use mathlib.Core.List.{List, [], ◌∷◌, ◌++◌, append-nil}
use mathlib.Core.Path.{◌≡◌, refl, ap, sym, ◌∙◌}
use mathlib.Core.Logic.{◌≢◌}
use mathlib.Core.Bool.{true, false}
use native.Mathlib.Omega.{arith}
use Rattle.std.specs.Prelude.{Some, None}
use lib.ListN.{length}
use lib.Seq.{append_snoc}
use borrow.Author.Tests.{eq-eqb, ne_eqb}
use Rattle.lists.specs.Quantify.{Below, Every}
use Rattle.words.specs.Bytes.{same, cut}
use Rattle.layout.specs.declared.Shape.{Shape}
use Rattle.layout.specs.Tiers.{tiers, IsTier}
use Rattle.layout.specs.Frame.{Framed}
use Rattle.chains.specs.Chains.{chain, next_of}
use Rattle.chains.proofs.Along.{AlongChain, chain-starts, chain-ends, chain-out, chain-splits, chain_in, chain-turns}
use Rattle.probe.specs.Ring.{next}
use Rattle.probe.proofs.Seeking as probe
use Rattle.entries.specs.declared.Entry.{Entry}
use Rattle.entries.specs.Keys.{segment_of, lookup_key, start, slot_key, slot_chunk}
use Rattle.entries.specs.Stored.{stored}
use Rattle.entries.specs.Live.{slot_at}
use Rattle.search.specs.declared.Sought.TheVariants.{Holds, Empty}
use Rattle.search.specs.declared.Found.TheVariants.{At, Absent}
use Rattle.search.specs.Search.{slots_of, hits, seek_in, search_from, search, sought_in}
use Rattle.search.proofs.Finding.{sought-empty, sought-holds, search-here, search-on, search-end}

module _ (z : Shape) (img key : List ℕ) (t : ℕ) where
  open z use {settings}
  open settings use {slots}

  -- ---- a hit, path by path

  pub hits-differs : (v lookup : ℕ) → lookup ≡ lookup_key settings key → slot_key settings v ≢ lookup → hits z img key t v ≡ false
  unfolding hits
  hits-differs v lookup e n = rw (ne_eqb (slot_key settings v) (lookup_key settings key) (λ q. n (q ∙ sym e)), hits)

  module _ (v lookup c : ℕ) (e : lookup ≡ lookup_key settings key) (k : slot_key settings v ≡ lookup) (ec : c ≡ slot_chunk settings v) where
    pub hits-broken : stored z img t c ≡ None → same (cut img 0 0) key ≡ hits z img key t v
    unfolding hits
    hits-broken b =
        let b' : stored z img t (slot_chunk settings v) ≡ None = ap (stored z img t) (sym ec) ∙ b in
        rw (eq-eqb (slot_key settings v) (lookup_key settings key) (k ∙ e), hits, b')

    pub hits-whole : (x : Entry) → stored z img t c ≡ Some x → same (cut img x.keyAt x.keyLength) key ≡ hits z img key t v
    unfolding hits
    hits-whole x w =
        let w' : stored z img t (slot_chunk settings v) ≡ Some x = ap (stored z img t) (sym ec) ∙ w in
        rw (eq-eqb (slot_key settings v) (lookup_key settings key) (k ∙ e), hits, w')

  -- ---- the loop of `seek`, over the tier's slots as a table

  abbrev pub Seeking : ℕ → ℕ → Type 0
  Seeking = probe.Seeking (slots_of z t) (hits z img key t) img (start settings (lookup_key settings key))

  pub seek-starts : (i lookup : ℕ) → lookup ≡ lookup_key settings key → i ≡ start settings lookup → i < slots → Seeking i slots
  seek-starts i lookup e q h = probe.seek-starts (slots_of z t) (hits z img key t) img _ i (q ∙ ap (start settings) e) h

  module _ {i left : ℕ} (w : Seeking i left) where
    module _ (v : ℕ) (ev : v ≡ slot_at z img t i) where
      -- the slot is empty, or it stands for the key
      pub seek-empty : v ≡ 0 → i ≡ seek_in z img key t
      unfolding seek_in
      seek-empty e = probe.seek-empty (slots_of z t) (hits z img key t) img _ w v ev e

      pub seek_found : hits z img key t v ≡ true → i ≡ seek_in z img key t
      unfolding seek_in
      seek_found h = probe.seek_found (slots_of z t) (hits z img key t) img _ w v ev h

    pub seek-turns : Framed z (length img) → (v : ℕ) → v ≡ slot_at z img t i → v ≢ 0 → hits z img key t v ≡ false → 0 < left
        → (j : ℕ) → j ≡ next slots i → Seeking j (left - 1)
    seek-turns fr v ev n h pos j ej =
        probe.seek-turns (slots_of z t) (hits z img key t) img _ w v ev (omega (arith, fr.valid.slots)) n h pos j ej

    -- ---- what it answers

    pub seek-ends-empty : (v : ℕ) → v ≡ slot_at z img t i → v ≡ 0 → Empty i ≡ sought_in z img key t
    seek-ends-empty v e q =
        let is : i ≡ seek_in z img key t = seek-empty v e q in
        ap Empty is ∙ sym (sought-empty z img key t (ap (slot_at z img t) (sym is) ∙ sym e ∙ q))

    ends-full : i ≡ seek_in z img key t → slot_at z img t i ≢ 0 → Holds i ≡ sought_in z img key t
    ends-full is n = ap Holds is ∙ sym (sought-holds z img key t (λ q. n (ap (slot_at z img t) is ∙ q)))

    pub seek-ends-holds : (v : ℕ) → v ≡ slot_at z img t i → v ≢ 0 → hits z img key t v ≡ true → Holds i ≡ sought_in z img key t
    seek-ends-holds v e n q = ends-full (seek_found v e q) (λ x. n (e ∙ x))

    -- no slot is left, so none is empty
    pub seek-ends-out : left ≤ 0 → Holds i ≡ sought_in z img key t
    unfolding seek_in
    seek-ends-out h = ends-full (probe.seek-out (slots_of z t) (hits z img key t) img _ w h) (λ q. omega (arith, w.ahead i w.lt q))

-- ---- the loop of `search`

module _ (z : Shape) (img key : List ℕ) where
  open z use {settings}
  open settings use {segments, slots}

  -- the tiers of done were met, and the search ended empty in each; the last was u, at slot i
  pub record Searching (most t u i k : ℕ) : Type 0 where
    pub done : List ℕ
    pub along : AlongChain z img (segment_of settings key) most done t k
    pub tiers_of : Every (chain z img (segment_of settings key)) (IsTier z)
    pub passed : (ts : List ℕ) → search_from z img key 0 0 (done ++ ts) ≡ search_from z img key u i ts

  pub search-starts : (most t s : ℕ) → most ≡ tiers z → t ≡ s + 1 → s ≡ segment_of settings key → s < segments
      → Below segments (λ s. Every (chain z img s) (IsTier z))
      → Searching most t 0 0 0
  search-starts most t s em et es h c =
      record {
        done = [];
        along = chain-starts z img (segment_of settings key) em (et ∙ ap (λ (q : ℕ). q + 1) es);
        tiers_of = rw es at (c s h);
        passed = λ ts. refl;
      }

  module _ {most t u i k : ℕ} (w : Searching most t u i k) where
    all-passed : w.done ≡ chain z img (segment_of settings key) → Absent u i ≡ search z img key
    unfolding search
    all-passed e = sym (ap (search_from z img key 0 0) (sym e ∙ sym (append-nil w.done)) ∙ w.passed [] ∙ search-end z img key u i)

    pub searching-ends : t ≡ 0 → Absent u i ≡ search z img key
    searching-ends e = all-passed (chain-ends z img _ w.along e)

    pub searching-out : most ≤ k → Absent u i ≡ search z img key
    searching-out h = all-passed (chain-out z img _ w.along h)

    module _ (h : k < most) (ne : t ≢ 0) where
      pub searching-tier : IsTier z t
      searching-tier = w.tiers_of t (chain_in z img _ w.along h ne)

      pub searching-found : (j : ℕ) → sought_in z img key t ≡ Holds j → At t j ≡ search z img key
      unfolding search
      searching-found j f =
          sym (ap (search_from z img key 0 0) (chain-splits z img _ w.along h ne) ∙ w.passed _ ∙ search-here z img key u i t j _ f)

      pub searching-turns : (j : ℕ) → sought_in z img key t ≡ Empty j → (n : ℕ) → n ≡ next_of z img t → Searching most n t j (k + 1)
      searching-turns j f n en =
          record {
            done = w.done ++ (t ∷ []);
            along = chain-turns z img _ w.along h ne en;
            tiers_of = w.tiers_of;
            passed = λ ts. ap (search_from z img key 0 0) (append_snoc w.done t ts) ∙ w.passed (t ∷ ts) ∙ search-on z img key u i t j ts f;
          }
