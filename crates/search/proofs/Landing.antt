-- Where every slot is reached and no key has two slots, each full slot's key is found in that slot.
use Prim.Native.Nat.{ℕ, ◌≤◌, ◌<◌}
use mathlib.Core.List.{List, [], ◌∷◌, Memᴰ}
use mathlib.Core.Path.{◌≡◌, refl, ap, sym, ◌∙◌}
use mathlib.Core.Logic.{⊎_elim, ◌≢◌}
use mathlib.Core.Bool.{false, false≢true}
use native.Mathlib.Omega.{arith}
use lib.Dec.{eqb}
use borrow.Author.Tests.{ne_eqb}
use Rattle.lists.specs.Cases.{by-test, same_or, lt-or}
use Rattle.lists.specs.Quantify.{Below, Every}
use Rattle.layout.specs.declared.Shape.{Shape}
use Rattle.layout.specs.Tiers.{IsTier}
use Rattle.layout.specs.Frame.{Image}
use Rattle.chains.specs.Chains.{chain}
use Rattle.probe.specs.Ring.{dist}
use Rattle.probe.specs.Table.{Empty as EmptySlot, Good}
use Rattle.probe.specs.Search.{ends}
use Rattle.probe.proofs.Ring.{dist-inj}
use Rattle.probe.proofs.Search.{First, seek-first, seek_hit, seek_finds}
use Rattle.entries.specs.Keys.{segment_of, lookup_key, start, slot_key}
use Rattle.entries.specs.Live.{slot_at}
use Rattle.entries.proofs.Hashes.{start-lt}
use Rattle.search.specs.declared.Found.TheVariants.{At}
use Rattle.search.specs.Search.{slots_of, hits, seek_in, search_from, search}
use Rattle.search.specs.Rules.{keyAt, start_at, Reached, SomeEmpty, SlotsFit, KeysOnce}
use Rattle.search.specs.Reach.{Alone}
use Rattle.search.specs.Landing.{Lands}
use Rattle.search.proofs.Slots.{slots-lawful}
use Rattle.search.proofs.Finding.{hits-key, hits-own, sought-empty, sought-holds, search-here, search-on, seek_in-lt}

module _ (z : Shape) (img : List ℕ) where
  open z use {settings}
  open settings use {segments, slots}

  -- ---- in an image whose slots fit one by one

  module _ (im : Image z img) (t : ℕ) (is : IsTier z t) (some : SomeEmpty z img t) where
    some-empty : EmptySlot (slots_of z t) img some.0
    some-empty = record { lt = some.1.0; free = some.1.1 }

    module _ (key : List ℕ) where
      -- a full slot where the search ends stands for the key
      pub seek-key : slot_at z img t (seek_in z img key t) ≢ 0 → keyAt z img t (seek_in z img key t) ≡ key
      unfolding seek_in
      seek-key ne =
          hits-key z img key t (seek_in z img key t)
          (seek_hit (slots_of z t) (slots-lawful im.framed t is) img _ some.0 (start-lt im.framed.valid _) some-empty (hits z img key t) ne)

    -- a reached slot with no slot for its key on its way is where the search for its key ends
    pub alone-seek : (j : ℕ) → j < slots → lookup_key settings (keyAt z img t j) ≡ slot_key settings (slot_at z img t j) → Reached z img t j
        → Alone z img t j → seek_in z img (keyAt z img t j) t ≡ j
    unfolding seek_in
    alone-seek j hj l reached alone =
        let key : List ℕ = keyAt z img t j in
        let a : ℕ = start settings (lookup_key settings key) in
        let from : start_at z img t j ≡ a = ap (start settings) (sym l) in
        let hs : a < slots = start-lt im.framed.valid (lookup_key settings key) in
        let f : First slots (ends (slots_of z t) (hits z img key t) img) a (seek_in z img key t) =
        seek-first (slots_of z t) (slots-lawful im.framed t is) img a some.0 hs some-empty (hits z img key t) in
        let r : ℕ = seek_in z img key t in
        ⊎_elim
        (λ (d : dist slots a j < dist slots a r).
        absurd (false≢true (sym (f.before j hj d) ∙ by-test (eqb (slot_at z img t j) 0) (λ b. rw b) (λ b. rw (b, hits-own z img key t j (sym l) refl)))))
        (λ (d : dist slots a r ≤ dist slots a j).
        ⊎_elim
        (λ (e : dist slots a r < dist slots a j).
        let full : slot_at z img t r ≢ 0 = reached r f.lt (rw from d) in
        let other : hits z img key t (slot_at z img t r) ≡ false = alone r f.lt (rw from e) in
        absurd (false≢true (sym (rw (ne_eqb (slot_at z img t r) 0 full, other)) ∙ f.stops)))
        (λ (e : dist slots a j ≤ dist slots a r). let same : dist slots a r ≡ dist slots a j = omega arith in dist-inj slots hs f.lt hj same)
        (lt-or (dist slots a r) (dist slots a j)))
        (lt-or (dist slots a j) (dist slots a r))

    -- every full slot is reached: the table is good
    pub good : Below slots (λ j. slot_at z img t j ≢ 0 → Reached z img t j) → Good (slots_of z t) img
    good r j k hj hk fj on = r j hj fj k hk on

    -- a full slot that stands for the key is met
    pub seek-full : (key : List ℕ) → Below slots (λ j. slot_at z img t j ≢ 0 → Reached z img t j) → (j : ℕ) → j < slots → slot_at z img t j ≢ 0
        → slot_key settings (slot_at z img t j) ≡ lookup_key settings key → keyAt z img t j ≡ key → slot_at z img t (seek_in z img key t) ≢ 0
    unfolding seek_in
    seek-full key r j hj fj l k =
        seek_finds (slots_of z t) (slots-lawful im.framed t is) img _ some.0 (start-lt im.framed.valid _) some-empty (hits z img key t)
        (good r) j hj fj
        (ap (start settings) l)
        (hits-own z img key t j l k)

  -- ---- a whole chain

  abbrev pub AllReached : ℕ → Type 0
  AllReached s = Every (chain z img s) (λ t. Below slots (λ j. slot_at z img t j ≢ 0 → Reached z img t j))

  module _ (im : Image z img) (s : ℕ) (tiers_of : Every (chain z img s) (IsTier z)) (fits : Every (chain z img s) (SlotsFit z img s)) where
    -- two slots with one key would both be where the one search ends
    pub lands-once : Lands z img s → KeysOnce z img s
    lands-once l t mt j hj fj u mu k hk fk e =
        let both : At t j ≡ At u k = sym (l t mt j hj fj) ∙ ap (search z img) e ∙ l u mu k hk fk in
        let p : t ≡ u = cc in
        let q : j ≡ k = cc in
        (p, q)

    -- the search through the tiers ts of the chain, of which t is one
    module _ (once : KeysOnce z img s) (reached : AllReached s) (t : ℕ) (mt : Memᴰ t (chain z img s)) (j : ℕ) (hj : j < slots)
        (fj : slot_at z img t j ≢ 0) where
      lands-from : (ts : List ℕ) → Every ts (λ u. Memᴰ u (chain z img s)) → Memᴰ t ts → (u i : ℕ)
          → search_from z img (keyAt z img t j) u i ts ≡ At t j
      lands-from [] part m u i = absurd (mathlib.Core.List.Memᴰ.not-nil m)
      lands-from (x ∷ ts) part m u i =
          let mx : Memᴰ x (chain z img s) = part x (mathlib.Core.List.Memᴰ.head refl) in
          let k : ℕ = seek_in z img (keyAt z img t j) x in
          let lt : k < slots = seek_in-lt z img im.framed (keyAt z img t j) x in
          ⊎_elim
          (λ (h : slot_at z img x k ≡ 0).
          ⊎_elim
          (λ (e : t ≡ x).
          absurd
          (seek-full im t (tiers_of t mt) (fits t mt).some_empty (keyAt z img t j) (reached t mt) j hj fj
          (sym ((fits t mt).full j hj fj).hashed.lookup_agrees) refl
          (rw (← e) at h)))
          (λ (mr : Memᴰ t ts).
          search-on z img (keyAt z img t j) u i x k ts (sought-empty z img (keyAt z img t j) x h)
          ∙ lands-from ts (λ y my. part y (mathlib.Core.List.Memᴰ.tail my)) mr x k)
          (mathlib.Core.List.Memᴰ.cases_cons m))
          (λ (h : slot_at z img x k ≢ 0).
          let own : keyAt z img x k ≡ keyAt z img t j = seek-key im x (tiers_of x mx) (fits x mx).some_empty (keyAt z img t j) h in
          let same-slot : (t ≡ x) × (j ≡ k) = once t mt j hj fj x mx k lt h (sym own) in
          let p : t ≡ x = same-slot.0 in
          let q : j ≡ k = same-slot.1 in
          search-here z img (keyAt z img t j) u i x k ts (sought-holds z img (keyAt z img t j) x h) ∙ sym (cc))
          (same_or (slot_at z img x k) 0)

      pub lands : search z img (keyAt z img t j) ≡ At t j
      unfolding search
      lands =
          let e : segment_of settings (keyAt z img t j) ≡ s = ((fits t mt).full j hj fj).hashed.segment_agrees in
          rw e (lands-from (chain z img s) (λ y my. my) mt 0 0)

    pub all-land : KeysOnce z img s → AllReached s → Lands z img s
    all-land once reached t mt j hj fj = lands once reached t mt j hj fj
