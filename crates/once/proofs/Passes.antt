-- All passes together, and a pass that is decided by searches.
use Prim.Native.Nat.{ℕ, ◌+◌, ◌%◌, ◌^◌, ◌<◌}
use mathlib.Core.Path.{◌≡◌, refl, ap, sym, ◌∙◌, subst}
use mathlib.Core.List.{List, Memᴰ}
use mathlib.Core.Logic.{⊎_elim, ◌≢◌}
use mathlib.Core.Bool.{Bool, true, false}
use native.Mathlib.Omega.{arith}
use native.Mathlib.Nat.{mod-lt, mod-one, one-le-pow}
use Rattle.lists.specs.Cases.{same_or}
use Rattle.lists.specs.Decide.{Decides}
use Rattle.lists.specs.Quantify.{Below, Every}
use Rattle.layout.specs.declared.Shape.{Shape}
use Rattle.layout.specs.Tiers.{IsTier}
use Rattle.layout.specs.Frame.{Image}
use Rattle.entries.specs.Live.{slot_at, full_slots}
use Rattle.entries.proofs.LiveLists.{in_full_slots}
use Rattle.chains.specs.Chains.{chain}
use Rattle.search.specs.declared.Found.TheVariants.{At}
use Rattle.search.specs.Search.{seek_in, search}
use Rattle.search.specs.Rules.{keyAt, KeysOnce}
use Rattle.search.specs.Rules.{EntryFits, TierSlotsFit}
use Rattle.search.specs.Reach.{Alone}
use Rattle.search.specs.Landing.{LandsAt}
use Rattle.search.proofs.Landing.{alone-seek, all-land, lands-once as landing_lands_once}
use Rattle.search.proofs.Ending.{lands-first}
use Rattle.gather.specs.Rows.{Place}
use Rattle.gather.proofs.Meeting.{once-passes}
use Rattle.gather.proofs.Rows.{same_place, rows-once}
use Rattle.once.specs.declared.Sharing.{Sharing}
use Rattle.once.specs.Sharing.{pass_for, number_of}
use Rattle.once.specs.Refs.{SameKey, IsFull}
use Rattle.once.specs.Walk.{PassLands, PassSays}
use Rattle.once.specs.Asking.{ReadChain, FirstAlone}

module _ (z : Shape) (img : List ℕ) (by : Sharing) (s : ℕ) where
  open z use {settings}
  open settings use {slots}

  -- the pass that takes a slot
  abbrev pass_at : Place → ℕ
  pass_at a = pass_for by.passBits (number_of by settings (keyAt z img a.0 a.1))

  pass-few : (a : Place) → pass_at a < 2 ^ by.passBits
  unfolding pass_for
  pass-few a = mod-lt _ (one-le-pow by.passBits 2 (omega arith))

  -- no key twice, if no pass meets one twice
  pub keys-once : Below (2 ^ by.passBits) (λ p. PassSays z img by p s true) → KeysOnce z img s
  keys-once f =
      rows-once slots (IsFull z img) (SameKey z img) (chain z img s)
      (once-passes (SameKey z img) _ pass_at (2 ^ by.passBits) (λ a b ha hb e. ap (λ (k : List ℕ). pass_for by.passBits (number_of by settings k)) e)
      (λ a _. pass-few a)
      (λ p h a b ha hb e. f p h a b (ha.0.0, (ha.0.1.0, (ha.0.1.1, ha.1))) (hb.0.0, (hb.0.1.0, (hb.0.1.1, hb.1))) e))

  -- what a pass answered, with the equation that it is taken by
  module _ (p : ℕ) (b : Bool) (says : PassSays z img by p s b) where
    pub pass_true : b ≡ true → PassSays z img by p s true
    pass_true e = subst (PassSays z img by p s) e says

    pub pass-false : b ≡ false → KeysOnce z img s → ⊥
    pass-false e = let y : PassSays z img by p s false = subst (PassSays z img by p s) e says in y

  -- ---- by searches

  module _ (p : ℕ) where
    -- a key that is found in two slots has one
    lands-once : Every (chain z img s) (PassLands z img by p) → PassSays z img by p s true
    lands-once f a b ha hb e =
        let x : search z img (keyAt z img a.0 a.1) ≡ At a.0 a.1 = f a.0 ha.0 a.1 ha.1.0 ha.1.1 in
        let y : search z img (keyAt z img b.0 b.1) ≡ At b.0 b.1 = f b.0 hb.0 b.1 hb.1.0 hb.1.1 in
        let both : At a.0 a.1 ≡ At b.0 b.1 = sym x ∙ ap (search z img) e ∙ y in
        let q : a.0 ≡ b.0 = cc in
        let r : a.1 ≡ b.1 = cc in
        same_place a b q r

    pub once-lands : Image z img → ReadChain z img s → KeysOnce z img s → Every (chain z img s) (PassLands z img by p)
    once-lands im r once t m j h k =
        let c : _ = r.fitting in
        all-land z img im s (c.chains.chain_tiers s c.segment_in) (λ u mu. (r.slots_fit u mu).slots_fit) once (λ u mu. (r.slots_fit u mu).reached)
        t m j h k.0

    pub landed : Image z img → ReadChain z img s → (b : Bool) → Decides b (Every (chain z img s) (PassLands z img by p)) → PassSays z img by p s b
    landed im r true d = lands-once d
    landed im r false d = λ once. d (once-lands im r once)

-- ---- a chain in whose first tier each key is alone

module _ (z : Shape) (img : List ℕ) (s : ℕ) where
  open z use {settings}
  open settings use {slots}

  -- where one pass takes every key: the keys of tier u, unless it is the first, are found in their own slots
  abbrev pub LaterLands : Sharing → ℕ → Type 0
  LaterLands by u = u ≢ s + 1 → PassLands z img by 0 u

  pub first-lands : (by : Sharing) → LaterLands by (s + 1)
  first-lands by n = absurd (n refl)

  module _ (im : Image z img) (c : FirstAlone z img s) (by : Sharing) where
    abbrev read : ReadChain z img s
    read = c.reads

    tier_of : (t : ℕ) → Memᴰ t (chain z img s) → IsTier z t
    tier_of t m = read.fitting.chains.chain_tiers s read.fitting.segment_in t m

    -- of the first tier: by the way to each slot
    alone-lands : (t : ℕ) → Memᴰ t (chain z img s) → t ≡ s + 1 → (j : ℕ) → j < slots → slot_at z img t j ≢ 0 → LandsAt z img t j
    alone-lands t m e j h full =
        let f : TierSlotsFit z img s t = read.slots_fit t m in
        let alone : Alone z img t j =
        subst (λ (x : ℕ). Every (full_slots z img x) (Alone z img x)) (sym e) c.alone j (in_full_slots z img t j h full) in
        let fits : EntryFits z img s t j = f.slots_fit.full j h full in
        let ends : seek_in z img (keyAt z img t j) t ≡ j =
        alone-seek z img im t (tier_of t m) f.slots_fit.some_empty j h fits.hashed.lookup_agrees (f.reached j h full) alone in
        lands-first z img t j ends s fits read.fitting.segment_in read.fitting.chains.chain_tiers (tier_of t m) full e

    pub later-once : by.passBits ≡ 0 → Every (chain z img s) (LaterLands by) → KeysOnce z img s
    unfolding pass_for
    later-once e f =
        landing_lands_once z img im s (λ t m. tier_of t m) (λ t m. (read.slots_fit t m).slots_fit)
        (λ t m j h full. ⊎_elim
        (λ (q : t ≡ s + 1). alone-lands t m q j h full)
        (λ (q : t ≢ s + 1). f t m q j h (full, ap (λ (b : ℕ). number_of by settings (keyAt z img t j) % 2 ^ b) e ∙ mod-one _))
        (same_or t (s + 1)))

    pub later-twice : (t : ℕ) → Memᴰ t (chain z img s) → (PassLands z img by 0 t → ⊥) → KeysOnce z img s → ⊥
    later-twice t m n once = n (once-lands z img by s 0 im read once t m)
