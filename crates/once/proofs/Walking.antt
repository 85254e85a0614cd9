-- What the loops over a tier's slots and over a chain's tiers keep in a pass.
use Prim.Native.Nat.{ℕ, ◌+◌, ◌-◌, ◌/◌, ◌%◌, ◌≤◌, ◌<◌}
use mathlib.Core.Path.{◌≡◌, refl, sym, ◌∙◌, subst}
use mathlib.Core.List.Memᴰ
use mathlib.Core.List.{List, [], ◌∷◌, ◌++◌, Memᴰ}
use mathlib.Core.Logic.{inl, inr, ⊎_elim, ◌≢◌}
use native.Mathlib.Omega.{arith}
use lib.ListN.{length, length-set, get_or, set, replicate, length-replicate, get_or-replicate}
use Rattle.lists.specs.Cases.{lt-or, same_or}
use Rattle.lists.specs.Decide.{Decides}
use Rattle.lists.specs.Quantify.{Below}
use Rattle.settings.specs.Rules.{PowerOfTwo}
use Rattle.layout.specs.declared.Shape.{Shape}
use Rattle.chains.specs.Chains.{chain, next_of}
use Rattle.search.specs.Rules.{KeysOnce}
use Rattle.search.specs.Asking.{FittingSlot}
use Rattle.std.specs.Prelude.{Option, Some, None, Result, Ok, Err, unwrap_or}
use Rattle.std.specs.Option.{MatchOption}
use Rattle.gather.specs.declared.Stopped.{Stopped}
use Rattle.gather.specs.Once.{Twin}
use Rattle.gather.specs.Rows.{Place, InRows}
use Rattle.gather.proofs.Adding.{found, lacks, takes, adds}
use Rattle.gather.proofs.Meeting.{passed_none, passed-same, passed-twin, passed-more}
use Rattle.gather.proofs.Rows.{begins, begins-only, ends, ends-only, one-there}
use Rattle.once.specs.declared.Sharing.{Sharing}
use Rattle.once.specs.Refs.{ref_to, meant, SameKey, InPass, ref_table, seek_ref}
use Rattle.once.specs.Walk.{before, Keeps, MetUpTo, MetThrough, MetAll, StopSays, MetSays, NextInPass}
use Rattle.once.specs.Asking.{HasPlaces, ReadChain, ReadPass, ReadTier, ReadSlot, ReadFrom, CanSeek, CanMeet, CanWalk, CanPass}
use Rattle.once.proofs.Refs.{tier-back, slot-back, ref-full, tests, starts, lawful}
use Rattle.once.proofs.Reading.{chain-tier, fitting-slot, looks}
use Rattle.once.proofs.Tiers.{before-not, before_in, AlongTiers, tiers-start, tiers-end, tiers_in_lem, tiers-turn, tiers-before}

-- ---- what an answer says, with the equation that it is taken by

module _ (z : Shape) (img : List ℕ) (by : Sharing) (s : ℕ) (P : Place → Type 0) (m : List ℕ) (r : Result ℕ Stopped)
    (says : MetSays z img by s P m r) where
  pub says-stopped : (why : Stopped) → r ≡ Err why → StopSays z img by s why
  says-stopped why e = subst (MetSays z img by s P m) e says

  pub says-fresh : (left : ℕ) → r ≡ Ok left → Keeps z img by m left P
  says-fresh left e = let y : MetSays z img by s P m (Ok left) = subst (MetSays z img by s P m) e says in y

same-places : {m m₀ : List ℕ} → length m ≡ length m₀ → HasPlaces m₀ → HasPlaces m
same-places e h = record { two = rw e h.two; power = rw e h.power; few = rw e h.few }

-- ---- what `next_in_pass` finds

module _ (z : Shape) (img : List ℕ) (by : Sharing) (p t from : ℕ) where
  open z use {settings}
  open settings use {slots}

  pub reads-slot : {s : ℕ} → ReadFrom z img by s t from → (j : ℕ) → j < slots → ReadSlot z img by s t j
  reads-slot c j h = record { tier = c.tier; slot_in = h }

  -- the first that it takes by the hash, where there is one
  pub next-from : (r : Option ℕ) → from ≤ slots
      → MatchOption r ((k : ℕ) → from ≤ k → k < slots → InPass z img by p t k → ⊥)
      (λ i. (from ≤ i) × (i < slots) × InPass z img by p t i × ((k : ℕ) → from ≤ k → k < i → InPass z img by p t k → ⊥))
      → NextInPass z img by p t from (unwrap_or r slots)
  next-from None h n = record { not_before = h; low = omega arith; skipped = n; takes = λ l. absurd (omega arith) }
  next-from (Some i) h m = record { not_before = m.0; low = omega (arith, m.1); skipped = m.3; takes = λ _. m.2 }

  -- the loop of `next_by_lookup`

  -- the pass takes none of the slots below j
  pub record Skipping (j : ℕ) : Type 0 where
    pub not_before : from ≤ j
    pub low : j ≤ slots
    pub skipped : (k : ℕ) → from ≤ k → k < j → InPass z img by p t k → ⊥

  pub skipping_starts : from ≤ slots → Skipping from
  skipping_starts h = record { not_before = omega arith; low = h; skipped = λ k l h. absurd (omega arith) }

  module _ {j : ℕ} (w : Skipping j) where
    pub skipping_turns : j < slots → (InPass z img by p t j → ⊥) → Skipping (j + 1)
    skipping_turns h n =
        record {
          not_before = omega (arith, w.not_before);
          low = omega arith;
          skipped = λ k l x q. ⊎_elim
              (λ (e : k ≡ j). n (subst (InPass z img by p t) e q))
              (λ (e : k ≢ j). w.skipped k l (omega arith) q)
              (same_or k j);
        }

    pub skipping_found : InPass z img by p t j → NextInPass z img by p t from j
    skipping_found q = record { not_before = w.not_before; low = w.low; skipped = w.skipped; takes = λ _. q }

    pub skipping_ends : slots ≤ j → NextInPass z img by p t from slots
    skipping_ends h =
        record {
          not_before = omega (arith, w.not_before, w.low);
          low = omega arith;
          skipped = λ k l x. w.skipped k l (omega arith);
          takes = λ l. absurd (omega arith);
        }

module _ (z : Shape) (img : List ℕ) (by : Sharing) (p s t : ℕ) where
  open z use {settings}
  open settings use {slots}

  abbrev Q : ℕ → ℕ → Type 0
  Q = InPass z img by p

  abbrev done : List ℕ
  done = before t (chain z img s)

  -- ---- what was met is of the chain

  module _ (mt : Memᴰ t (chain z img s)) {j : ℕ} (hj : j ≤ slots) {a : Place} (m : MetUpTo z img by p s t j a) where
    met-tier : Memᴰ a.0 (chain z img s)
    met-tier =
        ⊎_elim (λ k. before_in t (chain z img s) a.0 k.0) (λ k. subst (λ (x : ℕ). Memᴰ x (chain z img s)) (sym k.0) mt) m

    met-slot : a.1 < slots
    met-slot = ⊎_elim (λ k. k.1.0) (λ k. omega (arith, k.1.0)) m

    met-mine : Q a.0 a.1
    met-mine = ⊎_elim (λ k. k.1.1) (λ k. k.1.1) m

  -- ---- slot j is looked up

  module _ {j : ℕ} {m : List ℕ} {left : ℕ} (c : CanMeet z img by p s t j m left) where
    abbrev reads : ReadChain z img s
    reads = c.slot.tier.pass.reads

    abbrev mine : Place
    mine = (t, j)

    within : Memᴰ t (chain z img s)
    within = c.slot.tier.tier_in

    low : j ≤ slots
    low = omega (arith, c.slot.slot_in)

    pub met-fits : FittingSlot z img s t j
    met-fits = fitting-slot reads within c.slot.slot_in c.mine.0

    -- the slots that the table refers to
    refers : Below (length m) (λ i. get_or m i 0 ≢ 0 → FittingSlot z img s (get_or m i 0 / slots) (get_or m i 0 % slots))
    refers i h n =
        let r : _ = c.keeps.gathered.from (get_or m i 0) (record { full = n; has = record { slot = i; lt = h; is = refl } }) in
        let a : Place = r.0 in
        let k : a.1 < slots = met-slot within low r.1.0 in
        let e : get_or m i 0 ≡ ref_to z img a = sym r.1.1 in
        rw (e, tier-back slots a.0 a.1 k, slot-back slots a.0 a.1 k)
        (fitting-slot reads (met-tier within low r.1.0) k (met-mine within low r.1.0).0)

    pub can-seek : CanSeek z img by s t j m
    can-seek = record { slot = met-fits; few = c.slot.tier.pass.few; places = c.places; refers = refers }

    met-tests : (a : Place) → MetUpTo z img by p s t j a → Decides (meant z img mine (ref_to z img a)) (SameKey z img a mine)
    met-tests a k =
        tests z img a (met-slot within low k) mine
        (looks reads (met-tier within low k) (met-slot within low k) (met-mine within low k).0)

    -- a slot met before with the same key is another one
    twin-broken : Twin (SameKey z img) (MetUpTo z img by p s t j) mine → KeysOnce z img s → ⊥
    twin-broken w once =
        let a : Place = w.0 in
        let k : MetUpTo z img by p s t j a = w.1.0 in
        let same : (a.0 ≡ t) × (a.1 ≡ j) =
        once a.0 (met-tier within low k) a.1 (met-slot within low k) (met-mine within low k).0 t within j c.slot.slot_in c.mine.0
        w.1.1 in
        ⊎_elim (λ x. before-not t (chain z img s) (subst (λ (u : ℕ). Memᴰ u done) same.0 x.0)) (λ x. omega (arith, x.1.0, same.1)) k

    module _ (i : ℕ) (is : i ≡ seek_ref z img by m (t, j)) where
      pub meet-again : get_or m i 0 ≢ 0 → KeysOnce z img s → ⊥
      unfolding seek_ref
      meet-again n =
          twin-broken
          (passed-twin (ref_table z img by (length m)) (ref_to z img) (SameKey z img) c.keeps mine (meant z img mine) met-tests
          (found (ref_table z img by (length m)) (lawful z img by (length m) c.places.two) m (ref_to z img mine) left (meant z img mine)
          c.keeps.gathered.takes i is n))

      pub meet-fresh : get_or m i 0 ≡ 0 → left ≢ 0 → Keeps z img by (set m i (ref_to z img (t, j))) (left - 1) (MetUpTo z img by p s t (j + 1))
      unfolding seek_ref
      meet-fresh e n =
          let 𝓣 : _ = ref_table z img by (length m) in
          let law : _ = lawful z img by (length m) c.places.two in
          let tk : _ = c.keeps.gathered.takes in
          let v : ℕ = ref_to z img mine in
          let full : v ≢ 0 = ref-full z img mine c.slot.slot_in (chain-tier reads.fitting within).0 in
          rw (length-set m i v)
          (passed-more 𝓣 (ref_to z img) (SameKey z img) c.keeps mine (meant z img mine) met-tests (λ a b q. sym q)
          (one-there slots Q done t j c.mine)
          (lacks 𝓣 law m v left (meant z img mine) tk i is e (starts z img mine c.slot.slot_in by (length m)))
          (adds 𝓣 law m v left (meant z img mine) tk i is e refl tt full)
          (takes 𝓣 law m v left (meant z img mine) tk i is e refl tt full (omega arith)))

  -- ---- the loop over tier t

  module _ {m : List ℕ} {left : ℕ} where
    -- slots that the pass does not take are passed over
    skips : {from r : ℕ} → NextInPass z img by p t from r → Keeps z img by m left (MetUpTo z img by p s t from)
        → Keeps z img by m left (MetUpTo z img by p s t r)
    skips {from} {r} n k =
        passed-same (ref_table z img by (length m)) (ref_to z img) (SameKey z img) k (MetUpTo z img by p s t r)
        (λ a w. ⊎_elim (λ x. inl x) (λ x. inr (x.0, (omega (arith, n.not_before, x.1.0), x.1.1))) w)
        (λ a w. ⊎_elim
        (λ x. inl x)
        (λ x. ⊎_elim
        (λ (l : a.1 < from). inr (x.0, (l, x.1.1)))
        (λ (l : from ≤ a.1). absurd (n.skipped a.1 l x.1.0 (subst (λ (u : ℕ). Q u a.1) x.0 x.1.1)))
        (lt-or a.1 from))
        w)

  -- slots below j were met, and the pass takes slot j
  pub record Tiering (m₀ m : List ℕ) (rest j : ℕ) : Type 0 where
    pub long : length m ≡ length m₀
    pub low : j ≤ slots
    pub mine : j < slots → Q t j
    pub keeps : Keeps z img by m rest (MetUpTo z img by p s t j)

  pub tiering_starts : {m : List ℕ} {left : ℕ} → CanWalk z img by p s t m left → {j : ℕ} → NextInPass z img by p t 0 j → Tiering m m left j
  tiering_starts {m} c n =
      record {
        long = refl;
        low = n.low;
        mine = n.takes;
        keeps = skips n
            (passed-same (ref_table z img by (length m)) (ref_to z img) (SameKey z img) c.keeps (MetUpTo z img by p s t 0)
            (begins slots Q done t) (begins-only slots Q done t));
      }

  module _ {m₀ m : List ℕ} {rest j : ℕ} (w : Tiering m₀ m rest j) where
    pub tiering_meets : ReadTier z img by s t → HasPlaces m₀ → j < slots → CanMeet z img by p s t j m rest
    tiering_meets r h l =
        record {
          slot = record { tier = r; slot_in = l };
          mine = w.mine l;
          places = same-places w.long h;
          keeps = w.keeps;
        }

    pub tiering_turns : {m' : List ℕ} {more j' : ℕ} → length m' ≡ length m → Keeps z img by m' more (MetUpTo z img by p s t (j + 1))
        → NextInPass z img by p t (j + 1) j' → Tiering m₀ m' more j'
    tiering_turns e k n = record { long = e ∙ w.long; low = n.low; mine = n.takes; keeps = skips n k }

    pub tiering_ends : slots ≤ j → Keeps z img by m rest (MetThrough z img by p s t)
    tiering_ends h =
        let e : j ≡ slots = omega (arith, w.low) in
        let all : Keeps z img by m rest (MetUpTo z img by p s t slots) =
        subst (λ (x : ℕ). Keeps z img by m rest (MetUpTo z img by p s t x)) e w.keeps in
        passed-same (ref_table z img by (length m)) (ref_to z img) (SameKey z img) all (MetThrough z img by p s t) (ends slots Q done t)
        (ends-only slots Q done t)

-- ---- the loop over the chain

module _ (z : Shape) (img : List ℕ) (by : Sharing) (p s : ℕ) where
  open z use {settings}
  open settings use {slots}

  -- the tiers of done were walked
  pub record Chaining (m₀ m : List ℕ) (rest t : ℕ) : Type 0 where
    pub long : length m ≡ length m₀
    pub done : List ℕ
    pub along : AlongTiers z img s done t
    pub keeps : Keeps z img by m rest (InRows slots (InPass z img by p) done)

  -- a table of n places, all empty
  pub can-pass : ReadPass z img by s → (n : ℕ) → 1 < n → PowerOfTwo n → n ≤ 65536 → CanPass z img by s (replicate n 0)
  can-pass r n two power few =
      let long : length (replicate {A = ℕ} n 0) ≡ n = length-replicate n 0 in
      record {
        pass = r;
        places = record { two = rw long two; power = rw long power; few = rw long few };
        zeros = λ i h. get_or-replicate {A = ℕ} n i 0 0 (omega (arith, long));
      }

  pub chaining-starts : {m : List ℕ} {left : ℕ} → CanPass z img by s m → left < length m → Chaining m m left (s + 1)
  chaining-starts {m} {left} c h =
      record {
        long = refl;
        done = [];
        along = tiers-start z img s;
        keeps = passed_none (ref_table z img by (length m)) (ref_to z img) (SameKey z img) m left _ h c.zeros (λ a k. Memᴰ.not-nil k.0);
      }

  module _ (pass : ReadPass z img by s) {m₀ m : List ℕ} {rest t : ℕ} (w : Chaining m₀ m rest t) where
    pub chaining-ends : t ≡ 0 → Keeps z img by m rest (MetAll z img by p s)
    chaining-ends e =
        subst (λ (x : List ℕ). Keeps z img by m rest (InRows slots (InPass z img by p) x)) (tiers-end z img s pass.reads.fitting.fits w.along e)
        w.keeps

    module _ (ne : t ≢ 0) where
      is-done : before t (chain z img s) ≡ w.done
      is-done = tiers-before z img s pass.reads.fitting.fits w.along ne

      pub chaining-tier : ReadTier z img by s t
      chaining-tier = record { pass = pass; tier_in = tiers_in_lem z img s pass.reads.fitting.fits w.along ne }

      pub chaining-walks : HasPlaces m₀ → CanWalk z img by p s t m rest
      chaining-walks h =
          record {
            tier = chaining-tier;
            places = same-places w.long h;
            keeps = rw is-done w.keeps;
          }

      pub chaining-turns : {m' : List ℕ} {more u : ℕ} → length m' ≡ length m → Keeps z img by m' more (MetThrough z img by p s t)
          → u ≡ next_of z img t → Chaining m₀ m' more u
      chaining-turns {m'} {more} e k eu =
          record {
            long = e ∙ w.long;
            done = w.done ++ (t ∷ []);
            along = tiers-turn z img s pass.reads.fitting.fits w.along ne eu;
            keeps = subst (λ (x : List ℕ). Keeps z img by m' more (InRows slots (InPass z img by p) (x ++ (t ∷ [])))) is-done k;
          }
