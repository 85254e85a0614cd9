-- A number that is looked up, and put where the search for it ended empty.
use Prim.Native.Nat.{ℕ, zero, suc, ◌-◌, ◌<◌}
use mathlib.Core.Path.{◌≡◌, refl, ap, sym, ◌∙◌}
use mathlib.Core.Logic.{inl, inr, ⊎_elim, ◌≢◌}
use mathlib.Core.Bool.{Bool, true, false}
use native.Mathlib.Omega.{arith}
use Rattle.lists.specs.Cases.{by-test, same_or}
use Rattle.lists.specs.Quantify.{Below}
use Rattle.probe.specs.Table.{Table, Empty, slot_total}
use Rattle.probe.specs.Counting.{one_at, Has, count}
use Rattle.probe.specs.Search.{room, seek}
use Rattle.probe.proofs.Table.{Lawful}
use Rattle.probe.proofs.Search.{seek-lt, seek_hit, seek_finds, seek-empty-room}
use Rattle.probe.proofs.Insertion.{insert-totals, insert-good}
use Rattle.probe.proofs.Has.{one_at_same, one_at_other, count-has}
use Rattle.gather.specs.Table.{Holds, Takes, Lacks, Adds}

module _ {M : Type 0} (𝓣 : Table M) where
  open 𝓣 use {size, get}

  -- where searches end, a slot is empty
  takes-empty : (m : M) (left : ℕ) → Takes 𝓣 m left → (e : ℕ) × Empty 𝓣 m e
  takes-empty m left t =
      let h : Has 𝓣 m 0 = count-has 𝓣 m 0 (omega (arith, t.spare)) in
      (h.slot, record { lt = h.lt; free = h.is })

  all-free : (m : M) (n : ℕ) → Below n (λ j. get m j ≡ 0) → slot_total 𝓣 (one_at 0) m n ≡ n
  unfolding slot_total
  all-free m zero z = refl
  all-free m (suc n) z = rw (z n (omega arith), all-free m n (λ j h. z j (omega arith)), one_at_same 0) (omega arith)

  -- a table with no number in it
  pub takes_none : (m : M) (left : ℕ) → left < size → Below size (λ j. get m j ≡ 0) → Takes 𝓣 m left
  unfolding count
  takes_none m left h z = record { good = λ j k hj hk fj on. absurd (fj (z j hj)); spare = rw (all-free m size z) h }

  pub holds-none : (m : M) (w : ℕ) → Below size (λ j. get m j ≡ 0) → Holds 𝓣 m w → ⊥
  holds-none m w z h = h.full (sym h.has.is ∙ z h.has.slot h.has.lt)

-- the search for v, by a test that tells which numbers are meant, ends at i
module _ {M : Type 0} (𝓣 : Table M) (law : Lawful 𝓣) (m : M) (v left : ℕ) (meant : ℕ → Bool) (t : Takes 𝓣 m left)
    (i : ℕ) (is : i ≡ seek 𝓣 meant m (𝓣.start v)) where
  open 𝓣 use {size, start, get, put}
  open law use {Ok, Fit, start-lt, same, other}

  em : Empty 𝓣 m (takes-empty 𝓣 m left t).0
  em = (takes-empty 𝓣 m left t).1

  at_lt : i < size
  at_lt = rw is (seek-lt 𝓣 law m (start v) _ (start-lt v) em meant)

  pub found : get m i ≢ 0 → (w : ℕ) × (Holds 𝓣 m w × (meant w ≡ true))
  found n =
      let hit : meant (get m i) ≡ true = rw is (seek_hit 𝓣 law m (start v) _ (start-lt v) em meant (rw is at n)) in
      (get m i, (record { full = n; has = record { slot = i; lt = at_lt; is = refl } }, hit))

  module _ (z : get m i ≡ 0) where
    -- what is meant starts where the search does
    pub lacks : ((w : ℕ) → meant w ≡ true → start w ≡ start v) → Lacks 𝓣 meant m
    lacks starts w h =
        let q : get m h.has.slot ≡ w = h.has.is in
        by-test (meant w)
        (λ (y : meant w ≡ true).
        absurd
        (seek_finds 𝓣 law m (start v) _ (start-lt v) em meant t.good h.has.slot h.has.lt (rw q h.full) (rw q (starts w y)) (rw q y)
        (rw is at z)))
        (λ (y : meant w ≡ false). y)

    -- it is the first empty slot
    is-room : i ≡ room 𝓣 m (start v)
    is-room = is ∙ seek-empty-room 𝓣 (start v) meant m (rw is at z)

    module _ (ok : Ok m) (fit : Fit v) (full : v ≢ 0) where
      pub takes : 0 < left → Takes 𝓣 (put m i v) (left - 1)
      unfolding count
      takes pos =
          rw is-room
          (record {
            good = insert-good 𝓣 law m v _ ok fit full em t.good;
            spare = omega (
              arith,
              insert-totals 𝓣 law m v _ ok fit full em (one_at 0),
              one_at_same 0,
              one_at_other 0 v full,
              t.spare,
            );
          })

      put_same : get (put m i v) i ≡ v
      put_same = same m i v ok at_lt fit

      put_other : (k : ℕ) → k < size → k ≢ i → get (put m i v) k ≡ get m k
      put_other k hk ne = other m i v k ok at_lt hk ne

      pub adds : Adds 𝓣 m (put m i v) v
      adds =
          record {
            kept = λ w h.
                let k : Has 𝓣 m w = h.has in
                let apart : k.slot ≢ i = λ q. h.full (sym k.is ∙ ap (get m) q ∙ z) in
                record { full = h.full; has = record { slot = k.slot; lt = k.lt; is = put_other k.slot k.lt apart ∙ k.is } };
            added = record { full = full; has = record { slot = i; lt = at_lt; is = put_same } };
            only = λ w h.
                let k : Has 𝓣 (put m i v) w = h.has in
                ⊎_elim
                (λ (q : k.slot ≡ i). inr (sym k.is ∙ ap (get (put m i v)) q ∙ put_same))
                (λ (q : k.slot ≢ i).
                inl (record {
                  full = h.full;
                  has = record { slot = k.slot; lt = k.lt; is = sym (put_other k.slot k.lt q) ∙ k.is };
                }))
                (same_or k.slot i);
          }
