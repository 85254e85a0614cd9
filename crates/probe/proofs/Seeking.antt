-- What a loop that searches a table keeps: what is left gives the same as the whole.
use Prim.Native.Nat.{ℕ, ◌-◌, ◌≤◌, ◌<◌}
use mathlib.Core.Path.{◌≡◌, ap, sym, ◌∙◌}
use mathlib.Core.Logic.{◌≢◌}
use mathlib.Core.Bool.{Bool, true, false}
use native.Mathlib.Omega.{arith}
use lib.Dec.{eqb}
use borrow.Author.Tests.{eq-eqb, ne_eqb}
use Rattle.lists.specs.Cases.{by-test}
use Rattle.probe.specs.Ring.{next, dist}
use Rattle.probe.specs.Table.{Table}
use Rattle.probe.specs.Search.{probe, seek, ends}
use Rattle.probe.proofs.Ring.{next-lt, dist-lt, dist-nearer}
use Rattle.probe.proofs.Search.{probe-out, probe-stops, probe-goes}

-- from slot i₀ on, for a number that is meant
module _ {M : Type 0} (𝓣 : Table M) (meant : ℕ → Bool) (m : M) (i₀ : ℕ) where
  open 𝓣 use {size, get}

  abbrev stop : ℕ → Bool
  stop = ends 𝓣 meant m

  -- each empty slot is among the slots that are left
  pub record Seeking (i left : ℕ) : Type 0 where
    pub lt : i < size
    pub is : probe size stop left i ≡ seek 𝓣 meant m i₀
    pub ahead : (k : ℕ) → k < size → get m k ≡ 0 → dist size i k < left

  pub seek-starts : (i : ℕ) → i ≡ i₀ → i < size → Seeking i size
  unfolding seek
  seek-starts i e h = record { lt = h; is = ap (probe size stop size) e; ahead = λ k hk _. dist-lt size h hk }

  -- at a slot with the number v
  module _ {i left : ℕ} (w : Seeking i left) (v : ℕ) (ev : v ≡ get m i) where
    -- it is empty, or v is meant
    pub seek-empty : v ≡ 0 → i ≡ seek 𝓣 meant m i₀
    seek-empty e = sym (probe-stops size stop left i (rw (eq-eqb (get m i) 0 (sym ev ∙ e)))) ∙ w.is

    pub seek_found : meant v ≡ true → i ≡ seek 𝓣 meant m i₀
    seek_found h =
        let hit : meant (get m i) ≡ true = ap meant (sym ev) ∙ h in
        let s : stop i ≡ true = by-test (eqb (get m i) 0) (λ b. rw b) (λ b. rw (b, hit)) in
        sym (probe-stops size stop left i s) ∙ w.is

    pub seek-turns : 1 < size → v ≢ 0 → meant v ≡ false → 0 < left → (j : ℕ) → j ≡ next size i → Seeking j (left - 1)
    seek-turns two n h pos j ej =
        let other : meant (get m i) ≡ false = ap meant (sym ev) ∙ h in
        let s : stop i ≡ false = rw (ne_eqb (get m i) 0 (λ x. n (ev ∙ x)), other) in
        record {
          lt = rw ej (next-lt size w.lt);
          is = ap (probe size stop (left - 1)) ej ∙ sym (probe-goes size stop left (left - 1) i (omega arith) s) ∙ w.is;
          ahead = λ k hk e.
              let apart : i ≢ k = λ (x : i ≡ k). n (ev ∙ ap (get m) x ∙ e) in
              rw ej (omega (arith, w.ahead k hk e, dist-nearer size w.lt hk two apart));
        }

  -- no slot is left
  pub seek-out : {i left : ℕ} → Seeking i left → left ≤ 0 → i ≡ seek 𝓣 meant m i₀
  seek-out {i} {left} w h = sym (probe-out size stop left i h) ∙ w.is
