-- A loop along the links: which numbers it has met, and where it is.
use Prim.Native.Nat.{ℕ, suc, ◌+◌, ◌-◌, ◌≤◌, ◌<◌}
use mathlib.Core.List.Memᴰ
use mathlib.Core.List.{List, [], ◌∷◌, ◌++◌, append-nil, Memᴰ}
use mathlib.Core.Path.{◌≡◌, refl, ap, sym, ◌∙◌}
use mathlib.Core.Logic.{⊎_elim, ◌≢◌}
use native.Mathlib.Omega.{arith}
use lib.ListN.{length, length-append}
use lib.Seq.{append_snoc}
use Rattle.lists.specs.Cases.{lt-or}
use Rattle.links.specs.Links.{follow, end_of}
use Rattle.links.proofs.Follow.{follow-none, follow-more, follow-out, end_none, end_more, end-out, length-follow, linked-follow, follow-enough}

-- a loop from start on that stops at 0, or when it has met as many numbers as `most` says: it has met those of done, and is at t
pub record Along (next : ℕ → ℕ) (most start : ℕ) (done : List ℕ) (t : ℕ) : Type 0 where
  pub low : length done ≤ most
  pub splits : follow next most start ≡ done ++ follow next (most - length done) t
  pub ends : end_of next most start ≡ end_of next (most - length done) t

module _ (next : ℕ → ℕ) (most start : ℕ) where
  pub along-starts : Along next most start [] start
  along-starts = let e : most - 0 ≡ most = omega arith in record { low = omega arith; splits = rw e; ends = rw e }

module _ {next : ℕ → ℕ} {most start : ℕ} {done : List ℕ} {t : ℕ} (w : Along next most start done t) where
  -- ---- the end is reached, or most were met

  none_left : follow next (most - length done) t ≡ [] → done ≡ follow next most start
  none_left e = sym (w.splits ∙ ap (λ (r : List ℕ). done ++ r) e ∙ append-nil done)

  pub along-ends : t ≡ 0 → done ≡ follow next most start
  along-ends e = none_left (rw e (follow-none next (most - length done)))

  pub along-end : t ≡ 0 → end_of next most start ≡ 0
  along-end e = w.ends ∙ rw e (end_none next (most - length done))

  module _ (h : most ≤ length done) where
    nothing : most - length done ≡ 0
    nothing = omega arith

    pub along-out : done ≡ follow next most start
    along-out = none_left (rw nothing (follow-out next t))

    pub along-lost : end_of next most start ≡ t
    along-lost = w.ends ∙ rw nothing (end-out next t)

  -- ---- one more

  module _ (h : length done < most) (ne : t ≢ 0) where
    fewer : most - length done ≡ suc (most - suc (length done))
    fewer = omega arith

    pub along-splits : follow next most start ≡ done ++ (t ∷ follow next (most - suc (length done)) (next t))
    along-splits = w.splits ∙ ap (λ (r : List ℕ). done ++ r) (rw fewer (follow-more next (most - suc (length done)) t ne))

    pub along_in : Memᴰ t (follow next most start)
    along_in = rw along-splits (Memᴰ.append_right done (Memᴰ.head refl))

    pub along-turns : {u : ℕ} → u ≡ next t → Along next most start (done ++ (t ∷ [])) u
    along-turns {u} e =
        let long : length (done ++ (t ∷ [])) ≡ suc (length done) = omega (arith, length-append done (t ∷ [])) in
        let rest : List ℕ = follow next (most - suc (length done)) (next t) in
        rw e
        (record {
          low = omega (arith, long);
          splits = rw long (along-splits ∙ sym (append_snoc done t rest));
          ends = rw long (w.ends ∙ rw fewer (end_more next (most - suc (length done)) t ne));
        })

  -- ---- where the list is known to end, 0 is met before most

  module _ (end : end_of next most start ≡ 0) where
    pub along-goes : t ≢ 0 → length done < most
    along-goes ne = ⊎_elim (λ h. h) (λ (h : most ≤ length done). absurd (ne (sym (along-lost h) ∙ end))) (lt-or (length done) most)

    along-left : length done + length (follow next most t) ≡ length (follow next most start)
    along-left =
        let k : ℕ = most - length done in
        let left : follow next most t ≡ follow next k t =
        follow-enough most (linked-follow next k t (sym w.ends ∙ end)) (omega (arith, length-follow next k t)) in
        omega (arith, ap length left, ap length w.splits, length-append done (follow next k t))

-- the measure of such a loop: what is left to follow
module _ {next : ℕ → ℕ} {most start : ℕ} {done : List ℕ} {t : ℕ} (w : Along next most start done t) where
  pub along-less : end_of next most start ≡ 0 → t ≢ 0 → {u : ℕ} → u ≡ next t → length (follow next most u) < length (follow next most t)
  along-less end ne e =
      omega (
        arith,
        along-left w end,
        along-left (along-turns w (along-goes w end ne) ne e) end,
        length-append done (t ∷ []),
      )
