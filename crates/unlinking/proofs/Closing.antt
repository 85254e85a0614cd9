-- What closing up does, by whether there is a tier to close up; and the writes of `unlink` after it, one after the other.
use Prim.Native.Nat.{ℕ, suc, ◌-◌}
use mathlib.Core.List.Memᴰ
use mathlib.Core.List.{List, [], ◌∷◌, ◌++◌, append_assoc}
use mathlib.Core.Path.{◌≡◌, refl, ap, sym, ◌∙◌}
use mathlib.Core.Logic.{◌≢◌}
use native.Mathlib.Omega.{arith}
use Rattle.links.proofs.Follow.{follow-none, follow-more}
use Rattle.layout.specs.declared.Shape.{Shape}
use Rattle.layout.specs.declared.Counters.{Counters}
use Rattle.layout.specs.Tiers.{tiers, IsTier}
use Rattle.layout.specs.declared.Global.TheVariants.{FirstFree as firstFree, UsedTiers as usedTiers}
use Rattle.layout.specs.declared.Counter.TheVariants.{Previous as previous}
use Rattle.layout.specs.Places.{get, put, puts, Write, global, tier, counter, next_place, counters_of}
use Rattle.layout.proofs.Places.{puts-append}
use Rattle.chains.specs.Chains.{next_of, free_head, follow}
use Rattle.chains.proofs.Segments.{segments-le}
use Rattle.unlinking.specs.Unlinking.{before, later, nearer, comes_after, moving, unlink}
use Rattle.unlinking.specs.Asking.{CanLower}

module _ (z : Shape) (img : List ℕ) (first p : ℕ) where
  -- the tiers from the first on
  abbrev us : List ℕ
  us = follow z img (tiers z) first

  pub closed_none : {img₁ : List ℕ} → first ≡ 0 → img₁ ≡ puts z img (nearer z img (follow z img (tiers z) first))
      → img₁ ≡ puts z img (nearer z img (follow z img (tiers z) first) ++ comes_after z img p (follow z img (tiers z) first))
  closed_none e q = q ∙ rw (e, follow-none (next_of z img) (tiers z))

  module _ (can : CanLower z img first) (ne : first ≢ 0) where
    some_first : us ≡ first ∷ follow z img (tiers z - 1) (next_of z img first)
    some_first =
        let some : tiers z ≡ suc (tiers z - 1) = omega (arith, segments-le z img, can.framed.valid.segments.1.0) in
        ap (λ (n : ℕ). follow z img n first) some ∙ follow-more (next_of z img) (tiers z - 1) first ne

    pub first-tier : IsTier z first
    first-tier = can.tiers_of first (rw some_first (Memᴰ.head refl))

    pub closed_some : {img₁ img₂ : List ℕ} → img₁ ≡ puts z img (nearer z img (follow z img (tiers z) first))
        → img₂ ≡ put z img₁ (tier first (counter previous)) p
        → img₂ ≡ puts z img (nearer z img (follow z img (tiers z) first) ++ comes_after z img p (follow z img (tiers z) first))
    unfolding puts
    closed_some q r =
        let one : comes_after z img p us ≡ comes_after z img p (first ∷ []) = rw some_first in
        r
        ∙ ap (λ (x : List ℕ). put z x (tier first (counter previous)) p) q
        ∙ sym (puts-append z img (nearer z img us) (comes_after z img p (first ∷ [])))
        ∙ ap (λ ws. puts z img (nearer z img us ++ ws)) (sym one)

-- ---- the four writes after it

-- the writes for the tiers after one
abbrev pub closing : (z : Shape) (img : List ℕ) → ℕ → List ℕ → List Write
closing z img p ys = nearer z img ys ++ comes_after z img p ys

pub unlink-parts : (z : Shape) (img : List ℕ) (t : ℕ) → let p = before z img t in let ys = later z img t in
    unlink z img t ≡ puts z (puts z img (closing z img p ys)) (moving z img p t)
unfolding unlink
unlink-parts z img t =
    let p : ℕ = before z img t in
    let ys : List ℕ = later z img t in
    ap (puts z img) (sym (append_assoc (nearer z img ys) (comes_after z img p ys) (moving z img p t)))
    ∙ puts-append z img (closing z img p ys) (moving z img p t)

module _ (z : Shape) (img : List ℕ) (t : ℕ) where
  -- what is read before the first write
  pub record Read (next : ℕ) (c : Counters) (free used : ℕ) : Type 0 where
    pub next_is : next ≡ next_of z img t
    pub counters_is : c ≡ counters_of z img t
    pub free_is : free ≡ free_head z img
    pub used_is : used ≡ get z img (global usedTiers)

  pub prior-is : {c : Counters} → c ≡ counters_of z img t → c.previous ≡ before z img t
  unfolding counters_of
  prior-is e = ap (λ (x : Counters). x.previous) e

  pub unlinked : {next : ℕ} {c : Counters} {free used : ℕ} → Read next c free used → {i₀ i₁ i₂ i₃ i₄ : List ℕ}
      → i₀ ≡ puts z img (nearer z img (follow z img (tiers z) next) ++ comes_after z img c.previous (follow z img (tiers z) next))
      → i₁ ≡ put z i₀ (next_place z c.previous) next
      → i₂ ≡ put z i₁ (next_place z t) free
      → i₃ ≡ put z i₂ (global firstFree) t
      → i₄ ≡ put z i₃ (global usedTiers) (used - 1)
      → i₄ ≡ unlink z img t
  unfolding later puts
  unlinked {next} {c} {free} {used} r p₀ p₁ p₂ p₃ p₄ =
      let a : next ≡ next_of z img t = r.next_is in
      let b : c.previous ≡ before z img t = prior-is r.counters_is in
      let d : free ≡ free_head z img = r.free_is in
      let u : used ≡ get z img (global usedTiers) = r.used_is in
      let ys : List ℕ = later z img t in
      let parts : unlink z img t ≡ puts z (puts z img (closing z img (before z img t) ys)) (moving z img (before z img t) t) =
      unlink-parts z img t in
      cc
