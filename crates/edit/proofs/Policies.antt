-- The policy: which stores are on the spot, by the old entry as the code carries it and by the live entry.
use Prim.Native.Nat.{ℕ}
use mathlib.Core.Path.{◌≡◌, refl, ap, sym, ◌∙◌}
use mathlib.Core.Bool.{Bool, true, false}
use mathlib.Core.Option.{Option as Maybe, none, some}
use Rattle.std.proofs.Common.{None, Some}
use Rattle.std.proofs.lemmas.Option.{none-some, same_Some}
use native.Mathlib.Omega.{arith}
use lib.Dec.{eqb}
use borrow.Author.Tests.{eq-eqb, eqb-true}
use Rattle.lists.specs.Cases.{by-test}
use Rattle.entries.specs.declared.Live.{Live}
use Rattle.placement.specs.declared.Old.{Old}
use Rattle.edit.specs.declared.Policy.{Policy}
use Rattle.edit.specs.declared.Policy.TheVariants.{OnTheSpot, Tight}
use Rattle.edit.specs.Edits.{on_the_spot}
use Rattle.edit.specs.Replaced.{carried, old_of, old_on_the_spot}

-- ---- a store on the spot replaces an entry of as many chunks

not_some : (e : Live) → none ≡ some e → ⊥
not_some e q = let never : ◌≡◌ {A = ℕ} 0 1 = cc in omega arith

pub record Spot (policy : Policy) (n : ℕ) (o : Maybe Live) (e : Live) : Type 0 where
  pub policy_is : policy ≡ OnTheSpot
  pub found : o ≡ some e
  pub as_many : e.chunks ≡ n

pub spot-only : (policy : Policy) (n : ℕ) (o : Maybe Live) (e : Live) → on_the_spot policy n o ≡ some e → Spot policy n o e
unfolding on_the_spot
spot-only Tight n o e q = absurd (not_some e q)
spot-only OnTheSpot n none e q = absurd (not_some e q)
spot-only OnTheSpot n (some x) e q =
    by-test (eqb x.chunks n)
    (λ b.
    let same : some x ≡ some e = rw (b, on_the_spot) at q in
    let is : x ≡ e = cc in
    record { policy_is = refl; found = same; as_many = ap (λ (y : Live). y.chunks) (sym is) ∙ eqb-true _ _ b })
    (λ b. absurd (not_some e (rw (b, on_the_spot) at q)))

pub spot-some : (n : ℕ) (e : Live) → e.chunks ≡ n → on_the_spot OnTheSpot n (some e) ≡ some e
unfolding on_the_spot
spot-some n e q = rw (eq-eqb e.chunks n q, on_the_spot)

-- ---- the two agree

agree-by : (e : Live) (b : Bool) → elim b [ true ↦ Some (carried e) | false ↦ None ] ≡ old_of (elim b [ true ↦ some e | false ↦ none ])
unfolding old_of
agree-by e true = refl
agree-by e false = refl

spots-agree : (policy : Policy) (n : ℕ) (o : Maybe Live) → old_on_the_spot policy (old_of o) n ≡ old_of (on_the_spot policy n o)
unfolding old_of on_the_spot
spots-agree Tight n o = refl
spots-agree OnTheSpot n none = refl
spots-agree OnTheSpot n (some e) = agree-by e (eqb e.chunks n)

-- what the code found, as a live entry
old-lives : (a : Old) (o : Maybe Live) → old_of o ≡ Some a → (e : Live) × (a ≡ carried e) × (o ≡ some e)
unfolding old_of
old-lives a none q = absurd (none-some a q)
old-lives a (some e) q = (e, sym (same_Some _ _ q), refl)

old-none : (o : Maybe Live) → old_of o ≡ None → o ≡ none
unfolding old_of
old-none none q = refl
old-none (some e) q = absurd (none-some _ (sym q))

module _ (policy : Policy) (n : ℕ) (o : Maybe Live) where
  pub old-spot : (a : Old) → old_on_the_spot policy (old_of o) n ≡ Some a → (e : Live) × (a ≡ carried e) × Spot policy n o e
  old-spot a q =
      let r : (e : Live) × (a ≡ carried e) × (on_the_spot policy n o ≡ some e) =
      old-lives a (on_the_spot policy n o) (sym (spots-agree policy n o) ∙ q) in
      (r.0, r.1, spot-only policy n o r.0 r.2)

  pub old-moves : old_on_the_spot policy (old_of o) n ≡ None → on_the_spot policy n o ≡ none
  old-moves q = old-none (on_the_spot policy n o) (sym (spots-agree policy n o) ∙ q)
