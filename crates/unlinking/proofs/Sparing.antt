-- Places that the writes for the tiers after one leave as they were.
use Prim.Native.Nat.{ℕ, ◌<◌}
use mathlib.Core.List.Memᴰ
use mathlib.Core.List.{List, [], ◌∷◌}
use mathlib.Core.Path.{◌≡◌, refl}
use mathlib.Core.Logic.{◌≢◌}
use native.Mathlib.Omega.{arith}
use lib.ListN.{length, get_or}
use Rattle.lists.specs.Quantify.{Every}
use Rattle.layout.specs.declared.Shape.{Shape}
use Rattle.layout.specs.Tiers.{IsTier}
use Rattle.layout.specs.declared.Counter.TheVariants.{Previous as previous, Order as order}
use Rattle.layout.specs.Places.{get, puts, Place, tier, counter, In}
use Rattle.layout.specs.Frame.{Framed}
use Rattle.layout.proofs.Places.{Spares, spare, spare-none, get-puts-other}
use Rattle.unlinking.specs.Unlinking.{nearer, comes_after}

-- a counter of another tier is another place
pub order-apart : {t u : ℕ} → t ≢ u → tier t (counter order) ≢ tier u (counter order)
order-apart {t} {u} ne e = let same : t ≡ u = cc in ne same

previous-apart : {t u : ℕ} → t ≢ u → tier t (counter previous) ≢ tier u (counter previous)
previous-apart {t} {u} ne e = let same : t ≡ u = cc in ne same

module _ (z : Shape) (img : List ℕ) (q : Place) where
  pub nearer_spares : (us : List ℕ) → Every us (IsTier z) → Every us (λ u. q ≢ tier u (counter order)) → Spares z q (nearer z img us)
  nearer_spares [] is ne = spare-none z q
  nearer_spares (u ∷ us) is ne =
      spare z q (tier u (counter order)) _ _ (is u (Memᴰ.head refl), tt) (ne u (Memᴰ.head refl))
      (nearer_spares us (λ v m. is v (Memᴰ.tail m)) (λ v m. ne v (Memᴰ.tail m)))

  pub after_spares : (p : ℕ) (us : List ℕ) → Every us (IsTier z) → Every us (λ u. q ≢ tier u (counter previous))
      → Spares z q (comes_after z img p us)
  after_spares p [] is ne = spare-none z q
  after_spares p (u ∷ us) is ne =
      spare z q (tier u (counter previous)) p [] (is u (Memᴰ.head refl), tt) (ne u (Memᴰ.head refl)) (spare-none z q)

  -- so it reads as before
  pub nearer-keeps : {len : ℕ} → Framed z len → (img₀ us : List ℕ) → In z q → Every us (IsTier z)
      → Every us (λ u. q ≢ tier u (counter order)) → get z (puts z img₀ (nearer z img us)) q ≡ get z img₀ q
  nearer-keeps fr img₀ us h is ne = get-puts-other fr img₀ (nearer z img us) q h (nearer_spares us is ne)

-- a tier that is not the first of them names what it named
pub name_spares : (z : Shape) (img : List ℕ) (p u : ℕ) (ys : List ℕ) → Every ys (IsTier z) → (0 < length ys → u ≢ get_or ys 0 0)
    → Spares z (tier u (counter previous)) (comes_after z img p ys)
name_spares z img p u [] is ne = spare-none z (tier u (counter previous))
name_spares z img p u (v ∷ us) is ne =
    spare z (tier u (counter previous)) (tier v (counter previous)) p [] (is v (Memᴰ.head refl), tt) (previous-apart (ne (omega arith)))
    (spare-none z (tier u (counter previous)))
