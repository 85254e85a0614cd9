-- Which tiers leave their chains: by the index and the entry count of one.
use Prim.Native.Nat.{ℕ, suc, ◌≤◌, ◌<◌}
use mathlib.Core.List.Memᴰ
use mathlib.Core.List.{List}
use mathlib.Core.Path.{◌≡◌}
use mathlib.Core.Logic.{⊎_elim, ◌≢◌}
use native.Mathlib.Omega.{arith}
use lib.ListN.{length}
use borrow.Author.Tests.{lt-ltb, le-ltb, eq-eqb, ne_eqb}
use Rattle.layout.specs.declared.Shape.{Shape}
use Rattle.layout.specs.Tiers.{IsTier}
use Rattle.layout.specs.Places.{get, count_place}
use Rattle.layout.specs.Frame.{Framed}
use Rattle.chains.proofs.Tiers.{chain-tiers}
use Rattle.chains.proofs.Chained.{IsChained}
use Rattle.entries.specs.Live.{full_slots}
use Rattle.sound.proofs.Sound.{sound-image}
use Rattle.unlinking.specs.Unlinking.{unlink, is_empty_extra, unlink_empty}
use Rattle.unlinking.proofs.Neighbours.{chain-whole}
use Rattle.unlinking.specs.Asking.{ExtraOf, CanUnlink, CanUnlinkEmpty}

module _ (z : Shape) (img : List ℕ) (t : ℕ) where
  pub main-stays : t ≤ z.settings.segments → unlink_empty z img t ≡ img
  unfolding unlink_empty is_empty_extra
  main-stays h = rw (le-ltb z.settings.segments t h, unlink_empty)

  module _ (h : z.settings.segments < t) where
    pub full-stays : length (full_slots z img t) ≢ 0 → unlink_empty z img t ≡ img
    unfolding unlink_empty is_empty_extra
    full-stays ne = rw (lt-ltb z.settings.segments t h, ne_eqb _ 0 ne, unlink_empty)

    pub empty-goes : length (full_slots z img t) ≡ 0 → unlink_empty z img t ≡ unlink z img t
    unfolding unlink_empty is_empty_extra
    empty-goes e = rw (lt-ltb z.settings.segments t h, eq-eqb _ 0 e, unlink_empty)

    -- a chained tier that is no main tier is an extra tier of its chain
    pub extra-of : (c : IsChained z img t) → ExtraOf z img c.0 t
    extra-of c =
        let s : ℕ = c.0 in
        record {
          segment_in = c.1.0;
          tier_in =
              ⊎_elim (λ (q : t ≡ suc s). absurd (omega (arith, c.1.0))) (λ m. m)
              (Memᴰ.cases_cons (rw (chain-whole z img s c.1.0) at c.1.1));
        }

    module _ (can : CanUnlinkEmpty z img t) where
      chained : IsChained z img t
      chained = can.chained (omega arith)

      pub count-asks : Framed z (length img) × IsTier z t
      count-asks =
          ((sound-image z img can.sound).framed, chain-tiers z img can.sound.fits.chains chained.0 chained.1.0 t chained.1.1)

      pub count-is : get z img (count_place z t) ≡ length (full_slots z img t)
      count-is = (can.sound.fits.chunks.tiers_fit chained.0 chained.1.0 t chained.1.1).counters.entry_count

      pub unlink-asks : CanUnlink z img t
      unlink-asks =
          record { framed = count-asks.0; fits = can.sound.fits.chains; segment = chained.0; extra_of = extra-of chained }
