-- A shape with one bulk more: every place of the store stands where it stood.
use Prim.Native.Nat.{ℕ, ◌+◌, ◌≤◌, ◌<◌}
use mathlib.Core.List.{List}
use mathlib.Core.Path.{◌≡◌, refl, ap, sym, ◌∙◌}
use mathlib.Core.Bool.{true, false}
use native.Mathlib.Omega.{arith}
use native.Mathlib.Nat.{le_refl}
use lib.Dec.{ltb}
use borrow.Author.Tests.{ltb-false, lt-ltb, le-ltb}
use Rattle.lists.specs.Cases.{neither}
use Rattle.settings.proofs.Laws.{product_le}
use Rattle.layout.specs.declared.Shape.{Shape}
use Rattle.layout.specs.Tiers.{tiers, mains, bulks_at, store_end, extra_at, tier_at, IsTier, IsExtra}
use Rattle.layout.specs.Places.{slot, counter, free, byte, Place, global, header, tier, part_at, part_wide, at, wide, In, get}
use Rattle.layout.specs.Frame.{Bounded, Framed, most_tiers}
use Rattle.layout.proofs.Bounds.{framed-bounded}
use Rattle.chains.proofs.AgreeChains.{tier-more}
use Rattle.growing.specs.Growing.{grown, no_bulk, new_tier}

module _ (z : Shape) where
  open z use {settings}
  open settings use {bulkTiers, bulkSize}

  -- ---- the tiers

  pub tiers-grown : tiers (grown z) ≡ tiers z + bulkTiers
  unfolding tiers
  tiers-grown = omega arith

  pub end-grown : store_end (grown z) ≡ store_end z + bulkSize
  unfolding store_end bulks_at mains
  end-grown = omega arith

  tier-grown : (u : ℕ) → IsTier z u → IsTier (grown z) u
  tier-grown = tier-more z (z.bulks + 1) (omega arith)

  -- those of the new bulk
  pub new-extra : (k : ℕ) → k < bulkTiers → IsExtra (grown z) (new_tier z k)
  unfolding tiers
  new-extra k h = omega (arith, tiers-grown)

  -- ---- the places

  pub in_grown : (p : Place) → In z p → In (grown z) p
  in_grown (global f) h = tt
  in_grown (header s f) h = h
  in_grown (tier t (slot j)) h = (tier-grown t h.0, h.1)
  in_grown (tier t (counter f)) h = (tier-grown t h.0, tt)
  in_grown (tier t (free b)) h = (tier-grown t h.0, h.1)
  in_grown (tier t (byte i)) h = (tier-grown t h.0, h.1)

  pub get-grown : (img : List ℕ) (p : Place) → get (grown z) img p ≡ get z img p
  unfolding get at wide part_at part_wide tier_at extra_at bulks_at mains
  get-grown img (global f) = refl
  get-grown img (header s f) = refl
  get-grown img (tier t (slot j)) = refl
  get-grown img (tier t (counter f)) = refl
  get-grown img (tier t (free b)) = refl
  get-grown img (tier t (byte i)) = refl

  -- ---- its numbers fit, whether there is room for it or not

  pub bounded-grown : {len : ℕ} → Framed z len → Bounded (grown z)
  unfolding tiers
  bounded-grown fr =
      record {
        valid = fr.valid;
        headers = (framed-bounded fr).headers;
        bulks =
            omega (arith, product_le {m = z.bulks} {n = bulkTiers} (le_refl z.bulks) fr.valid.bulkTiers.0, fr.tier_count);
      }

  -- ---- where there is room for the bulk

  pub room-framed : {len : ℕ} → Framed z len → no_bulk z len ≡ false → Framed (grown z) len
  unfolding no_bulk
  room-framed {len} fr e =
      let both : (ltb most_tiers (tiers (grown z)) ≡ false) × (ltb len (store_end (grown z)) ≡ false) = neither _ _ e in
      record {
        valid = fr.valid;
        headers_after = fr.headers_after;
        tier_count = ltb-false _ _ both.0;
        within = ltb-false _ _ both.1;
        small = fr.small;
      }

  pub framed-less : {len : ℕ} → Framed (grown z) len → Framed z len
  framed-less fr =
      record {
        valid = fr.valid;
        headers_after = fr.headers_after;
        tier_count = omega (arith, fr.tier_count, tiers-grown);
        within = omega (arith, fr.within, end-grown);
        small = fr.small;
      }

  -- the two tests, as the code makes them with the tiers and the end of a shape `more`
  module _ (len : ℕ) {more : Shape} (is : more ≡ grown z) {n : ℕ} (count : n ≡ tiers more) where
    pub too_many : most_tiers < n → true ≡ no_bulk z len
    unfolding no_bulk
    too_many h = let e : tiers (grown z) ≡ n = ap tiers (sym is) ∙ sym count in rw (e, lt-ltb most_tiers n h)

    pub by_length : n ≤ most_tiers → {end : ℕ} → end ≡ store_end more → ltb len end ≡ no_bulk z len
    unfolding no_bulk
    by_length h {end} f =
        let e : tiers (grown z) ≡ n = ap tiers (sym is) ∙ sym count in
        let d : store_end (grown z) ≡ end = ap store_end (sym is) ∙ sym f in
        rw (e, d, le-ltb most_tiers n h)
