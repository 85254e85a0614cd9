-- The slots of one tier are a lawful table, with the image itself as its state.
use Prim.Native.Nat.{ℕ, ◌^◌, ◌<◌}
use mathlib.Core.List.{List}
use mathlib.Core.Path.{◌≡◌}
use mathlib.Core.Logic.{◌≢◌}
use native.Mathlib.Omega.{arith}
use native.Mathlib.Nat.{one-le-pow}
use Rattle.layout.specs.declared.Shape.{Shape}
use Rattle.layout.specs.Tiers.{IsTier}
use Rattle.layout.specs.Places.{tier, slot, wide, part_wide, get, put}
use Rattle.layout.specs.Frame.{Framed, Image}
use Rattle.layout.proofs.Places.{image-put, get-lt, get-same, get_other}
use Rattle.probe.proofs.Table.{Lawful}
use Rattle.entries.proofs.Hashes.{start-lt}
use Rattle.search.specs.Search.{slots_of}

module _ {z : Shape} {len : ℕ} (framed : Framed z len) (t : ℕ) (is : IsTier z t) where
  pub slot-ne : (j k : ℕ) → j ≢ k → tier t (slot j) ≢ tier t (slot k)
  slot-ne j k ne e = ne (cc)

  pub slot-fit : (img : List ℕ) (j : ℕ) → Image z img → get z img (tier t (slot j)) < 256 ^ z.settings.slotSize
  unfolding wide part_wide
  slot-fit img j ok = get-lt ok (tier t (slot j))

  pub slot_same : (img : List ℕ) (j v : ℕ) → Image z img → j < z.settings.slots → v < 256 ^ z.settings.slotSize
      → get z (put z img (tier t (slot j)) v) (tier t (slot j)) ≡ v
  unfolding wide part_wide
  slot_same img j v ok h f = get-same ok (tier t (slot j)) v (is, h) f

  unfoldable pub slots-lawful : Lawful (slots_of z t)
  slots-lawful =
      record {
        Ok = Image z;
        Fit = λ v. v < 256 ^ z.settings.slotSize;
        two = omega (arith, framed.valid.slots);
        start-lt = λ v. start-lt framed.valid _;
        fit-zero = one-le-pow z.settings.slotSize 256 (omega arith);
        fit-get = slot-fit;
        ok-put = λ img j v ok h f. image-put ok (tier t (slot j)) v;
        same = slot_same;
        other = λ img j v k ok h hk ne. get_other framed img (tier t (slot j)) v (tier t (slot k)) (is, h) (is, hk) (slot-ne k j ne);
      }
