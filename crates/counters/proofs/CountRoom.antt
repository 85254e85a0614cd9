-- The two numbers that a recount writes have room in their places.
use Prim.Native.Nat.{ℕ, ◌^◌, ◌<◌}
use mathlib.Core.Logic.{⊎_elim}
use native.Mathlib.Omega.{arith}
use Rattle.layout.specs.declared.Shape.{Shape}
use Rattle.layout.specs.declared.Header.TheVariants.{EntryCount as entry_count, LowestFree as lowestFree}
use Rattle.layout.specs.declared.Counter.TheVariants.{Low as low, Count as count}
use Rattle.layout.specs.Places.{wide, low_place, count_place}
use Rattle.layout.proofs.Places.{shared-is, shared-wide-main, shared-wide-extra}

module _ (z : Shape) (t : ℕ) where
  pub count_room : 4096 < 256 ^ wide z (count_place z t)
  count_room =
      ⊎_elim (λ h. rw (shared-wide-main z entry_count count t h.0) (omega arith)) (λ h. rw (shared-wide-extra z entry_count count t h.0) (omega arith))
      (shared-is z entry_count count t)

  pub low-room : 4096 < 256 ^ wide z (low_place z t)
  low-room =
      ⊎_elim (λ h. rw (shared-wide-main z lowestFree low t h.0) (omega arith)) (λ h. rw (shared-wide-extra z lowestFree low t h.0) (omega arith))
      (shared-is z lowestFree low t)
