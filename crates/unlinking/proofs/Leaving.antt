-- An edit left a tier: it goes home if it is an extra tier without entries. The image stays sound and holds what it held.
use Prim.Native.Nat.{ℕ, ◌≤◌, ◌<◌}
use mathlib.Core.List.{List}
use mathlib.Core.Path.{◌≡◌, refl, sym, subst}
use mathlib.Core.Logic.{⊎_elim, ◌≢◌}
use lib.ListN.{length}
use Rattle.lists.specs.Cases.{lt-or, same_or}
use Rattle.lists.specs.Lists.{total}
use Rattle.layout.specs.declared.Shape.{Shape}
use Rattle.layout.specs.Tiers.{IsTier}
use Rattle.entries.specs.Live.{full_slots}
use Rattle.entries.specs.Pairs.{Pair, pairs_of}
use Rattle.sound.specs.Sound.{SoundImage}
use Rattle.sound.proofs.AgreeTier.{SameTier, SameCounters}
use Rattle.unlinking.specs.Unlinking.{unlink, unlink_empty}
use Rattle.unlinking.specs.Asking.{ExtraOf, CanUnlink, CanUnlinkEmpty}
use Rattle.unlinking.proofs.Emptied.{main-stays, full-stays, empty-goes, unlink-asks}
use Rattle.unlinking.proofs.Unlinked.{unlink-sound, unlink-pairs, unlink-tiers}

module _ (z : Shape) (img : List ℕ) (t : ℕ) (can : CanUnlinkEmpty z img t) where
  -- what holds of the image as it is, and of the image without the tier in its chain if it is empty, holds after
  by-leaving : (P : List ℕ → Type 0) → P img → ((s : ℕ) → ExtraOf z img s t → length (full_slots z img t) ≡ 0 → P (unlink z img t))
      → P (unlink_empty z img t)
  by-leaving P here home =
      ⊎_elim
      (λ (h : z.settings.segments < t).
      ⊎_elim
      (λ (e : length (full_slots z img t) ≡ 0).
      let asks : CanUnlink z img t = unlink-asks z img t h can in
      subst P (sym (empty-goes z img t h e)) (home asks.segment asks.extra_of e))
      (λ (ne : length (full_slots z img t) ≢ 0). subst P (sym (full-stays z img t h ne)) here)
      (same_or (length (full_slots z img t)) 0))
      (λ (h : t ≤ z.settings.segments). subst P (sym (main-stays z img t h)) here)
      (lt-or z.settings.segments t)

  pub leaving-sound : SoundImage z (unlink_empty z img t)
  leaving-sound = by-leaving (SoundImage z) can.sound (λ s x e. unlink-sound z img s t can.sound x e)

  pub leaving-pairs : (F : Pair → ℕ) → total (pairs_of z (unlink_empty z img t)) F ≡ total (pairs_of z img) F
  leaving-pairs F =
      by-leaving (λ (i : List ℕ). total (pairs_of z i) F ≡ total (pairs_of z img) F) refl (λ s x e. unlink-pairs z img s t can.sound x e F)

  -- every tier's slots, marks, bytes and two counters stay
  pub leaving-tiers : (u : ℕ) → IsTier z u → SameTier z img (unlink_empty z img t) u × SameCounters z img (unlink_empty z img t) u
  leaving-tiers u is =
      by-leaving (λ (i : List ℕ). SameTier z img i u × SameCounters z img i u) (
        record { slots = λ j h. refl; marks = λ i h. refl; bytes = refl },
        record { count = refl; low = refl },
      )
      (λ s x e. unlink-tiers z img s t can.sound x u is)
