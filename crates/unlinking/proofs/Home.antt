-- The chains after an edit left a tier: it has gone home, or all is as it was.
use Prim.Native.Nat.{ℕ, suc, ◌<◌}
use mathlib.Core.List.{List, ◌∷◌, Memᴰ}
use mathlib.Core.Path.{◌≡◌, sym, ◌∙◌, subst}
use mathlib.Core.Logic.{⊎_elim, ◌≢◌}
use lib.ListN.{length}
use Rattle.lists.specs.Cases.{lt-or}
use Rattle.layout.specs.declared.Shape.{Shape}
use Rattle.chains.specs.Chains.{chain}
use Rattle.entries.specs.Live.{full_slots}
use Rattle.sound.specs.Sound.{SoundImage}
use Rattle.unlinking.specs.Unlinking.{unlink, unlink_empty}
use Rattle.unlinking.specs.Asking.{ExtraOf}
use Rattle.unlinking.specs.GoingHome.{ChainsStay, GoneHome}
use Rattle.unlinking.proofs.Emptied.{main-stays, full-stays, empty-goes, extra-of}
use Rattle.unlinking.proofs.Neighbours.{front, rest, chain-at}
use Rattle.unlinking.proofs.Unlinked.{unlink-chain, unlink-others, unlink-free}

-- an edit that leaves the chains, and then one that lets a tier go
pub stay_then : {z : Shape} {img img₁ after : List ℕ} {s t : ℕ} {xs ys : List ℕ} → s < z.settings.segments → ChainsStay z img img₁
    → GoneHome z img₁ after s t xs ys → GoneHome z img after s t xs ys
stay_then {s = s} hs a g =
    record {
      was = sym (a.segments s hs) ∙ g.was;
      is = g.is;
      others = λ q hq nq. g.others q hq nq ∙ a.segments q hq;
      free = rw (sym a.free) g.free;
    }

module _ (z : Shape) (img : List ℕ) (s t : ℕ) (sound : SoundImage z img) where
  -- it has gone home
  module _ (h : z.settings.segments < t) (hs : s < z.settings.segments) (m : Memᴰ t (chain z img s)) where
    abbrev x : ExtraOf z img s t
    x = extra-of z img t h (s, (hs, m))

    pub gone-home : length (full_slots z img t) ≡ 0 → (xs : List ℕ) × (ys : List ℕ) × GoneHome z img (unlink_empty z img t) s t xs ys
    gone-home e =
        let xs : List ℕ = suc s ∷ front z img s t sound.fits.chains x in
        let ys : List ℕ = rest z img s t sound.fits.chains x in
        let home : GoneHome z img (unlink z img t) s t xs ys =
        record {
          was = chain-at z img s t sound.fits.chains x;
          is = unlink-chain z img s t sound x;
          others = unlink-others z img s t sound x;
          free = unlink-free z img s t sound x;
        } in
        (xs, ys, subst (λ (i : List ℕ). GoneHome z img i s t xs ys) (sym (empty-goes z img t h e)) home)

  -- it stays
  pub stays : (z.settings.segments < t → length (full_slots z img t) ≢ 0) → unlink_empty z img t ≡ img
  stays full =
      ⊎_elim
      (λ (h : z.settings.segments < t). full-stays z img t h (full h))
      (λ h. main-stays z img t h)
      (lt-or z.settings.segments t)
