-- A sound image, whatever is asked of its counters: it is an image of its shape, and its rules in other words.
use Prim.Native.Nat.{ℕ}
use mathlib.Core.List.Memᴰ
use mathlib.Core.List.{List, [], ◌∷◌, Memᴰ}
use mathlib.Core.Path.{◌≡◌, sym, subst}
use mathlib.Core.Logic.{◌≢◌, ⊎_elim}
use lib.ListN.{length}
use Rattle.lists.specs.Cases.{same_or}
use Rattle.layout.specs.declared.Shape.{Shape}
use Rattle.layout.specs.Frame.{FrameFits, Framed, Image}
use Rattle.layout.proofs.Frames.{framed}
use Rattle.chunks.specs.Chunks.{CountersFit, ChunksFit}
use Rattle.sound.specs.Sound.{ChunksFitBut, SoundWith, SoundImage, SoundBut}

module _ (z : Shape) (img : List ℕ) where
  pub sound-image : {C : Type 0} → SoundWith C z img → Image z img
  sound-image s =
      record {
        bytes = s.bytes;
        framed =
            subst (λ (y : Shape). Framed y (length img)) s.shape
            (framed z.settings img s.fits.valid (subst (λ (y : Shape). FrameFits y img) (sym s.shape) s.fits.frame));
      }

  -- with other words for what is asked of chunks and counters
  sound_as : {C D : Type 0} → (C → D) → SoundWith C z img → SoundWith D z img
  sound_as f s =
      record {
        bytes = s.bytes;
        shape = s.shape;
        fits = record {
          valid = s.fits.valid;
          frame = s.fits.frame;
          chains = s.fits.chains;
          entries = s.fits.entries;
          chunks = f s.fits.chunks;
        };
      }

  -- every counter fits
  pub sound-but : SoundImage z img → SoundBut z img []
  sound-but =
      sound_as (λ (f : ChunksFit z img).
      record {
        marks = λ s h t m. (f.tiers_fit s h t m).marks;
        counters = λ s h t m _. (f.tiers_fit s h t m).counters;
        free = f.free_fit;
      })

  pub but-sound : SoundBut z img [] → SoundImage z img
  but-sound =
      sound_as (λ (f : ChunksFitBut z img []).
      record {
        tiers_fit = λ s h t m. record { marks = f.marks s h t m; counters = f.counters s h t m (λ k. Memᴰ.not-nil k) };
        free_fit = f.free;
      })

  -- but for more tiers
  pub but-more : {but more : List ℕ} → ((t : ℕ) → Memᴰ t but → Memᴰ t more) → SoundBut z img but → SoundBut z img more
  but-more {but} g =
      sound_as (λ (f : ChunksFitBut z img but).
      record { marks = f.marks; counters = λ s h t m out. f.counters s h t m (λ k. out (g t k)); free = f.free })

  -- but for one tier less, whose counters fit
  pub but-less : {t : ℕ} {but : List ℕ} → CountersFit z img t → SoundBut z img (t ∷ but) → SoundBut z img but
  but-less {t} {but} fit =
      sound_as (λ (f : ChunksFitBut z img (t ∷ but)).
      record {
        marks = f.marks;
        counters =
            λ s h u m out.
            ⊎_elim
            (λ (e : u ≡ t). rw e fit)
            (λ (ne : u ≢ t). f.counters s h u m (λ k. ⊎_elim (λ e. ne e) out (Memᴰ.cases_cons k)))
            (same_or u t);
        free = f.free;
      })
