-- An accepted image is a sound one, and what the calls ask of it is known.
use Prim.Native.Nat.{ℕ}
use mathlib.Core.List.{List}
use mathlib.Core.Path.{◌≡◌, refl, ap, sym, ◌∙◌, subst}
use native.Mathlib.Omega.{arith}
use Rattle.std.specs.Prelude.{Ok, Err}
use Rattle.words.specs.Bytes.{Bytes}
use Rattle.settings.specs.declared.Settings.{Settings}
use Rattle.settings.specs.Block.{BlockFits, settings_of}
use Rattle.layout.specs.declared.Shape.{Shape}
use Rattle.layout.specs.Frame.{shape_of}
use Rattle.layout.proofs.Frames.{shape-settings}
use Rattle.entries.specs.Pairs.{pairs_of}
use Rattle.sound.specs.Sound.{SoundImage}
use Rattle.image.specs.declared.Counts.{Counts}
use Rattle.image.specs.declared.Outcome.TheVariants as outcome
use Rattle.image.specs.declared.Verdict.{Verdict}
use Rattle.image.specs.Check.{Examined, counts_of, examine, verdict_of, check}
use Rattle.image.proofs.Ready.{Fitting, fitting-ready, ready-fitting}
use Rattle.chronicle_map.specs.Demands.{Accepted, shape}
use Rattle.chronicle_map.specs.History.{map_of}

-- the block is accepted, and the image is sound under its settings
pub record Holds (block img : List ℕ) : Type 0 where
  pub block_fits : BlockFits block
  pub sound : SoundImage (shape block img) img

module _ (block img : List ℕ) where
  pub holds-ready : Holds block img → examine block img ≡ Ok (shape block img, counts_of (shape block img) img)
  holds-ready h =
      fitting-ready block img (shape block img) (record { block_fits = h.block_fits; shape = refl; image = h.sound.fits })

  -- what is ready has the shape that the block and the image give
  pub ready-sound : (z : Shape) (c : Counts) → Bytes img → examine block img ≡ Ok (z, c) → SoundImage z img
  ready-sound z c b e =
      let f : Fitting block img z = ready-fitting block img z c e in
      let own : z.settings ≡ settings_of block = ap (λ (x : Shape). x.settings) f.shape ∙ shape-settings (settings_of block) img in
      record { bytes = b; shape = ap (λ (st : Settings). shape_of st img) own ∙ sym f.shape; fits = f.image }

  pub ready-holds : (z : Shape) (c : Counts) → Bytes img → examine block img ≡ Ok (z, c) → Holds block img
  ready-holds z c b e =
      let f : Fitting block img z = ready-fitting block img z c e in
      record { block_fits = f.block_fits; sound = subst (λ (x : Shape). SoundImage x img) f.shape (ready-sound z c b e) }

  -- what the check says of it
  pub holds-check : Holds block img → check block img ≡ record { outcome = outcome.Accepted (counts_of (shape block img) img) }
  unfolding check verdict_of
  holds-check h = ap verdict_of (holds-ready h)

  pub holds-accepted : Holds block img → Accepted block img
  holds-accepted h = (counts_of (shape block img) img, holds-check h)

  pub holds-counts : Holds block img → (c : Counts) → check block img ≡ record { outcome = outcome.Accepted c }
      → c ≡ counts_of (shape block img) img
  holds-counts h c e =
      let f : outcome.Accepted c ≡ outcome.Accepted (counts_of (shape block img) img) = ap (λ (v : Verdict). v.outcome) (sym e ∙ holds-check h) in
      cc

  -- accepted by the check, so ready
  pub accepted-ready : (x : Examined) (c : Counts) → verdict_of x ≡ record { outcome = outcome.Accepted c }
      → (z : Shape) × (d : Counts) × (x ≡ Ok (z, d))
  unfolding verdict_of
  accepted-ready (Ok (z, d)) c e = (z, d, refl)
  accepted-ready (Err s) c e =
      absurd (let f : outcome.Refused s ≡ outcome.Accepted c = ap (λ (v : Verdict). v.outcome) e in let q : ◌≡◌ {A = ℕ} 0 1 = cc in omega arith)

  pub accepted-holds : Bytes img → Accepted block img → Holds block img
  unfolding check
  accepted-holds b (c, e) =
      let r : (z : Shape) × (d : Counts) × (examine block img ≡ Ok (z, d)) = accepted-ready (examine block img) c e in
      ready-holds r.0 r.1 b r.2

-- an image that is sound under a shape with the block's settings holds too, and reads as what it reads as under that shape
module _ {block img : List ℕ} (fits : BlockFits block) {z : Shape} (own : z.settings ≡ settings_of block) (sound : SoundImage z img) where
  pub shape-by : z ≡ shape block img
  shape-by = sym sound.shape ∙ ap (λ (st : Settings). shape_of st img) own

  pub holds_by : Holds block img
  holds_by = record { block_fits = fits; sound = subst (λ (x : Shape). SoundImage x img) shape-by sound }

  pub map-by : pairs_of z img ≡ map_of block img
  map-by = ap (λ (x : Shape). pairs_of x img) shape-by

-- so does an image of the same shape
module _ {block img img' : List ℕ} (h : Holds block img) (sound : SoundImage (shape block img) img') where
  pub shape-again : shape block img ≡ shape block img'
  shape-again = shape-by h.block_fits (shape-settings (settings_of block) img) sound

  pub holds-again : Holds block img'
  holds-again = holds_by h.block_fits (shape-settings (settings_of block) img) sound

  pub map-again : pairs_of (shape block img) img' ≡ map_of block img'
  map-again = map-by h.block_fits (shape-settings (settings_of block) img) sound
