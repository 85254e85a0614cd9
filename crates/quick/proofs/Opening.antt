-- Settings and frame: what is known where they fit.
use Prim.Native.Nat.{ℕ, ◌≤◌, ◌<◌}
use mathlib.Core.List.{List}
use mathlib.Core.Path.{◌≡◌, refl, ap, sym, ◌∙◌}
use native.Mathlib.Omega.{arith}
use lib.ListN.{length, take}
use lib.Seq.{take-length, length-take-le}
use Rattle.std.specs.Prelude.{Result, Ok, Err, Option, Some, None, ok_or}
use Rattle.settings.specs.declared.Settings.{Settings}
use Rattle.settings.specs.declared.ParseError.{ParseError}
use Rattle.settings.specs.Rules.{Valid}
use Rattle.settings.specs.Versions.{most_fields, block_size}
use Rattle.settings.specs.Block.{version, BlockFits, settings_of, parse}
use Rattle.settings.proofs.Versions.{fields-most}
use Rattle.settings.proofs.Laws.{Accepts, parse-bad-block, parse-only, parse-accepts}
use Rattle.layout.specs.declared.Shape.{Shape}
use Rattle.layout.specs.Frame.{shape_of, FrameFits, frame_of, Framed}
use Rattle.layout.proofs.Frames.{frame-fits, frame-only, frame-framed}
use Rattle.image.specs.declared.Stage.TheVariants as stage
use Rattle.image.specs.Check.{stage_of}
use Rattle.chronicle_map.specs.Demands.{shape}
use Rattle.quick.specs.Quick.{opened_frame, opened_block, opened}
use Rattle.quick.specs.Telling.{ParsesAlike}

-- ---- the part of the block that is looked at

-- no block is longer than the longest of a known version
long-unfit : (block : List ℕ) → block_size most_fields < length block → BlockFits block → ⊥
long-unfit block h f = omega (arith, f.whole, fields-most (version block))

pub all_alike : (block : List ℕ) → ParsesAlike block (length block)
all_alike block = record { within = omega arith; same = ap parse (take-length block) }

pub front-alike : (block : List ℕ) (n : ℕ) → block_size most_fields < n → n ≤ length block → ParsesAlike block n
front-alike block n h le =
    let long : length (take n block) ≡ n = length-take-le n block le in
    record {
      within = le;
      same = parse-bad-block (take n block) (long-unfit (take n block) (omega arith)) ∙ sym (parse-bad-block block (long-unfit block (omega arith)));
    }

module _ (block img : List ℕ) where
  -- ---- as the code puts it together

  module _ {p : Result Settings ParseError} (ep : p ≡ parse block) where
    pub block-refused : (e : ParseError) → p ≡ Err e → opened block img ≡ Err (stage_of e)
    unfolding opened opened_block
    block-refused e q = ap (opened_block img) (sym ep ∙ q)

    module _ (st : Settings) (e : p ≡ Ok st) where
      pub settings-valid : Valid st
      settings-valid = (parse-only block st (sym ep ∙ e)).valid

      from-frame : opened_frame (frame_of st img) ≡ opened block img
      unfolding opened opened_block
      from-frame = ap (opened_block img) (sym e ∙ ep)

      pub frame-opened : {f : Option Shape} → f ≡ frame_of st img → ok_or f stage.Frame ≡ opened block img
      unfolding opened_frame
      frame-opened ef = ap opened_frame ef ∙ from-frame

  -- ---- what is known of an image that is opened

  pub record Opens (z : Shape) : Type 0 where
    pub is : z ≡ shape block img
    pub framed : Framed z (length img)

  opens-frame : (st : Settings) → Accepts block st → (z : Shape) (f : Option Shape) → frame_of st img ≡ f → opened_frame f ≡ Ok z → Opens z
  unfolding opened_frame
  opens-frame st a z None q e = absurd (let n : ◌≡◌ {A = ℕ} 0 1 = cc in omega arith)
  opens-frame st a z (Some w) q e =
      let same : w ≡ z = cc in
      let at : frame_of st img ≡ Some z = q ∙ ap Some same in
      record { is = (frame-only st img z at).is ∙ ap (λ (x : Settings). shape_of x img) a.is; framed = frame-framed st img z a.valid at }

  opens-block : (z : Shape) (p : Result Settings ParseError) → parse block ≡ p → opened_block img p ≡ Ok z → Opens z
  unfolding opened_block
  opens-block z (Err f) q e = absurd (let n : ◌≡◌ {A = ℕ} 0 1 = cc in omega arith)
  opens-block z (Ok st) q e = opens-frame st (parse-only block st q) z (frame_of st img) refl e

  pub opens : (z : Shape) → opened block img ≡ Ok z → Opens z
  unfolding opened
  opens z e = opens-block z (parse block) refl e

  -- ---- an image whose block and frame fit is opened

  pub fits-opened : BlockFits block → Valid (settings_of block) → FrameFits (shape block img) img → opened block img ≡ Ok (shape block img)
  unfolding opened opened_block opened_frame
  fits-opened b v f = ap (opened_block img) (parse-accepts block b v) ∙ ap opened_frame (frame-fits (settings_of block) img f)
