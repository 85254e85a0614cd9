use mathlib.Core.Path.{◌≡◌, sym, ◌∙◌, ap, subst}
use Rattle.std.specs.Prelude.{Some}
use Rattle.lists.proofs.Decides.{decided_true, decided-false}
use Rattle.layout.proofs.Frames.{frame-fits, frame-broken}
use Rattle.layout.specs.Frame.{shape_of, FrameFits}
use native.Mathlib.Omega.{arith}
use Rattle.layout.proofs.frame_of.Goals as goal

pub returns-then-img-st : goal.returns-then-img-st
unfolding shape_of
returns-then-img-st c = sym (frame-broken _ _ (λ f. omega (arith, f.image_length.0, c.if-img-st.true)))

pub returns-then-img-gt-LARGEST : goal.returns-then-img-gt-LARGEST
unfolding shape_of
returns-then-img-gt-LARGEST c = sym (frame-broken _ _ (λ f. omega (arith, f.image_length.1, c.if-img-gt-LARGEST.true)))

pub frame_fits-requires : goal.frame_fits-requires
unfolding shape_of
frame_fits-requires c =
    let e : c.shape_of-z.result.settings.globalAt ≡ c.args.st.globalAt =
    ap (λ x. x.settings.globalAt) c.shape_of-z.ensures.0 in
    (c.shape_of-z.ensures.1, (omega (arith, c.if-img-st.false), omega (arith, c.if-img-gt-LARGEST.false)))

pub returns-then-frame_fits : goal.returns-then-frame_fits
returns-then-frame_fits c =
    let f = decided_true c.frame_fits.result c.frame_fits.ensures c.if-frame_fits.true in
    ap Some c.shape_of-z.ensures.0 ∙ sym (frame-fits _ c.args.img.now (subst (λ x. FrameFits x c.args.img.now) c.shape_of-z.ensures.0 f))

pub returns-else-frame_fits : goal.returns-else-frame_fits
returns-else-frame_fits c =
    let h = decided-false c.frame_fits.result c.frame_fits.ensures c.if-frame_fits.false in
    sym (frame-broken _ c.args.img.now (λ f. h (subst (λ x. FrameFits x c.args.img.now) (sym c.shape_of-z.ensures.0) f)))
