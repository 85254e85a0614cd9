use native.Mathlib.Omega.{arith}
use Rattle.lists.proofs.Decides.{decides_eq}
use Rattle.chunks.proofs.Marks.{lowest-few}
use Rattle.chunks.proofs.low_mark_fits.Goals as goal

pub returns : goal.returns
returns c =
    let few = lowest-few c.args.z c.args.img.now c.args.t in
    decides_eq c.shared-field.result c.lowest_clear-low.result
    (λ e.
    record {
      none_below = omega (arith, e, c.shared-field.ensures, c.lowest_clear-low.ensures);
      when_full = λ full. omega (arith, e, c.shared-field.ensures, c.lowest_clear-low.ensures, full);
    })
    (λ f. omega (
      arith,
      c.shared-field.ensures,
      c.lowest_clear-low.ensures,
      c.if-low-z.false,
      few,
      f.when_full (omega (arith, c.lowest_clear-low.ensures, c.if-low-z.false, few)),
    ))
