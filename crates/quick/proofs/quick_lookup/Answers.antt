use Rattle.std.proofs.lemmas.Result.{err_from_is_err_and}
use Rattle.lists.proofs.Decides.{decided_true, decided-false}
use Rattle.quick.proofs.Answering.{quick_refused, quick_framed, quick_bad-key, quick_walked}
use Rattle.quick.proofs.quick_lookup.Goals as goal

pub returns-then-not-key_fits : goal.returns-then-not-key_fits
returns-then-not-key_fits c =
    quick_bad-key c.args.block.now c.args.img.now c.args.key.now c.open_image.ensures c.in_ok-z.z c.in_ok-z.was
    (decided-false c.key_fits.result c.key_fits.ensures c.if-not-key_fits.true)

pub walk-requires : goal.walk-requires
walk-requires c =
    record {
      framed = quick_framed c.args.block.now c.args.img.now c.args.key.now c.open_image.ensures c.in_ok-z.z c.in_ok-z.was;
      hash_is = c.hash-h.ensures (decided_true c.key_fits.result c.key_fits.ensures c.if-not-key_fits.false).not_longer;
    }

pub returns-in_err-z : goal.returns-in_err-z
returns-in_err-z c =
    let refused = err_from_is_err_and c.from_residual.result c.from_residual.ensures.1 in
    rw (refused.1, refused.2) (quick_refused c.args.block.now c.args.img.now c.args.key.now c.open_image.ensures _ c.in_err-z.was)

pub returns : goal.returns
returns c =
    quick_walked c.args.block.now c.args.img.now c.args.key.now c.open_image.ensures c.in_ok-z.z c.in_ok-z.was
    (decided_true c.key_fits.result c.key_fits.ensures c.if-not-key_fits.false) c.walk.ensures c.from_walk.ensures
