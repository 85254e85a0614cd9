use Rattle.std.proofs.Common.{rules}
use Rattle.lists.proofs.Decides.{decided_true, decided-false}
use Rattle.chronicle_map.specs.Asked.{after_examined, asked}
use Rattle.chronicle_map.proofs.Asking.{key-wrong, key_right}
use Rattle.chronicle_map.proofs.asked_key.Goals as goal

pub returns-in_err-z : goal.returns-in_err-z
unfolding asked after_examined
returns-in_err-z c = search rules

pub returns-then-not-key_fits : goal.returns-then-not-key_fits
returns-then-not-key_fits c =
    key-wrong c.args.block.now c.args.img.now c.args.key.now c.examine.result c.examine.ensures
    c.in_ok-z.z c.in_ok-z.c c.in_ok-z.was
    (decided-false c.key_fits.result c.key_fits.ensures c.if-not-key_fits.true)

pub returns : goal.returns
returns c =
    key_right c.args.block.now c.args.img.now c.args.key.now c.examine.result c.examine.ensures
    c.in_ok-z.z c.in_ok-z.c c.in_ok-z.was
    (decided_true c.key_fits.result c.key_fits.ensures c.if-not-key_fits.false)
