use native.Mathlib.Omega.{arith}
use Rattle.std.proofs.Common.{rules}
use Rattle.entries.proofs.Sizes.{size-broken, size-told}
use Rattle.chronicle_map.proofs.Asking.{key-valid, entry-refused, entry-right, key-ready, value-wrong}
use Rattle.chronicle_map.proofs.asked_entry.Goals as goal

pub returns-in_err-z : goal.returns-in_err-z
returns-in_err-z c =
    rw (entry-refused c.args.block.now c.args.img.now c.args.key.now c.args.value.now c.asked_key.result c.asked_key.ensures _ c.in_err-z.was)
    (search rules)

pub value_fits-requires : goal.value_fits-requires
value_fits-requires c =
    let key = (key-ready c.args.block.now c.args.img.now c.args.key.now c.in_ok-z.z c.in_ok-z.c c.asked_key.ensures
    c.in_ok-z.was).key_fits in (
      key-valid c.args.block.now c.args.img.now c.args.key.now c.in_ok-z.z c.in_ok-z.c c.asked_key.ensures c.in_ok-z.was,
      omega (arith, key.not_longer),
    )

pub returns-in-Some : goal.returns-in-Some
returns-in-Some c =
    entry-right c.args.block.now c.args.img.now c.args.key.now c.args.value.now c.asked_key.result
    c.asked_key.ensures c.in_ok-z.z c.in_ok-z.c c.in_ok-z.was (size-told c.value_fits.ensures c.in-Some.is).0

pub returns-in-None : goal.returns-in-None
returns-in-None c =
    value-wrong c.args.block.now c.args.img.now c.args.key.now c.args.value.now c.asked_key.result
    c.asked_key.ensures c.in_ok-z.z c.in_ok-z.c c.in_ok-z.was (size-broken c.value_fits.ensures c.in-None.is)
