use Rattle.std.proofs.lemmas.Result.{err_from_is_err_and}
use native.Mathlib.Omega.{arith}
use Rattle.chronicle_map.proofs.Asking.{entry-storable}
use Rattle.chronicle_map.proofs.Calling.{store-refused, store-ready}
use Rattle.chronicle_map.proofs.store_by.Goals as goal

pub store_accepted-requires : goal.store_accepted-requires
store_accepted-requires c =
    entry-storable c.args.block.now c.args.img.now c.args.key.now c.args.value.now c.in_ok-z.z _ c.asked_entry.ensures
    c.in_ok-z.was (λ i. omega (arith, c.slice_known-1.given i))

pub returns-in_err-z : goal.returns-in_err-z
returns-in_err-z c =
    let refused = err_from_is_err_and c.from_residual.result c.from_residual.ensures.1 in
    rw (refused.1, refused.2)
    (store-refused c.args.policy c.args.block.now c.args.img.now c.args.key.now c.args.value.now
    c.asked_entry.ensures _ c.in_err-z.was)

pub returns : goal.returns
returns c =
    store-ready c.args.policy c.args.block.now c.args.img.now c.args.key.now c.args.value.now c.asked_entry.ensures
    c.in_ok-z.z _ c.in_ok-z.was c.store_accepted.ensures
