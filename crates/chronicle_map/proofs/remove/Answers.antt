use Rattle.std.proofs.lemmas.Result.{err_from_is_err_and}
use native.Mathlib.Omega.{arith}
use Rattle.chronicle_map.proofs.Asking.{key-sound}
use Rattle.chronicle_map.proofs.Calling.{remove-refused, remove-ready}
use Rattle.chronicle_map.proofs.remove.Goals as goal

pub remove_accepted-requires : goal.remove_accepted-requires
remove_accepted-requires c =
    key-sound c.args.block.now c.args.img.now c.args.key.now c.in_ok-z.z _
    c.asked_key.ensures c.in_ok-z.was (λ i. omega (arith, c.slice_known-1.given i))

pub returns-in_err-z : goal.returns-in_err-z
returns-in_err-z c =
    let refused = err_from_is_err_and c.from_residual.result c.from_residual.ensures.1 in
    rw (refused.1, refused.2)
    (remove-refused c.args.block.now c.args.img.now c.args.key.now c.asked_key.ensures _
    c.in_err-z.was)

pub returns : goal.returns
returns c =
    remove-ready c.args.block.now c.args.img.now c.args.key.now c.asked_key.ensures c.in_ok-z.z
    _ c.in_ok-z.was c.remove_accepted.ensures
