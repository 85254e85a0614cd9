use Rattle.std.proofs.lemmas.Result.{err_from_is_err_and}
use mathlib.Core.Path.{sym, ◌∙◌}
use native.Mathlib.Omega.{arith}
use Rattle.chronicle_map.proofs.Accepting.{ready-sound}
use Rattle.chronicle_map.proofs.Calling.{grow-refused, grow-ready}
use Rattle.chronicle_map.proofs.grow.Goals as goal

pub grow_accepted-requires : goal.grow_accepted-requires
grow_accepted-requires c =
    ready-sound c.args.block.now c.args.img.now c.in_ok-z.z _ (λ i. omega (arith, c.slice_known-1.given i))
    (sym c.examine.ensures ∙ c.in_ok-z.was)

pub returns-in_err-z : goal.returns-in_err-z
returns-in_err-z c =
    let refused = err_from_is_err_and c.from_residual.result c.from_residual.ensures.1 in
    rw (refused.1, refused.2)
    (grow-refused c.args.block.now c.args.img.now c.examine.ensures _ c.in_err-z.was)

pub returns : goal.returns
returns c =
    grow-ready c.args.block.now c.args.img.now c.examine.ensures c.in_ok-z.z _ c.in_ok-z.was
    c.grow_accepted.ensures
