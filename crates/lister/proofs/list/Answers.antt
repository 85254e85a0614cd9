use mathlib.Core.Path.{sym, ◌∙◌}
use native.Mathlib.Omega.{arith}
use lib.Seq.{length-take-le}
use Rattle.image.proofs.Ready.{ready-framed, ready-tiers}
use Rattle.lister.proofs.list.Goals as goal

pub slice_bounds-examine-end : goal.slice_bounds-examine-end
slice_bounds-examine-end g c = sym (length-take-le c.args.end c.args.input.now (omega arith))

pub all-requires : goal.all-requires
all-requires g c =
    let ready = sym c.examine.ensures ∙ c.in-Ok.is in
    (ready-framed _ _ _ _ ready, ready-tiers _ _ _ _ ready)
