use Rattle.std.proofs.lemmas.Result.{err_from_is_err_and}
use mathlib.Core.Path.{ap, sym, ◌∙◌}
use Rattle.image.specs.List.{from_nth, from_examined, entry}
use Rattle.image.proofs.Ready.{ready-framed, ready-tiers}
use Rattle.image.proofs.list.entry.Goals as goal

pub nth-requires : goal.nth-requires
nth-requires c = (
  ready-framed c.args.block.now c.args.img.now c.in_ok-z.z _
      (sym c.examine.ensures ∙ c.in_ok-z.was),
  ready-tiers c.args.block.now c.args.img.now c.in_ok-z.z
      _ (sym c.examine.ensures ∙ c.in_ok-z.was),
)

pub returns-in_err-z : goal.returns-in_err-z
unfolding entry from_examined
returns-in_err-z c =
    let refused = err_from_is_err_and c.from_residual.result c.from_residual.ensures.1 in
    rw (refused.1, refused.2) (sym (ap (from_examined c.args.img.now c.args.n) (sym c.examine.ensures ∙ c.in_err-z.was)))

pub returns-in-Ok : goal.returns-in-Ok
unfolding entry from_examined from_nth
returns-in-Ok c =
    sym (ap (from_examined c.args.img.now c.args.n) (sym c.examine.ensures ∙ c.in_ok-z.was) ∙ ap from_nth (sym c.nth.ensures ∙ c.in-Ok.is))

pub returns-in-Err : goal.returns-in-Err
unfolding entry from_examined from_nth
returns-in-Err c =
    sym (ap (from_examined c.args.img.now c.args.n) (sym c.examine.ensures ∙ c.in_ok-z.was) ∙ ap from_nth (sym c.nth.ensures ∙ c.in-Err.is))
