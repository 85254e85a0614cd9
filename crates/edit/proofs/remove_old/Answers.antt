use mathlib.Core.Path.{◌∙◌}
use Rattle.edit.proofs.Replacing.{without_old-none, without_old-some}
use Rattle.edit.proofs.remove_old.Goals as goal

pub returns-in-Some : goal.returns-in-Some
returns-in-Some c = c.remove_at.ensures ∙ without_old-some c.args.z c.args.img.now c.in-Some.is

pub returns-in_default : goal.returns-in_default
returns-in_default c = without_old-none c.args.z c.args.img.now c.in_default.is
