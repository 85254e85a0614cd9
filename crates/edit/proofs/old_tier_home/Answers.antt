use mathlib.Core.Path.{◌∙◌}
use Rattle.edit.proofs.Replacing.{old_home-none, old_home-some}
use Rattle.edit.proofs.old_tier_home.Goals as goal

pub returns-in-Some : goal.returns-in-Some
returns-in-Some c = c.unlink_empty.ensures ∙ old_home-some c.args.z c.args.img.now c.in-Some.is

pub returns-in_default : goal.returns-in_default
returns-in_default c = old_home-none c.args.z c.args.img.now c.in_default.is
