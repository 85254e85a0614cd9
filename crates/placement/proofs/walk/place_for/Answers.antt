use Rattle.placement.proofs.Walking.{placed-passed, placed-later}
use Rattle.placement.proofs.walk.place_for.Goals as goal

pub returns-in-Some : goal.returns-in-Some
returns-in-Some c key w = placed-passed _ _ key _ w c.in-Some.first c.in-Some.is

pub returns : goal.returns
returns c key w = placed-later _ _ key _ w c.in_default.is c.first_run.ensures
