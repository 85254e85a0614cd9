use Rattle.walk.proofs.Walking.{Walking}
use Rattle.walk.proofs.walk.Given as goal

abbrev pub invariant-loop-tiers : goal.invariant-loop-tiers
invariant-loop-tiers l = Walking l.z l.img l.key l.t l.tiers

abbrev pub decreases-loop-tiers : goal.decreases-loop-tiers
decreases-loop-tiers l = l.tiers
