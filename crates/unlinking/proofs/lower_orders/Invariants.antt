use lib.ListN.{length}
use Rattle.layout.specs.Tiers.{tiers}
use Rattle.chains.specs.Chains.{follow}
use Rattle.unlinking.proofs.Lowering.{Lowering}
use Rattle.unlinking.proofs.lower_orders.Given as goal

abbrev pub invariant-loop-t : goal.invariant-loop-t
invariant-loop-t l = Lowering l.z l.initial.img l.first l.img l.t

abbrev pub decreases-loop-t : goal.decreases-loop-t
decreases-loop-t l = length (follow l.z l.initial.img (tiers l.z) l.t)
