use lib.ListN.{length}
use Rattle.layout.specs.Tiers.{tiers}
use Rattle.chains.specs.Chains.{follow}
use Rattle.once.proofs.Walking.{Chaining}
use Rattle.once.proofs.pass_chain.Given as goal

abbrev pub invariant-loop-t : goal.invariant-loop-t
invariant-loop-t l = Chaining l.z l.img l.by l.p l.s l.initial.table l.table l.rest l.t

abbrev pub decreases-loop-t : goal.decreases-loop-t
decreases-loop-t l = length (follow l.z l.img (tiers l.z) l.t)
