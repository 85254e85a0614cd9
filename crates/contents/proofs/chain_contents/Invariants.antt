use lib.ListN.{length}
use Rattle.layout.specs.Tiers.{tiers}
use Rattle.chains.specs.Chains.{follow}
use Rattle.contents.proofs.Sums.{Summing}
use Rattle.contents.proofs.chain_contents.Given as goal

abbrev pub invariant-loop-t : goal.invariant-loop-t
invariant-loop-t l = Summing l.z l.img l.s l.sum l.apart l.t

abbrev pub decreases-loop-t : goal.decreases-loop-t
decreases-loop-t l = length (follow l.z l.img (tiers l.z) l.t)
