use lib.ListN.{length}
use Rattle.layout.specs.Tiers.{tiers}
use Rattle.chains.specs.Chains.{follow}
use Rattle.chunks.proofs.Freeing.{Freeing}
use Rattle.chunks.proofs.free_fits.Given as goal

abbrev pub invariant-loop-t : goal.invariant-loop-t
invariant-loop-t l = Freeing l.z l.img l.t

abbrev pub decreases-loop-t : goal.decreases-loop-t
decreases-loop-t l = length (follow l.z l.img (tiers l.z) l.t)
