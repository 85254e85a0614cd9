use lib.ListN.{length}
use Rattle.layout.specs.Tiers.{tiers}
use Rattle.chains.specs.Chains.{follow}
use Rattle.once.specs.Walk.{PassLands}
use Rattle.once.proofs.Searching.{TiersHold}
use Rattle.once.proofs.slow.chain_lands.Given as goal

abbrev pub invariant-loop-t : goal.invariant-loop-t
invariant-loop-t l = TiersHold l.z l.img l.s (PassLands l.z l.img l.by l.p) l.t

abbrev pub decreases-loop-t : goal.decreases-loop-t
decreases-loop-t l = length (follow l.z l.img (tiers l.z) l.t)
