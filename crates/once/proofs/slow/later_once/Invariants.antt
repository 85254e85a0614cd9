use mathlib.Core.Bool.{false}
use lib.ListN.{length}
use Rattle.layout.specs.Tiers.{tiers}
use Rattle.chains.specs.Chains.{follow}
use Rattle.once.specs.declared.Sharing.{Sharing}
use Rattle.once.proofs.Searching.{TiersHold}
use Rattle.once.proofs.Passes.{LaterLands}
use Rattle.once.proofs.slow.later_once.Given as goal

abbrev pub all : Sharing
all = record { byHash = false; passBits = 0 }

abbrev pub invariant-loop-t : goal.invariant-loop-t
invariant-loop-t l = TiersHold l.z l.img l.s (LaterLands l.z l.img l.s all) l.t

abbrev pub decreases-loop-t : goal.decreases-loop-t
decreases-loop-t l = length (follow l.z l.img (tiers l.z) l.t)
