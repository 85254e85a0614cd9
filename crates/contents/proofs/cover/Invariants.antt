use lib.ListN.{length}
use Rattle.contents.proofs.Covering.{Covering}
use Rattle.contents.proofs.cover.Given as goal

abbrev pub invariant-loop-full : goal.invariant-loop-full
invariant-loop-full l = Covering l.z l.img l.s l.t l.list (length l.list) l.initial.covered l.covered l.run l.left l.full-index
