use lib.ListN.{length}
use Rattle.image.specs.Cursor.{rest, InChain}
use Rattle.lister.proofs.rows.all.Given as goal

abbrev pub invariant-loop-e : goal.invariant-loop-e
invariant-loop-e g l = InChain l.z l.img l.c

abbrev pub decreases-loop-e : goal.decreases-loop-e
decreases-loop-e g l = length (rest l.z l.img l.c)
