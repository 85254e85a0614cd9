use mathlib.Core.Bool.{true}
use Rattle.lists.proofs.Upto.{Upto}
use Rattle.once.specs.Walk.{PassSays}
use Rattle.once.proofs.keys_once.Given as goal

abbrev pub invariant-loop-p : goal.invariant-loop-p
invariant-loop-p l = Upto (λ q. PassSays l.z l.img l.by q l.s true) l.passes l.p
