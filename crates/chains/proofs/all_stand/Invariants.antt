use Rattle.chains.proofs.Standing.{Standing}
use Rattle.chains.proofs.all_stand.Given as goal

abbrev pub invariant-loop-i : goal.invariant-loop-i
invariant-loop-i l = Standing l.z l.img l.s l.n l.i l.t l.previous
