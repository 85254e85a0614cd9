use Rattle.growing.proofs.Loops.{MakingTiers}
use Rattle.growing.proofs.new_tiers.Given as goal

abbrev pub invariant-loop-k : goal.invariant-loop-k
invariant-loop-k l = MakingTiers l.fn.z l.initial.img l.img l.k
