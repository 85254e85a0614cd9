use Rattle.placement.proofs.Walking.{candidate_kept, candidate_none, candidate_tier}
use Rattle.placement.proofs.walk.or_tier.Goals as goal

pub returns-in-Some : goal.returns-in-Some
returns-in-Some c = candidate_kept c.args.z c.args.img.now c.args.n c.args.t c.args.j c.args.candidate c.in-Some.first c.in-Some.is

pub returns-in_default-run_in : goal.returns-in_default-run_in
returns-in_default-run_in c = candidate_none _ _ _ _ _ _ c.in_default.is c.run_in.ensures c.in_default-run_in.is

pub returns : goal.returns
returns c = candidate_tier _ _ _ _ _ _ c.in_default.is c.run_in.ensures c.in-At.tier c.in-At.chunk c.in-At.is
