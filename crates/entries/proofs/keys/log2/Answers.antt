use Rattle.entries.proofs.Powers.{log-power}
use Rattle.entries.proofs.keys.log2.Goals as goal

pub returns : goal.returns
returns c = (log-power c.args.x c.ilog2.result c.requires c.ilog2.ensures.power_le c.ilog2.ensures.next_power_gt, c.ilog2.ensures.bound)
