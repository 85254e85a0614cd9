use Rattle.settings.proofs.Powers.{one_bit}
use Rattle.settings.proofs.power_of_two.Goals as goal

pub returns : goal.returns
returns c = rw c.is_power_of_two.ensures (one_bit c.args.n c.requires)
