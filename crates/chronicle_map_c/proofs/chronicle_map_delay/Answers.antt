use mathlib.Core.Path.{ap, ◌∙◌}
use Rattle.pairs.specs.Delays.{asked_reply}
use Rattle.chronicle_map_c.proofs.chronicle_map_delay.Goals as goal

pub returns : goal.returns
returns c = c.tell_delay.ensures ∙ ap asked_reply c.delay.ensures
