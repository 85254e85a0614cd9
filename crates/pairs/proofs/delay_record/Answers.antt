use mathlib.Core.Path.{◌∙◌}
use Rattle.pairs.proofs.Records.{record_of}
use Rattle.pairs.proofs.delay_record.Goals as goal

pub returns : goal.returns
returns c = c.to_le_bytes.ensures ∙ record_of c.args.d c.ranges.d
