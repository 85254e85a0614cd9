use native.Mathlib.Omega.{arith}
use Rattle.settings.proofs.Versions.{fields-1, fields-other}
use Rattle.settings.proofs.fields_of.Goals as goal

pub returns-in-1 : goal.returns-in-1
returns-in-1 c = (fields-1 c.in-1.is, omega arith)

pub returns-in_default : goal.returns-in_default
returns-in_default c = (fields-other (omega arith), omega arith)
