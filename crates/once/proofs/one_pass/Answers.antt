use mathlib.Core.Path.{refl}
use native.Mathlib.Omega.{arith}
use Rattle.once.proofs.one_pass.Goals as goal

pub fresh_pass-requires : goal.fresh_pass-requires
fresh_pass-requires c = (c.requires, omega arith, (9, (omega arith, refl)), omega arith)

pub fresh_pass-requires-2 : goal.fresh_pass-requires-2
fresh_pass-requires-2 c = (c.requires, omega arith, (14, (omega arith, refl)), omega arith)
