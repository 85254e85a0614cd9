use native.Mathlib.Omega.{arith}
use mathlib.Core.Path.{sym, subst}
use Rattle.image.specs.Cursor.{Begins}
use Rattle.image.proofs.Rest.{begins}
use Rattle.image.proofs.cursor.LiveCursor.first.Goals as goal

pub returns : goal.returns
returns c = λ img is. subst (Begins c.args.z img) (sym c.start.ensures) (begins c.args.z img (omega (arith, c.requires.valid.segments)) is)
