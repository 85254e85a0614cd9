use Rattle.lists.proofs.Decides.{decided_true, decided-false}
use mathlib.Core.Path.{refl}
use Rattle.contents.proofs.free_contents.Goals as goal

pub returns-then-free_fits : goal.returns-then-free_fits
returns-then-free_fits c = record { so = ((tt, decided_true c.free_fits.result c.free_fits.ensures c.if-free_fits.true), (refl, refl)) }

pub returns : goal.returns
returns c = record { so = (tt, decided-false c.free_fits.result c.free_fits.ensures c.if-free_fits.false) }
