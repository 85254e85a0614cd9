use native.Mathlib.Omega.{arith}
use Rattle.placement.proofs.OldEntry.{scan-old, scan_else}
use Rattle.placement.proofs.runs.scan_from.Goals as goal
use Rattle.placement.proofs.runs.scan_from.Goals.{else-t-o-via-then-t-o+else-o-low, else-t-o-via-else-t-o}

pub returns-then-o-low : goal.returns-then-o-low
returns-then-o-low c = rw c.in-Some.is (scan-old _ _ _ c.requires.1 (omega (arith, c.shared-low.ensures, c.if-o-low.true)) _ (omega arith))

pub returns-else-t-o : goal.returns-else-t-o
returns-else-t-o c =
    rw c.in-Some.is
    (elim c.else-t-o.branch [
      | else-t-o-via-then-t-o+else-o-low w ↦ scan-old _ _ _ c.requires.1 (omega (arith, c.shared-low.ensures)) _ w.if-o-low.false
      | else-t-o-via-else-t-o w ↦ scan_else _ _ _ c.requires.1 (omega (arith, c.shared-low.ensures)) _ w.if-t-o.false
    ])

pub returns-in_default : goal.returns-in_default
returns-in_default c = rw c.in_default.is (scan_else _ _ _ c.requires.1 (omega (arith, c.shared-low.ensures)) _ tt)
