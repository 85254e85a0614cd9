use mathlib.Core.Path.{ap, ◌∙◌}
use Prim.Native.Nat.{ℕ}
use lib.Dec.{eqb}
use Rattle.placement.proofs.OldEntry.{clear-old, clear_else, clear-before, clear-after}
use Rattle.placement.proofs.runs.is_clear.Goals as goal
use Rattle.placement.proofs.runs.is_clear.Goals.{in-Some+else-t-o, else-t-o-via-then-t-o+then-o-i+else-i-o, else-t-o-via-then-t-o+else-o-i, else-t-o-via-else-t-o, in_default}

pub returns-then-i-o : goal.returns-then-i-o
returns-then-i-o c =
    rw c.in-Some.is
    (clear-old c.args.z c.args.img.now c.in-Some.o c.args.t c.args.i c.if-t-o.true c.if-o-i.true c.if-i-o.true)

pub returns : goal.returns
returns c =
    ap (λ (m : ℕ). eqb m 0) c.mark.ensures.0 ∙
    elim c.match-old.branch [
      | in-Some+else-t-o w ↦
          rw w.in-Some.is
          (elim w.else-t-o.branch [
            | else-t-o-via-then-t-o+then-o-i+else-i-o v ↦ clear-after c.args.z c.args.img.now w.in-Some.o c.args.t c.args.i v.if-i-o.false
            | else-t-o-via-then-t-o+else-o-i v ↦ clear-before c.args.z c.args.img.now w.in-Some.o c.args.t c.args.i v.if-o-i.false
            | else-t-o-via-else-t-o v ↦ clear_else c.args.z c.args.img.now _ c.args.t c.args.i v.if-t-o.false
          ])
      | in_default w ↦ rw w.in_default.is (clear_else c.args.z c.args.img.now _ c.args.t c.args.i tt)
    ]
