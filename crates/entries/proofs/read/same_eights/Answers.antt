use mathlib.Core.Path.{sym, ◌∙◌}
use native.Mathlib.Omega.{arith}
use Rattle.entries.proofs.Matching.{eights_turn, eights_differ}
use Rattle.entries.proofs.read.same_eights.Goals as goal

pub returns-then-read_le8 : goal.returns-then-read_le8
returns-then-read_le8 c =
    eights_differ c.args.img.now c.args.at c.args.key.now c.loop-k.k c.args.n c.loop-k-test.true
    (λ q. c.if-read_le8.true (c.read_le8.ensures ∙ q ∙ sym c.read_le8-in-loop-k.ensures))

pub loop-k-preserved : goal.loop-k-preserved
loop-k-preserved c = (
  omega arith,
  eights_turn c.args.img.now c.args.at c.args.key.now c.loop-k.k (λ i. omega (arith, c.type_inv.img i))
      (λ i. omega (arith, c.type_inv.key i)) c.loop-k.invariant.1 (sym c.read_le8.ensures ∙ c.if-read_le8.false ∙ c.read_le8-in-loop-k.ensures),
)
