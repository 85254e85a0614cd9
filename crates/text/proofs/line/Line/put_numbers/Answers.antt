use borrow.Author.Rules.{rules}
use Rattle.text.specs.Text.{spaced}
use Rattle.text.proofs.Adding.{add-starts, add-turns, add-ends}
use Rattle.text.proofs.line.Line.put_numbers.Goals as goal

pub loop-n-init : goal.loop-n-init
loop-n-init c = add-starts

pub loop-n-preserved : goal.loop-n-preserved
loop-n-preserved c = add-turns c.loop-n.invariant (search rules) c.put_spaced-l.ensures

pub returns : goal.returns
unfolding spaced
returns c = add-ends c.loop-n.invariant (search rules)
