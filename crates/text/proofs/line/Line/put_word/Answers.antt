use borrow.Author.Rules.{rules}
use native.Mathlib.Omega.{arith}
use Rattle.lists.proofs.Lists.{flat_map_one}
use Rattle.text.proofs.Adding.{add-starts, add-turns, add-ends, added_as, added-within}
use Rattle.text.proofs.line.Line.put_word.Goals as goal

pub loop-b-init : goal.loop-b-init
loop-b-init c = add-starts

pub loop-b-preserved : goal.loop-b-preserved
loop-b-preserved c = add-turns c.loop-b.invariant (search rules) (added-within c.put_byte-l.ensures (omega arith))

pub returns : goal.returns
returns c = added_as (flat_map_one _) (add-ends c.loop-b.invariant (search rules)).added
