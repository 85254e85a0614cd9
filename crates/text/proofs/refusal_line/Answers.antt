use Rattle.text.proofs.Adding.{added-reads, added_then}
use Rattle.text.proofs.refusal_line.Goals as goal

pub returns : goal.returns
returns c = added-reads c.start.ensures (added_then c.put_item.ensures.added c.put_byte.ensures)
