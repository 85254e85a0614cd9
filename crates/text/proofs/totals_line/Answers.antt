use Rattle.text.proofs.Adding.{added-reads, added_then}
use Rattle.text.proofs.totals_line.Goals as goal

pub returns : goal.returns
returns c =
    let two = added_then c.put_item.ensures.added c.put_item-2.ensures.added in
    let four = added_then (added_then two c.put_item-3.ensures.added) c.put_item-4.ensures.added in
    added-reads c.start.ensures (added_then four c.put_byte.ensures)
