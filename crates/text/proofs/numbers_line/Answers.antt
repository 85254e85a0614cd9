use Rattle.text.proofs.Adding.{added-reads, added_as, added_then, line_first}
use Rattle.text.proofs.numbers_line.Goals as goal

pub returns : goal.returns
returns c =
    let both = added_then c.put_number-first.ensures.added c.put_numbers.ensures.added in
    added-reads c.start.ensures (added_as (line_first _ c.requires.0) (added_then both c.put_byte.ensures))
