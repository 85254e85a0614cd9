use Rattle.lister.proofs.rows.row_line.Goals as goal

pub returns : goal.returns
returns c = rw c.row_numbers-numbers.ensures at c.numbers_line.ensures
