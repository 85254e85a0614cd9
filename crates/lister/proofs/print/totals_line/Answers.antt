use Rattle.lister.proofs.print.totals_line.Goals as goal

pub returns : goal.returns
returns c = c.totals_line.ensures
