use Rattle.lister.proofs.print.refusal_line.Goals as goal

pub returns : goal.returns
returns c = rw c.from.ensures at c.refusal_line.ensures
