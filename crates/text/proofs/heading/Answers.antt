use Rattle.text.proofs.Adding.{added-reads}
use Rattle.text.proofs.heading.Goals as goal

pub returns : goal.returns
returns c = added-reads c.start.ensures c.put_word.ensures
