use Rattle.once.specs.Sharing.{place_for}
use borrow.Author.Rules.{rules}
use Rattle.once.proofs.table.place_of.Goals as goal

pub returns : goal.returns
unfolding place_for
returns c = search rules
