use Rattle.contents.proofs.keys_fit.Goals as goal

pub later_once-requires : goal.later_once-requires
later_once-requires c = record { reads = c.requires.reads; alone = c.requires.alone c.if-apart.true }

pub keys_once-requires : goal.keys_once-requires
keys_once-requires c = c.requires.reads
