use mathlib.Core.Path.{ap, ◌∙◌}
use Rattle.entries.specs.Stored.{entry_of}
use Rattle.entries.proofs.LiveLists.{entry-made}
use Rattle.entries.proofs.read.entry_at.Goals as goal

pub returns : goal.returns
returns c =
    c.entry_of.ensures ∙ ap entry_of c.stored.ensures ∙ entry-made c.args.z c.args.img.now c.args.t
    c.args.j c.chunk_of.ensures
