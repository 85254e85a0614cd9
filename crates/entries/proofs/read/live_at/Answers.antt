use mathlib.Core.Path.{ap, ◌∙◌}
use Rattle.entries.specs.Stored.{entry_of}
use Rattle.entries.proofs.LiveLists.{entry-made, live_made}
use Rattle.entries.proofs.Whole.{entry-small}
use Rattle.entries.proofs.read.live_at.Goals as goal

pub chunks_for-requires : goal.chunks_for-requires
chunks_for-requires c =
    let small = entry-small c.args.z c.args.img.now c.args.t c.chunk_of-chunk.result in
    record { valid = c.requires.tier.framed.valid; lengths = rw (c.entry_of-e.ensures, c.stored.ensures) small }

pub returns : goal.returns
returns c =
    live_made c.args.z c.args.img.now c.args.s c.args.t c.args.j c.chunk_of-chunk.ensures
    (c.entry_of-e.ensures ∙ ap entry_of c.stored.ensures ∙ entry-made c.args.z c.args.img.now
    c.args.t c.args.j c.chunk_of-chunk.ensures)
    c.chunks_for.ensures
