use Rattle.placement.proofs.OldEntry.{entry-lengths, old-is}
use Rattle.placement.proofs.Old.at.Goals as goal

pub chunks_for-requires : goal.chunks_for-requires
chunks_for-requires c =
    record {
      valid = c.requires.tier.framed.valid;
      lengths = entry-lengths c.args.z c.args.img.now c.args.t c.args.j c.entry_at-e.result c.entry_at-e.ensures;
    }

pub returns : goal.returns
returns c = old-is c.args.z c.args.img.now c.args.t c.args.j c.entry_at-e.ensures c.chunk_of.ensures c.chunks_for.ensures
