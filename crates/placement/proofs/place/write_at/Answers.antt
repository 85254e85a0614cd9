use Rattle.sound.proofs.Framing.{framed-again}
use Rattle.placement.proofs.Written.{written_is}
use Rattle.placement.proofs.place.write_at.Goals as goal

pub write_from-requires : goal.write_from-requires
write_from-requires c =
    record {
      tier = record { framed = framed-again c.put_marks.auto.img c.requires.tier.framed; tier_in = c.requires.tier.tier_in };
      key_long = c.requires.key_long;
      value_long = c.requires.value_long;
      range_ends = c.requires.range_ends;
    }

pub returns : goal.returns
returns c =
    written_is c.args.z c.args.img.now c.args.t c.args.c c.args.key.now c.args.value.now
    c.chunks_for-n.ensures c.put_marks.ensures c.write_from.ensures
