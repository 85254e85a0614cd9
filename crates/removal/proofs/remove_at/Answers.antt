use Rattle.sound.proofs.Framing.{framed-again}
use Rattle.removal.proofs.Emptying.{removed-at}
use Rattle.removal.proofs.remove_at.Goals as goal

pub empty_slot-requires : goal.empty_slot-requires
empty_slot-requires c =
    record {
      tier = record { framed = framed-again c.put_marks.auto.img c.requires.slot.tier.framed; tier_in = c.requires.slot.tier.tier_in };
      slot_in = c.requires.slot.slot_in;
    }

pub returns : goal.returns
returns c = removed-at c.args.z c.args.img.now c.args.t c.args.j c.args.c c.args.n c.put_marks.ensures c.empty_slot.ensures
