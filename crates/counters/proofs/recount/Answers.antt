use Rattle.counters.proofs.FullCount.{recounted}
use Rattle.sound.proofs.Framing.{framed-again}
use Rattle.counters.proofs.recount.Goals as goal

pub full_slots-n-requires : goal.full_slots-n-requires
full_slots-n-requires c = record { framed = c.requires.0; tier_in = c.requires.1 }

pub put_shared-requires-2 : goal.put_shared-requires-2
put_shared-requires-2 c = (framed-again c.put_shared.auto.img c.requires.0, c.requires.1)

pub returns : goal.returns
returns c =
    recounted c.args.z c.args.img.now c.args.t
    c.full_slots-n.ensures
    c.lowest_clear-low.ensures
    c.put_shared.ensures c.put_shared-2.ensures
