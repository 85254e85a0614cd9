use Rattle.placement.proofs.Written.{new-empty, new-holds}
use Rattle.placement.proofs.place.slot_for.Goals as goal

pub returns-in-Empty : goal.returns-in-Empty
returns-in-Empty c =
    new-empty c.args.z c.args.img.now c.args.key.now c.args.lookup c.args.t c.requires
    c.seek.result c.seek.ensures c.in-Empty.j c.in-Empty.is

pub returns-in-Holds : goal.returns-in-Holds
returns-in-Holds c =
    new-holds c.args.z c.args.img.now c.args.key.now c.args.lookup c.args.t c.requires
    c.seek.result c.seek.ensures c.in-Holds.j c.in-Holds.is
