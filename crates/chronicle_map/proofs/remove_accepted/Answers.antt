use Rattle.chronicle_map.proofs.Calling.{removed-done, removed-absent}
use Rattle.chronicle_map.proofs.remove_accepted.Goals as goal

pub returns-then-remove : goal.returns-then-remove
returns-then-remove c =
    removed-done c.args.z c.args.img.now c.args.key.now c.remove.result c.remove.ensures.0 c.remove.ensures.1
    c.if-remove.true

pub returns : goal.returns
returns c =
    removed-absent c.args.z c.args.img.now c.args.key.now c.remove.result c.remove.ensures.0 c.remove.ensures.1
    c.if-remove.false
