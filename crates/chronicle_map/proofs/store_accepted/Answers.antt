use Rattle.chronicle_map.proofs.Calling.{stored-done, stored-full}
use Rattle.chronicle_map.proofs.store_accepted.Goals as goal

pub returns-then-store : goal.returns-then-store
returns-then-store c =
    stored-done c.args.policy c.args.z c.args.img.now c.args.key.now c.args.value.now c.store.result
    c.store.ensures c.if-store.true

pub returns : goal.returns
returns c =
    stored-full c.args.policy c.args.z c.args.img.now c.args.key.now c.args.value.now c.store.result
    c.store.ensures c.if-store.false
