use native.Mathlib.Omega.{arith}
use Rattle.edit.proofs.Storage.{walk-asks}
use Rattle.edit.proofs.Choosing.{walks, spot-writes, spot-stored, tight-stored}
use Rattle.edit.proofs.store.Goals as goal

pub walk_chain-w-requires : goal.walk_chain-w-requires
walk_chain-w-requires c = walk-asks c.requires c.chunks_for-n.ensures

pub store_tight-requires : goal.store_tight-requires
store_tight-requires c = walks c.requires c.chunks_for-n.ensures c.walk_chain-w.ensures

pub returns-in_default : goal.returns-in_default
returns-in_default c =
    tight-stored (walks c.requires c.chunks_for-n.ensures c.walk_chain-w.ensures) c.args.policy c.on_the_spot.ensures c.in_default.is
    c.store_tight.result _ c.store_tight.ensures

pub write_from-requires : goal.write_from-requires
write_from-requires c =
    spot-writes (walks c.requires c.chunks_for-n.ensures c.walk_chain-w.ensures) c.args.policy c.on_the_spot.ensures c.in-Some.spot c.in-Some.is
    (λ i. omega (arith, c.type_inv.key i)) (λ i. omega (arith, c.type_inv.value i))

pub returns : goal.returns
returns c =
    spot-stored (walks c.requires c.chunks_for-n.ensures c.walk_chain-w.ensures) c.args.policy c.on_the_spot.ensures c.in-Some.spot c.in-Some.is
    c.write_from.ensures
