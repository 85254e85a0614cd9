use native.Mathlib.Omega.{arith}
use Rattle.sound.proofs.Framing.{framed-again}
use Rattle.unlinking.proofs.Lowering.{lowering_starts, lowering_long, lowering_ends, lowering_tier, lowering_some, lowering_turns, lowering_less}
use Rattle.unlinking.proofs.lower_orders.Goals as goal

pub loop-t-init : goal.loop-t-init
loop-t-init c = lowering_starts _ _ _

pub shared-next-requires : goal.shared-next-requires
shared-next-requires c = (framed-again (lowering_long c.loop-t.invariant) c.requires.framed, lowering_tier c.loop-t.invariant c.requires c.loop-t-test.true)

pub read-counters-requires : goal.read-counters-requires
read-counters-requires c = (framed-again (lowering_long c.loop-t.invariant) c.requires.framed, lowering_tier c.loop-t.invariant c.requires c.loop-t-test.true)

pub overflow_sub-counters : goal.overflow_sub-counters
overflow_sub-counters c = omega (arith, lowering_some c.loop-t.invariant c.requires c.loop-t-test.true c.read-counters.ensures)

pub put_counter-requires : goal.put_counter-requires
put_counter-requires c = (framed-again (lowering_long c.loop-t.invariant) c.requires.framed, lowering_tier c.loop-t.invariant c.requires c.loop-t-test.true)

pub loop-t-smaller : goal.loop-t-smaller
loop-t-smaller c = lowering_less c.loop-t.invariant c.requires c.loop-t-test.true c.shared-next.ensures

pub loop-t-preserved : goal.loop-t-preserved
loop-t-preserved c = lowering_turns c.loop-t.invariant c.requires c.loop-t-test.true c.read-counters.ensures c.shared-next.ensures c.put_counter.ensures

pub shape_of-img : goal.shape_of-img
shape_of-img c = lowering_long c.loop-t.invariant

pub returns : goal.returns
returns c = lowering_ends c.loop-t.invariant c.loop-t-test.false
