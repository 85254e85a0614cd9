use native.Mathlib.Omega.{arith}
use Rattle.sound.proofs.Framing.{framed-again}
use Rattle.growing.proofs.Loops.{empty_slots-starts, empty_slots-long, empty_slots-turns, empty_slots-ends}
use Rattle.growing.proofs.empty_slots.Goals as goal

pub loop-j-init : goal.loop-j-init
loop-j-init c = empty_slots-starts _ _ _

pub put_slot-requires : goal.put_slot-requires
put_slot-requires c =
    record {
      tier = record { framed = framed-again (empty_slots-long _ _ _ c.loop-j.invariant) c.requires.framed; tier_in = c.requires.tier_in };
      slot_in = omega arith;
    }

pub loop-j-preserved : goal.loop-j-preserved
loop-j-preserved c = empty_slots-turns _ _ _ c.loop-j.invariant c.put_slot.ensures

pub shape_of-img : goal.shape_of-img
shape_of-img c = empty_slots-long _ _ _ c.loop-j.invariant

pub returns : goal.returns
returns c = empty_slots-ends _ _ _ c.loop-j.invariant (omega arith)
