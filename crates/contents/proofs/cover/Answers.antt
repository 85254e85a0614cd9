use native.Mathlib.Omega.{arith}
use lib.ListN.{length}
use borrow.Author.Tests.{ltb-true}
use Rattle.contents.proofs.Covering.{listed, covering-starts, covering-long, covering-small, run-here, covering-lost, entry_in, range_in, covering-turns, covering-ends}
use Rattle.contents.proofs.cover.Goals as goal

pub loop-full-init : goal.loop-full-init
loop-full-init c = covering-starts c.args.z c.args.img.now c.args.s c.args.t c.args.list.now (length c.args.list.now) _ c.requires.lists c.requires.begins

pub run_up_to-run-requires : goal.run_up_to-run-requires
run_up_to-run-requires c = (
  omega (arith, (listed c.args.z c.args.img.now c.args.t c.requires.lists c.loop-full.full-index (omega arith)).0, c.requires.tier.chains.framed.valid.slots),
  omega
      (arith, c.loop-full.invariant.short, c.requires.tier.chains.framed.valid.slots),
)

pub slot_fits-requires : goal.slot_fits-requires
slot_fits-requires c =
    let slot = listed c.args.z c.args.img.now c.args.t c.requires.lists c.loop-full.full-index (omega arith) in
    record {
      slot = record { tier = c.requires.tier; slot_in = slot.0; full = slot.1 };
      run = run-here c.args.z c.args.img.now c.args.s c.args.t c.args.list.now (length c.args.list.now) c.loop-full.invariant c.requires.lists (omega arith)
          c.run_up_to-run.ensures;
    }

pub returns-in_err-c : goal.returns-in_err-c
returns-in_err-c c =
    rw c.from_residual.ensures
    (covering-lost c.args.z c.args.img.now c.args.s c.args.t c.args.list.now (length c.args.list.now) c.loop-full.invariant c.requires.lists (omega arith)
    c.run_up_to-run.ensures c.slot_fits.result
    c.slot_fits.ensures c.in_err-c.was)

pub steps_left-left-requires : goal.steps_left-left-requires
steps_left-left-requires c =
    let slot = listed c.args.z c.args.img.now c.args.t c.requires.lists c.loop-full.full-index (omega arith) in
    record {
      slot = record { tier = c.requires.tier; slot_in = slot.0; full = slot.1 };
      fits = entry_in c.args.z c.args.img.now c.args.s c.args.t c.args.list.now (length c.args.list.now) c.loop-full.invariant c.requires.lists
          (omega arith) c.run_up_to-run.ensures c.slot_fits.result
          c.slot_fits.ensures c.in_ok-c.c c.in_ok-c.n c.in_ok-c.was;
    }

pub count-requires : goal.count-requires
count-requires c =
    record {
      ends = omega (
        arith,
        range_in c.args.z c.args.img.now c.args.s c.args.t c.args.list.now (length c.args.list.now) c.loop-full.invariant c.requires.lists (omega arith)
            c.run_up_to-run.ensures c.slot_fits.result
            c.slot_fits.ensures c.in_ok-c.c c.in_ok-c.n c.in_ok-c.was,
        covering-long c.args.z c.args.img.now c.args.s c.args.t c.args.list.now (length c.args.list.now) c.loop-full.invariant,
        c.requires.long,
      );
      few = covering-small c.args.z c.args.img.now c.args.s c.args.t c.args.list.now (length c.args.list.now) c.loop-full.invariant c.requires.lists
          c.requires.zeros
          c.requires.tier.chains.framed.valid.slots.1.1;
    }

pub loop-full-preserved : goal.loop-full-preserved
loop-full-preserved c =
    covering-turns c.args.z c.args.img.now c.args.s c.args.t c.args.list.now (length c.args.list.now) c.loop-full.invariant c.requires.lists (omega arith)
    c.run_up_to-run.ensures c.slot_fits.result
    c.slot_fits.ensures c.in_ok-c.c c.in_ok-c.n c.in_ok-c.was c.count.ensures c.steps_left-left.ensures.1
    (λ some. omega (arith, c.steps_left-left.ensures.0))

pub shape_of-covered : goal.shape_of-covered
shape_of-covered c = covering-long c.args.z c.args.img.now c.args.s c.args.t c.args.list.now (length c.args.list.now) c.loop-full.invariant

pub returns : goal.returns
returns c =
    covering-ends c.args.z c.args.img.now c.args.s c.args.t c.args.list.now (length c.args.list.now) c.loop-full.invariant c.requires.lists
    (omega arith) (λ q. ltb-true _ _ q)
