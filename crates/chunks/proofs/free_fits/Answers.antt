use Rattle.lists.proofs.Decides.{decided_true, decided-false}
use Rattle.chunks.proofs.Freeing.{free-ends, free-tier, free-lost, free-less, free-turns}
use Rattle.chunks.proofs.free_fits.Goals as goal

pub slots_empty-requires : goal.slots_empty-requires
slots_empty-requires c =
    record {
      framed = c.requires.framed;
      tier_in = free-tier c.args.z c.args.img.now c.requires.free_fits c.loop-t.invariant c.loop-t-test.true;
    }

pub returns-then-not-slots_empty : goal.returns-then-not-slots_empty
returns-then-not-slots_empty c =
    free-lost c.args.z c.args.img.now c.requires.free_fits c.loop-t.invariant c.loop-t-test.true
    (λ f. decided-false c.slots_empty.result c.slots_empty.ensures c.if-not-slots_empty.true f.slots_empty)

pub all_clear-requires : goal.all_clear-requires
all_clear-requires c =
    record {
      framed = c.requires.framed;
      tier_in = free-tier c.args.z c.args.img.now c.requires.free_fits c.loop-t.invariant c.loop-t-test.true;
    }

pub returns-then-not-all_clear : goal.returns-then-not-all_clear
returns-then-not-all_clear c =
    free-lost c.args.z c.args.img.now c.requires.free_fits c.loop-t.invariant c.loop-t-test.true
    (λ f. decided-false c.all_clear.result c.all_clear.ensures c.if-not-all_clear.true f.chunks_clear)

pub shared-t-requires : goal.shared-t-requires
shared-t-requires c = (
  c.requires.framed,
  free-tier c.args.z c.args.img.now c.requires.free_fits c.loop-t.invariant c.loop-t-test.true,
)

pub loop-t-smaller : goal.loop-t-smaller
loop-t-smaller c = free-less c.args.z c.args.img.now c.requires.free_fits c.loop-t.invariant c.loop-t-test.true c.shared-t.ensures

pub loop-t-preserved : goal.loop-t-preserved
loop-t-preserved c =
    free-turns c.args.z c.args.img.now c.requires.free_fits c.loop-t.invariant c.loop-t-test.true c.shared-t.ensures
    (record {
      slots_empty = decided_true c.slots_empty.result c.slots_empty.ensures c.if-not-slots_empty.false;
      chunks_clear = decided_true c.all_clear.result c.all_clear.ensures c.if-not-all_clear.false;
    })

pub returns : goal.returns
returns c = free-ends c.args.z c.args.img.now c.requires.free_fits c.loop-t.invariant c.loop-t-test.false
