use native.Mathlib.Omega.{arith}
use Rattle.lists.proofs.Decides.{decided_true, decided-false}
use Rattle.once.specs.Refs.{InPass}
use Rattle.once.proofs.Walking.{skipping_starts, skipping_turns, skipping_found, skipping_ends}
use Rattle.once.proofs.next_by_lookup.Goals as goal

pub loop-j-init : goal.loop-j-init
loop-j-init c = skipping_starts c.args.z c.args.img.now c.args.by c.args.p c.args.t c.args.from c.requires.0.within

pub lookup_in_pass-requires : goal.lookup_in_pass-requires
lookup_in_pass-requires c = (record { tier = c.requires.0.tier; slot_in = c.loop-j-test.true }, c.requires.1)

pub returns-then-lookup_in_pass : goal.returns-then-lookup_in_pass
returns-then-lookup_in_pass c =
    skipping_found c.args.z c.args.img.now c.args.by c.args.p c.args.t c.args.from c.loop-j.invariant
    (decided_true {P = InPass c.args.z c.args.img.now c.args.by c.args.p c.args.t c.loop-j.j} c.lookup_in_pass.result
    c.lookup_in_pass.ensures c.if-lookup_in_pass.true)

pub loop-j-preserved : goal.loop-j-preserved
loop-j-preserved c =
    skipping_turns c.args.z c.args.img.now c.args.by c.args.p c.args.t c.args.from c.loop-j.invariant c.loop-j-test.true
    (decided-false {P = InPass c.args.z c.args.img.now c.args.by c.args.p c.args.t c.loop-j.j} c.lookup_in_pass.result
    c.lookup_in_pass.ensures c.if-lookup_in_pass.false)

pub returns : goal.returns
returns c =
    skipping_ends c.args.z c.args.img.now c.args.by c.args.p c.args.t c.args.from c.loop-j.invariant (omega arith)
