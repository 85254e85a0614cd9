use native.Mathlib.Omega.{arith}
use Rattle.lists.proofs.Decides.{decided_true, decided-false}
use Rattle.search.specs.Landing.{LandsAt}
use Rattle.once.proofs.Reading.{fitting-slot}
use Rattle.once.proofs.Searching.{slots-start, slots-turn, slots_end, slots-lost}
use Rattle.once.proofs.slow.tier_lands.Goals as goal

pub next_in_pass-j-requires : goal.next_in_pass-j-requires
next_in_pass-j-requires c = record { tier = c.requires; within = omega arith }

pub loop-j-init : goal.loop-j-init
loop-j-init c = slots-start c.args.z c.args.img.now c.args.by c.args.p c.args.t c.next_in_pass-j.ensures

pub lands-requires : goal.lands-requires
lands-requires c = fitting-slot c.requires.pass.reads c.requires.tier_in c.loop-j-test.true (c.loop-j.invariant.mine c.loop-j-test.true).0

pub returns-then-not-lands : goal.returns-then-not-lands
returns-then-not-lands c =
    slots-lost c.args.z c.args.img.now c.args.by c.args.p c.args.t c.loop-j.invariant c.loop-j-test.true
    (decided-false {P = LandsAt c.args.z c.args.img.now c.args.t c.loop-j.j} c.lands.result c.lands.ensures c.if-not-lands.true)

pub overflow_add-j : goal.overflow_add-j
overflow_add-j c = omega (arith, c.loop-j-test.true, c.requires.pass.reads.fitting.chains.framed.valid.slots)

pub next_in_pass-j-requires-in-loop-j : goal.next_in_pass-j-requires-in-loop-j
next_in_pass-j-requires-in-loop-j c = record { tier = c.requires; within = omega (arith, c.loop-j-test.true) }

pub loop-j-smaller : goal.loop-j-smaller
loop-j-smaller c = omega (arith, c.loop-j-test.true, c.next_in_pass-j-in-loop-j.ensures.not_before)

pub loop-j-preserved : goal.loop-j-preserved
loop-j-preserved c =
    slots-turn c.args.z c.args.img.now c.args.by c.args.p c.args.t c.loop-j.invariant
    (decided_true {P = LandsAt c.args.z c.args.img.now c.args.t c.loop-j.j} c.lands.result c.lands.ensures c.if-not-lands.false)
    c.next_in_pass-j-in-loop-j.ensures

pub returns : goal.returns
returns c = slots_end c.args.z c.args.img.now c.args.by c.args.p c.args.t c.loop-j.invariant c.loop-j-test.false
