use Prim.Native.Nat.{◌+◌}
use mathlib.Core.Path.{◌∙◌}
use native.Mathlib.Omega.{arith}
use Rattle.std.proofs.lemmas.Result.{err_from_is_err_and}
use Rattle.once.specs.Walk.{MetUpTo}
use Rattle.once.proofs.Walking.{tiering_starts, tiering_meets, tiering_turns, tiering_ends, says-fresh, says-stopped}
use Rattle.once.proofs.pass_tier.Goals as goal

pub next_in_pass-j-requires : goal.next_in_pass-j-requires
next_in_pass-j-requires c = record { tier = c.requires.tier; within = omega arith }

pub loop-j-init : goal.loop-j-init
loop-j-init c = tiering_starts c.args.z c.args.img.now c.args.by c.args.p c.args.s c.args.t (c.requires) c.next_in_pass-j.ensures

pub meet-requires : goal.meet-requires
meet-requires c =
    tiering_meets c.args.z c.args.img.now c.args.by c.args.p c.args.s c.args.t c.loop-j.invariant c.requires.tier c.requires.places c.loop-j-test.true

pub shape_of-table-in_err-rest : goal.shape_of-table-in_err-rest
shape_of-table-in_err-rest c = c.meet.auto.table ∙ c.loop-j.invariant.long

pub returns-in_err-rest : goal.returns-in_err-rest
returns-in_err-rest c =
    let p = err_from_is_err_and c.from_residual.result c.from_residual.ensures.1 in
    rw (p.1, p.2) (says-stopped c.args.z c.args.img.now c.args.by c.args.s _ _ c.meet.result c.meet.ensures _ c.in_err-rest.was)

pub overflow_add-j : goal.overflow_add-j
overflow_add-j c = omega (arith, c.loop-j-test.true, c.requires.tier.pass.reads.fitting.chains.framed.valid.slots)

pub next_in_pass-j-requires-in-loop-j : goal.next_in_pass-j-requires-in-loop-j
next_in_pass-j-requires-in-loop-j c = record { tier = c.requires.tier; within = omega (arith, c.loop-j-test.true) }

pub loop-j-smaller : goal.loop-j-smaller
loop-j-smaller c = omega (arith, c.loop-j-test.true, c.next_in_pass-j-in-loop-j.ensures.not_before)

pub loop-j-preserved : goal.loop-j-preserved
loop-j-preserved c =
    tiering_turns c.args.z c.args.img.now c.args.by c.args.p c.args.s c.args.t c.loop-j.invariant c.meet.auto.table
    (says-fresh c.args.z c.args.img.now c.args.by c.args.s
    (MetUpTo c.args.z c.args.img.now c.args.by c.args.p c.args.s c.args.t (c.loop-j.j + 1)) _ c.meet.result c.meet.ensures
    _ c.in_ok-rest.was) c.next_in_pass-j-in-loop-j.ensures

pub shape_of-table : goal.shape_of-table
shape_of-table c = c.loop-j.invariant.long

pub returns : goal.returns
returns c = tiering_ends c.args.z c.args.img.now c.args.by c.args.p c.args.s c.args.t c.loop-j.invariant c.loop-j-test.false
