use mathlib.Core.Bool.{true}
use native.Mathlib.Omega.{arith}
use Rattle.words.proofs.Bits.{shifted_one}
use Rattle.lists.proofs.Upto.{upto-starts, upto-turns, upto-ends}
use Rattle.once.specs.Walk.{PassSays}
use Rattle.once.proofs.Passes.{keys-once, pass_true, pass-false}
use Rattle.once.proofs.keys_once.Goals as goal

pub loop-p-init : goal.loop-p-init
loop-p-init c = upto-starts _ _

pub one_pass-requires : goal.one_pass-requires
one_pass-requires c = record { reads = c.requires; few = omega (arith, c.share_out-by.ensures) }

pub returns-then-not-one_pass : goal.returns-then-not-one_pass
returns-then-not-one_pass c = pass-false c.args.z c.args.img.now c.share_out-by.result c.args.s _ c.one_pass.result c.one_pass.ensures c.if-not-one_pass.true

pub loop-p-preserved : goal.loop-p-preserved
loop-p-preserved c =
    upto-turns (λ q. PassSays c.args.z c.args.img.now c.share_out-by.result q c.args.s true) _ c.loop-p.invariant (omega arith)
    (pass_true c.args.z c.args.img.now c.share_out-by.result c.args.s _ c.one_pass.result c.one_pass.ensures c.if-not-one_pass.false)

pub returns : goal.returns
returns c =
    let passes = shifted_one 64 c.share_out-by.result.passBits (omega (arith, c.share_out-by.ensures)) in
    keys-once c.args.z c.args.img.now c.share_out-by.result c.args.s (rw passes at
    (upto-ends (λ q. PassSays c.args.z c.args.img.now c.share_out-by.result q c.args.s true) _ c.loop-p.invariant (omega arith)))
