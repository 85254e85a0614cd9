use native.Mathlib.Omega.{arith}
use mathlib.Core.Path.{refl}
use Rattle.layout.proofs.Bounds.{framed-bounded}
use Rattle.joining.proofs.EndOfChain.{ending-starts, ending-ends, ending-out, ending-tier, ending-turns}
use Rattle.joining.proofs.end_of_chain.Goals as goal

pub tier_count-most-requires : goal.tier_count-most-requires
tier_count-most-requires c = framed-bounded c.requires.framed

pub overflow_add-t : goal.overflow_add-t
overflow_add-t c = omega (arith, c.requires.framed.valid.segments.1.1)

pub loop-k-init : goal.loop-k-init
loop-k-init c = ending-starts c.args.z c.args.img.now c.args.s c.tier_count-most.ensures refl

pub returns-then-t-eq0 : goal.returns-then-t-eq0
returns-then-t-eq0 c = ending-ends c.args.z c.args.img.now c.args.s c.loop-k.invariant c.requires c.if-t-eq0.true

pub shared-t-requires : goal.shared-t-requires
shared-t-requires c = (c.requires.framed, ending-tier c.args.z c.args.img.now c.args.s c.loop-k.invariant c.requires (omega arith) c.if-t-eq0.false)

pub loop-k-preserved : goal.loop-k-preserved
loop-k-preserved c =
    ending-turns c.args.z c.args.img.now c.args.s c.loop-k.invariant c.requires (omega arith) c.if-t-eq0.false
    c.shared-t.ensures

pub returns : goal.returns
returns c = ending-out c.args.z c.args.img.now c.args.s c.loop-k.invariant c.requires (omega arith)
