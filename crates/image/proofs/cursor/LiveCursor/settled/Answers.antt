use mathlib.Core.Path.{ap}
use native.Mathlib.Omega.{arith}
use Rattle.layout.proofs.Bounds.{framed-largest}
use Rattle.image.specs.declared.cursor.LiveCursor.{LiveCursor}
use Rattle.image.proofs.Rest.{moves-starts, moves_more, moves-segment, settled-end}
use Rattle.image.proofs.cursor.LiveCursor.settled.Goals as goal

pub loop-c-init : goal.loop-c-init
loop-c-init c = moves-starts c.args.z c.args.img.now c.requires.in_chain

pub in_chain-c-requires : goal.in_chain-c-requires
in_chain-c-requires c = (c.requires.chains.framed, c.loop-c.invariant.in_chain)

pub returns-then-c-ne0 : goal.returns-then-c-ne0
returns-then-c-ne0 c = (
  moves_more c.args.z c.args.img.now c.loop-c.invariant c.in_chain-c.ensures.0,
  record { on_full = c.in_chain-c.ensures.2; none = λ e. absurd (c.if-c-ne0.true e) },
)

pub overflow_add-c : goal.overflow_add-c
overflow_add-c c = omega arith

pub returns-then-z-c : goal.returns-then-z-c
returns-then-z-c c =
    (moves_more c.args.z c.args.img.now c.loop-c.invariant c.in_chain-c.ensures.0, settled-end c.args.z c.args.img.now c.if-c-ne0.false c.if-z-c.true)

pub overflow_add-c-in-loop-c : goal.overflow_add-c-in-loop-c
overflow_add-c-in-loop-c c = omega arith

pub start-c-requires : goal.start-c-requires
start-c-requires c = (framed-largest c.requires.chains.framed, omega arith)

pub loop-c-smaller : goal.loop-c-smaller
loop-c-smaller c = omega (arith, ap (λ (d : LiveCursor). d.segment) c.start-c.ensures, c.in_chain-c.ensures.1)

pub loop-c-preserved : goal.loop-c-preserved
loop-c-preserved c =
    let next = moves-segment c.args.z c.args.img.now c.if-c-ne0.false c.requires.chains.chain_tiers (omega arith) c.start-c.ensures in
    moves_more c.args.z c.args.img.now (moves_more c.args.z c.args.img.now c.loop-c.invariant c.in_chain-c.ensures.0) next
