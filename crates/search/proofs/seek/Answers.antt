use Prim.Native.Nat.{ℕ, ◌+◌, ◌-◌}
use native.Mathlib.Omega.{arith}
use mathlib.Core.Path.{◌≡◌, refl, sym, ◌∙◌, ap}
use Rattle.probe.specs.Ring.{next}
use Rattle.search.proofs.Seeking.{seek-starts, seek-turns, seek-ends-empty, seek-ends-holds, seek-ends-out}
use Rattle.search.proofs.seek.Goals as goal

pub loop-init : goal.loop-init
loop-init c =
    let all : c.args.z.settings.slots - 0 ≡ c.args.z.settings.slots = omega arith in (
      rw all
          (seek-starts c.args.z c.args.img.now c.args.key.now c.args.t c.start-from.result
          c.args.lookup c.requires.lookup_is c.start-from.ensures.0 c.start-from.ensures.1),
      refl,
    )

pub returns-then-v-eq0 : goal.returns-then-v-eq0
returns-then-v-eq0 c =
    seek-ends-empty c.args.z c.args.img.now c.args.key.now c.args.t c.loop.invariant.0 c.slot-v.result
    c.slot-v.ensures c.if-v-eq0.true

pub returns-then-hits : goal.returns-then-hits
returns-then-hits c =
    seek-ends-holds c.args.z c.args.img.now c.args.key.now c.args.t c.loop.invariant.0 c.slot-v.result
    c.slot-v.ensures c.if-v-eq0.false (sym c.hits.ensures ∙ c.if-hits.true)

pub loop-preserved : goal.loop-preserved
loop-preserved c =
    let fewer : c.args.z.settings.slots - (c.loop.counter + 1) ≡ c.args.z.settings.slots - c.loop.counter - 1 = omega arith in (
      rw fewer
          (seek-turns c.args.z c.args.img.now c.args.key.now c.args.t c.loop.invariant.0 c.requires.tier.framed
          c.slot-v.result c.slot-v.ensures c.if-v-eq0.false (sym c.hits.ensures ∙ c.if-hits.false) (omega arith)
          c.step-cursor.result.slot (c.step-cursor.ensures.0 ∙ ap (λ (n : ℕ). next n c.loop.cursor.slot) c.loop.invariant.1)),
      c.step-cursor.ensures.1 ∙ c.loop.invariant.1,
    )

pub returns : goal.returns
returns c = seek-ends-out c.args.z c.args.img.now c.args.key.now c.args.t c.loop.invariant.0 (omega arith)
