use Prim.Native.Nat.{ℕ}
use mathlib.Core.Path.{refl, ap, ◌∙◌}
use native.Mathlib.Omega.{arith}
use Rattle.std.specs.Prelude.{Ok}
use Rattle.std.proofs.lemmas.Result.{err_from_is_err_and}
use Rattle.probe.specs.Ring.{next}
use Rattle.walk.proofs.Walking.{tier-starts, tier-out, tier-empty, tier-holds, tier-broken, tier-turns}
use Rattle.walk.proofs.in_tier.Goals as goal

pub loop-init : goal.loop-init
loop-init c = (
  tier-starts c.args.z c.args.img.now c.args.key.now c.args.t c.start.result c.args.lookup
      c.requires.lookup_is c.start.ensures.0 c.start.ensures.1 (omega arith),
  refl,
)

pub returns-then-v-eq0 : goal.returns-then-v-eq0
returns-then-v-eq0 c =
    tier-empty c.args.z c.args.img.now c.args.key.now c.args.t c.loop.invariant.0 (omega arith) c.slot-v.result c.slot-v.ensures c.if-v-eq0.true

pub returns-in-Some : goal.returns-in-Some
returns-in-Some c =
    tier-holds c.args.z c.args.img.now c.args.key.now c.args.t c.loop.invariant.0 (omega arith) c.slot-v.result c.slot-v.ensures c.if-v-eq0.false
    c.at_slot.ensures c.in-Some.e (c.in_ok-e.was ∙ ap Ok c.in-Some.is)

pub returns-in_err-e : goal.returns-in_err-e
returns-in_err-e c =
    let p = err_from_is_err_and c.from_residual.result c.from_residual.ensures.1 in
    rw p.1
    (tier-broken c.args.z c.args.img.now c.args.key.now c.args.t c.loop.invariant.0 (omega arith) c.slot-v.result c.slot-v.ensures c.if-v-eq0.false
    c.at_slot.ensures c.in_err-e.was)

pub loop-preserved : goal.loop-preserved
loop-preserved c = (
  tier-turns c.args.z c.args.img.now c.args.key.now c.args.t c.loop.invariant.0 (omega arith) c.slot-v.result c.slot-v.ensures c.if-v-eq0.false
      c.at_slot.ensures (c.in_ok-e.was ∙ ap Ok c.in_default.is) c.step-cursor.result.slot
      (c.step-cursor.ensures.0 ∙ ap (λ (n : ℕ). next n c.loop.cursor.slot) c.loop.invariant.1) (omega arith),
  c.step-cursor.ensures.1 ∙ c.loop.invariant.1,
)

pub returns : goal.returns
returns c = tier-out c.args.z c.args.img.now c.args.key.now c.args.t c.loop.invariant.0 (omega arith)
