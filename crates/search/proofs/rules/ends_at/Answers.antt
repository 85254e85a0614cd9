use native.Mathlib.Omega.{arith}
use mathlib.Core.Path.{◌≡◌, refl, sym, ap, ◌∙◌}
use mathlib.Core.Bool.{false}
use Prim.Native.Nat.{ℕ}
use Rattle.probe.specs.Ring.{next}
use Rattle.search.specs.Search.{hits}
use Rattle.search.specs.Rules.{keyAt}
use Rattle.search.proofs.Seeking.{hits-differs}
use Rattle.search.proofs.Ending.{coming-starts, coming-empty, coming-hit, coming-nearer, coming-turns, coming-found}
use Rattle.search.proofs.rules.ends_at.Goals as goal
use Rattle.search.proofs.rules.ends_at.Goals.{then-slot_key-lookup+else-same_hit, else-slot_key-lookup}

pub loop-cursor-init : goal.loop-cursor-init
loop-cursor-init c = (
  coming-starts c.args.z c.args.img.now c.args.t c.args.j c.requires.slot.slot_in c.start.result
      c.args.lookup c.requires.lookup_is c.start.ensures.0 c.start.ensures.1,
  refl,
)

pub returns-then-v-eq0 : goal.returns-then-v-eq0
returns-then-v-eq0 c =
    coming-empty c.args.z c.args.img.now c.args.t c.args.j c.requires.slot.slot_in c.loop-cursor.invariant.0
    c.loop-cursor-test.true c.slot-v.result c.slot-v.ensures c.if-v-eq0.true

pub returns-then-same_hit : goal.returns-then-same_hit
returns-then-same_hit c =
    coming-hit c.args.z c.args.img.now c.args.t c.args.j c.requires.slot.slot_in c.loop-cursor.invariant.0 c.loop-cursor-test.true
    c.slot-v.result c.slot-v.ensures (sym c.same_hit.ensures ∙ c.if-same_hit.true)

pub loop-cursor-smaller : goal.loop-cursor-smaller
loop-cursor-smaller c =
    omega (
      arith,
      coming-nearer c.args.z c.args.img.now c.args.t c.args.j c.requires.slot.slot_in c.loop-cursor.invariant.0
          c.loop-cursor-test.true c.slot-v.result c.slot-v.ensures c.requires.slot.tier.framed c.step-cursor.result.slot
          (c.step-cursor.ensures.0 ∙ ap (λ (n : ℕ). next n c.loop-cursor.cursor.slot) c.loop-cursor.invariant.1),
    )

pub loop-cursor-preserved : goal.loop-cursor-preserved
loop-cursor-preserved c =
    let miss : hits c.args.z c.args.img.now
    (keyAt c.args.z c.args.img.now c.args.t c.args.j) c.args.t c.slot-v.result
    ≡ false =
    elim c.if-slot_key-lookup.branch [
      | then-slot_key-lookup+else-same_hit h ↦ sym h.same_hit.ensures ∙ h.if-same_hit.false
      | else-slot_key-lookup h ↦
          hits-differs c.args.z c.args.img.now
          (keyAt c.args.z c.args.img.now c.args.t c.args.j) c.args.t c.slot-v.result
          c.args.lookup c.requires.lookup_is (λ q. h.if-slot_key-lookup.false (c.slot_key.ensures ∙ q))
    ] in (
      coming-turns c.args.z c.args.img.now c.args.t c.args.j c.requires.slot.slot_in c.loop-cursor.invariant.0 c.loop-cursor-test.true
          c.slot-v.result c.slot-v.ensures c.requires.slot.tier.framed c.if-v-eq0.false miss c.step-cursor.result.slot
          (c.step-cursor.ensures.0 ∙ ap (λ (n : ℕ). next n c.loop-cursor.cursor.slot) c.loop-cursor.invariant.1),
      c.step-cursor.ensures.1 ∙ c.loop-cursor.invariant.1,
    )

pub returns : goal.returns
returns c =
    coming-found c.args.z c.args.img.now c.args.t c.args.j c.requires.slot.slot_in
    c.loop-cursor.invariant.0 c.requires.fits.hashed.lookup_agrees c.loop-cursor-test.false
