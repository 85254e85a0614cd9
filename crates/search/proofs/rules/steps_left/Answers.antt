use Prim.Native.Nat.{ℕ, ◌≤◌}
use mathlib.Core.Path.{◌≡◌, refl, ap, sym, ◌∙◌}
use mathlib.Core.Bool.{false}
use native.Mathlib.Omega.{arith}
use Rattle.probe.specs.Ring.{next}
use Rattle.entries.specs.Keys.{slot_key}
use Rattle.entries.proofs.Hashes.{start-lt}
use Rattle.search.specs.Search.{hits}
use Rattle.search.specs.Rules.{keyAt}
use Rattle.search.proofs.Seeking.{hits-differs}
use Rattle.search.proofs.Reaching.{walking_starts, walking_nearer, walking_turns}
use Rattle.search.proofs.rules.steps_left.Goals as goal
use Rattle.std.proofs.lemmas.Grind.{common_steps}

pub loop-cursor-init : goal.loop-cursor-init
loop-cursor-init c =
    let is = c.slot_key-lookup.ensures ∙ ap (slot_key c.args.z.settings) c.slot.ensures in
    let framed = c.requires.slot.tier.chains.framed in (
      walking_starts c.args.z c.args.img.now c.args.t c.args.j _ c.requires.slot.slot_in is (start-lt framed.valid _) _ c.start.ensures.0,
      (refl, omega arith),
    )

pub loop-cursor-smaller : goal.loop-cursor-smaller
loop-cursor-smaller c =
    let next-is = c.step-cursor.ensures.0 ∙ ap (λ (n : ℕ). next n c.loop-cursor.cursor.slot) c.loop-cursor.invariant.1.0 in
    let two = c.requires.slot.tier.chains.framed.valid.slots in
    let nearer = walking_nearer c.args.z c.args.img.now c.args.t c.args.j _ c.loop-cursor.invariant.0 c.loop-cursor-test.true (omega (arith, two)) _ next-is in
    omega (arith, nearer)

pub loop-cursor-preserved : goal.loop-cursor-preserved
loop-cursor-preserved c =
    let next-is = c.step-cursor.ensures.0 ∙ ap (λ (n : ℕ). next n c.loop-cursor.cursor.slot) c.loop-cursor.invariant.1.0 in
    let two = c.requires.slot.tier.chains.framed.valid.slots in
    let looks = c.slot_key-lookup.ensures ∙ ap (slot_key c.args.z.settings) c.slot.ensures ∙ sym c.requires.fits.hashed.lookup_agrees in
    let miss : hits c.args.z c.args.img.now (keyAt c.args.z c.args.img.now c.args.t c.args.j) c.args.t c.slot-other.result ≡ false =
    let differs = hits-differs c.args.z c.args.img.now (keyAt c.args.z c.args.img.now c.args.t c.args.j) c.args.t c.slot-other.result _ looks in
    grind (arith, common_steps, differs) in
    let fewer : c.if-slot_key-lookup.left ≤ c.loop-cursor.left = grind (arith, common_steps) in (
      walking_turns c.args.z c.args.img.now c.args.t c.args.j _ c.loop-cursor.invariant.0 c.loop-cursor-test.true (omega (arith, two)) _ next-is
          c.slot-other.ensures miss,
      (c.step-cursor.ensures.1 ∙ c.loop-cursor.invariant.1.0, omega (arith, c.loop-cursor.invariant.1.1, fewer)),
    )
