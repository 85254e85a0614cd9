use native.Mathlib.Omega.{arith}
use Rattle.entries.proofs.Hashes.{start-lt}
use Rattle.search.proofs.Reaching.{run-reached, not-reached}
use Rattle.search.proofs.rules.slot_fits.Goals as goal

pub returns-then-run-displaced : goal.returns-then-run-displaced
returns-then-run-displaced c =
    λ h. not-reached c.args.z c.args.img.now c.args.t c.requires.slot.slot_in (start-lt c.requires.slot.tier.chains.framed.valid _) c.requires.run
    (omega (arith, c.displaced.ensures, c.if-run-displaced.true)) h.1

pub returns : goal.returns
returns c =
    let reached =
    run-reached c.args.z c.args.img.now c.args.t c.requires.slot.slot_in (start-lt c.requires.slot.tier.chains.framed.valid _) c.requires.run
    (omega (arith, c.displaced.ensures, c.if-run-displaced.false)) in
    ((c.in_ok-range.ensures.0, reached), c.in_ok-range.ensures.1)
