use Prim.Native.Nat.{◌≤◌}
use mathlib.Core.Path.{sym, ◌∙◌}
use lib.ListN.{length}
use Rattle.lists.proofs.Decides.{decided_true, decided-false}
use Rattle.contents.proofs.OneTier.{covered-long, tier-wrong, marks-wrong, tier-right}
use borrow.Author.Rules.{rules}
use Rattle.contents.proofs.tier_chunks.Goals as goal

pub marks_agree-requires : goal.marks_agree-requires
marks_agree-requires c =
    let long : c.args.z.settings.chunks ≤ length c.args.covered.now =
    covered-long c.args.z c.args.img.now c.args.s c.args.t c.requires.tier.chains.framed.valid.chunks.1 c.requires.counted in
    search rules

pub returns-in_default : goal.returns-in_default
returns-in_default c =
    marks-wrong c.args.z c.args.img.now c.args.s c.args.t c.requires.tier.chains.framed.valid.chunks.1 c.requires.counted c.marks_agree.result
    c.marks_agree.ensures
    c.in_default.is

pub returns-then-shared-full : goal.returns-then-shared-full
returns-then-shared-full c =
    tier-wrong c.args.z c.args.img.now c.args.s c.args.t (λ f. c.if-shared-full.true (c.shared.ensures ∙ f.counters.entry_count ∙ sym c.requires.full_is))

pub returns-then-not-low_mark_fits : goal.returns-then-not-low_mark_fits
returns-then-not-low_mark_fits c =
    tier-wrong c.args.z c.args.img.now c.args.s c.args.t
    (λ f. decided-false c.low_mark_fits.result c.low_mark_fits.ensures c.if-not-low_mark_fits.true f.counters.low_mark)

pub returns : goal.returns
returns c =
    tier-right c.args.z c.args.img.now c.args.s c.args.t c.requires.tier.chains.framed.valid.chunks.1 c.requires.counted c.marks_agree.result
    c.marks_agree.ensures _
    c.in-Some.is c.requires.full_is (sym c.shared.ensures ∙ c.if-shared-full.false)
    (decided_true c.low_mark_fits.result c.low_mark_fits.ensures c.if-not-low_mark_fits.false)
