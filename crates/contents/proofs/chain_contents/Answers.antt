use mathlib.Core.Path.{sym, subst, ◌∙◌}
use Prim.Native.Nat.{ℕ}
use native.Mathlib.Omega.{arith}
use Rattle.lists.specs.Quantify.{Every}
use Rattle.entries.specs.Live.{full_slots}
use Rattle.search.specs.Reach.{Alone}
use Rattle.once.proofs.Reading.{chain-tier, chained-tier}
use Rattle.once.proofs.Tiers.{tiers-start, tiers_in_lem}
use Rattle.contents.specs.Asking.{FirstKnown}
use Rattle.contents.proofs.Sums.{summing_starts, tier-small, summing_in, summing_less, summing_turns, summing_small, summing_ends}
use Rattle.contents.proofs.Chains.{lone-says}
use Rattle.contents.proofs.chain_contents.Goals as goal
use Rattle.contents.proofs.chain_contents.Goals.{then-t-s-2, else-t-s-2}

pub loop-t-init : goal.loop-t-init
loop-t-init c = summing_starts c.args.z c.args.img.now c.args.s

pub tier_contents-tier-requires : goal.tier_contents-tier-requires
tier_contents-tier-requires c = chained-tier (c.requires) (summing_in c.args.z c.args.img.now c.loop-t.invariant c.requires.fits c.loop-t-test.true)

pub joined-sum-requires : goal.joined-sum-requires
joined-sum-requires c =
    record {
      left =
          summing_small c.args.z c.args.img.now c.loop-t.invariant c.requires.chains.framed.valid.slots.1.1 c.requires.chains.framed.valid.chunks.1
          c.requires.chains.framed.tier_count;
      right = tier-small c.args.z c.args.img.now c.args.s c.loop-t.t _ c.requires.chains.framed.valid.slots.1.1 c.requires.chains.framed.valid.chunks.1
          c.tier_contents-tier.ensures.says;
    }

pub shared-t-requires : goal.shared-t-requires
shared-t-requires c =
    (c.requires.chains.framed, chain-tier (c.requires) (summing_in c.args.z c.args.img.now c.loop-t.invariant c.requires.fits c.loop-t-test.true))

pub loop-t-smaller : goal.loop-t-smaller
loop-t-smaller c = summing_less c.args.z c.args.img.now c.loop-t.invariant c.requires.fits c.loop-t-test.true c.shared-t.ensures

pub loop-t-preserved : goal.loop-t-preserved
loop-t-preserved c =
    let known : FirstKnown c.args.z c.args.img.now c.args.s c.if-t-s-2.apart =
    elim c.if-t-s-2.branch [
      | then-t-s-2 w ↦
          λ e.
          let told = c.tier_contents-tier.ensures.alone (sym w.apart-is ∙ e) in
          subst (λ (x : ℕ). Every (full_slots c.args.z c.args.img.now x) (Alone c.args.z c.args.img.now x)) w.if-t-s-2.true told
      | else-t-s-2 w ↦ λ e. c.loop-t.invariant.alone (sym w.apart-is ∙ e)
    ] in
    summing_turns c.args.z c.args.img.now c.loop-t.invariant c.requires.fits c.loop-t-test.true c.tier_contents-tier.ensures c.joined-sum.ensures known
    c.shared-t.ensures

pub shared-requires : goal.shared-requires
shared-requires c = (
  c.requires.chains.framed,
  chain-tier (c.requires) (tiers_in_lem c.args.z c.args.img.now c.args.s c.requires.fits
      (tiers-start c.args.z c.args.img.now c.args.s) (omega arith)),
)

pub returns-then-shared-eq0 : goal.returns-then-shared-eq0
returns-then-shared-eq0 c =
    let lone = sym c.shared.ensures ∙ c.if-shared-eq0.true in
    lone-says c.args.z c.args.img.now c.args.s (c.requires) lone (c.loop-t.invariant.alone c.if-apart.true)
    (summing_ends c.args.z c.args.img.now c.loop-t.invariant c.loop-t-test.false)

pub with_keys-requires : goal.with_keys-requires
with_keys-requires c =
    record { fitting = c.requires; says = summing_ends c.args.z c.args.img.now c.loop-t.invariant c.loop-t-test.false; alone = c.loop-t.invariant.alone }

pub returns : goal.returns
returns c = c.with_keys.ensures
