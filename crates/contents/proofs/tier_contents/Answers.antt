use Prim.Native.Nat.{◌<◌}
use mathlib.Core.Path.{refl}
use mathlib.Core.Bool.{false≢true}
use native.Mathlib.Omega.{arith}
use lib.ListN.{length-replicate}
use Rattle.chains.proofs.Tally.{zeros-met}
use Rattle.search.proofs.Reaching.{ends-empty, ends-full, run-starts}
use Rattle.contents.proofs.Covering.{full_is, lists-cut}
use Rattle.contents.proofs.OneTier.{no-empty, covered-broken, covered-held, holds, tier-says}
use Rattle.contents.proofs.tier_contents.Goals as goal

pub returns-then-end-z : goal.returns-then-end-z
returns-then-end-z c =
    record {
      says = no-empty c.args.z c.args.img.now c.args.s c.args.t
          (ends-full c.args.z c.args.img.now c.args.t c.full_at_end-end.ensures (omega (arith, c.if-end-z.true)));
      alone = λ q. absurd (false≢true q);
    }

pub cover-requires : goal.cover-requires
cover-requires c =
    let short : c.full_at_end-end.result < c.args.z.settings.slots = omega (arith, c.full_at_end-end.ensures.few, c.if-end-z.false) in
    record {
      tier = c.requires;
      lists = lists-cut c.list_full-full.ensures;
      begins = record { next_is = refl; short = short; run = run-starts c.args.z c.args.img.now c.args.t c.full_at_end-end.ensures short };
      long = rw length-replicate c.requires.chains.framed.valid.chunks.1;
      zeros = zeros-met 4096;
    }

pub returns-in_default : goal.returns-in_default
returns-in_default c =
    record {
      says = covered-broken c.args.z c.args.img.now c.args.s c.args.t _ _ c.cover.result c.cover.ensures c.in_default.is;
      alone = λ q. absurd (false≢true q);
    }

pub tier_chunks-requires : goal.tier_chunks-requires
tier_chunks-requires c =
    record {
      tier = c.requires;
      full_is = full_is c.args.z c.args.img.now c.args.t c.list_full-full.ensures;
      counted = (covered-held c.args.z c.args.img.now c.args.s c.args.t _ _ c.cover.result c.cover.ensures _ c.in-Some.is).counted;
    }

pub returns : goal.returns
returns c =
    let short : c.full_at_end-end.result < c.args.z.settings.slots = omega (arith, c.full_at_end-end.ensures.few, c.if-end-z.false) in
    let all = covered-held c.args.z c.args.img.now c.args.s c.args.t _ _ c.cover.result c.cover.ensures _ c.in-Some.is in
    record {
      says = tier-says c.args.z c.args.img.now c.args.s c.args.t
          (holds c.args.z c.args.img.now c.args.s c.args.t (ends-empty c.args.z c.args.img.now c.args.t c.full_at_end-end.ensures short)
          all.held)
          c.tier_chunks.result c.tier_chunks.ensures;
      alone = all.alone;
    }
