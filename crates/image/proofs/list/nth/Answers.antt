use native.Mathlib.Omega.{arith}
use Rattle.image.proofs.Picking.{picks_in, picks-after, picks_at}
use Rattle.image.proofs.list.nth.Goals as goal

pub settled-c-requires : goal.settled-c-requires
settled-c-requires c =
    record {
      chains = record { framed = c.requires.0; chain_tiers = c.requires.1 };
      in_chain = picks_in c.args.z c.args.img.now (omega (arith, c.requires.0.valid.segments)) c.start.ensures c.requires.1;
    }

pub returns-then-c-eq0 : goal.returns-then-c-eq0
returns-then-c-eq0 c =
    picks-after c.args.z c.args.img.now (omega (arith, c.requires.0.valid.segments)) c.start.ensures c.settled-c.ensures.0
    (c.settled-c.ensures.1.none c.if-c-eq0.true)

pub entry-requires : goal.entry-requires
entry-requires c = (c.requires.0, c.settled-c.ensures.1.on_full c.if-c-eq0.false)

pub returns : goal.returns
returns c =
    let full = c.settled-c.ensures.1.on_full c.if-c-eq0.false in
    picks_at c.args.z c.args.img.now (omega (arith, c.requires.0.valid.segments)) c.start.ensures c.settled-c.ensures.0 full c.entry.ensures
