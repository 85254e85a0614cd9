use Rattle.counters.proofs.FullCount.{settled-alone, settled_same, settled-both}
use Rattle.sound.proofs.Framing.{framed-again}
use Rattle.layout.specs.Tiers.{IsTier}
use Rattle.std.proofs.Common.{◌≡◌, arith}
use Rattle.counters.proofs.settle.Goals as goal

pub returns-in_default : goal.returns-in_default
returns-in_default c = settled-alone c.args.z c.args.img.now c.args.t c.recount.ensures c.in_default.is

pub returns-then-other-t : goal.returns-then-other-t
returns-then-other-t c = rw c.in-Some.is (settled_same c.args.z c.args.img.now c.args.t c.in-Some.other c.recount.ensures c.if-other-t.true)

pub recount-requires-2 : goal.recount-requires-2
recount-requires-2 c = (framed-again c.recount.auto.img c.requires.framed, rw c.in-Some.is at c.requires.other_in)

pub returns : goal.returns
returns c =
    let is : IsTier c.args.z c.in-Some.other = rw c.in-Some.is at c.requires.other_in in
    rw c.in-Some.is
    (settled-both c.args.z c.args.img.now c.args.t c.in-Some.other c.recount.ensures (λ (e : c.in-Some.other ≡ 0). omega arith) c.if-other-t.false
    c.recount-2.ensures)
