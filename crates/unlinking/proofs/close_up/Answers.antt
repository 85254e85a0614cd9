use mathlib.Core.Path.{ap, ◌∙◌}
use lib.ListN.{length}
use Rattle.layout.proofs.Places.{length-puts}
use Rattle.sound.proofs.Framing.{framed-again}
use Rattle.unlinking.proofs.Closing.{closed_none, closed_some, first-tier}
use Rattle.unlinking.proofs.close_up.Goals as goal

pub returns-then-first-eq0 : goal.returns-then-first-eq0
returns-then-first-eq0 c = closed_none c.args.z c.args.img.now c.args.first c.args.p c.if-first-eq0.true c.lower_orders.ensures

pub put_counter-requires : goal.put_counter-requires
put_counter-requires c = (
  framed-again (ap length c.lower_orders.ensures ∙ length-puts c.args.z c.args.img.now _) c.requires.framed,
  first-tier c.args.z c.args.img.now c.args.first c.args.p c.requires c.if-first-eq0.false,
)

pub returns : goal.returns
returns c =
    closed_some c.args.z c.args.img.now c.args.first c.args.p c.requires c.if-first-eq0.false c.lower_orders.ensures
    c.put_counter.ensures
