use Rattle.lists.proofs.Decides.{decided_true, decided-false}
use Rattle.pairs.proofs.channels_fit.Goals as goal

pub returns-then-not-is_channel : goal.returns-then-not-is_channel
returns-then-not-is_channel c = λ f. decided-false c.is_channel.result c.is_channel.ensures c.if-not-is_channel.true f.0

pub returns-then-not-is_channel-2 : goal.returns-then-not-is_channel-2
returns-then-not-is_channel-2 c = λ f. decided-false c.is_channel-2.result c.is_channel-2.ensures c.if-not-is_channel-2.true f.1.0

pub returns : goal.returns
returns c = (
  decided_true c.is_channel.result c.is_channel.ensures c.if-not-is_channel.false,
  (decided_true c.is_channel-2.result c.is_channel-2.ensures c.if-not-is_channel-2.false, c.if-a-b.false),
)
