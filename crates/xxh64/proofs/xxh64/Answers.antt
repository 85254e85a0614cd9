use Rattle.std.proofs.Common.{rules}
use Rattle.xxh64.proofs.Laws.{xxh64-short, xxh64-long}
use Rattle.xxh64.proofs.xxh64.Goals as goal

pub returns-then-s-lt32 : goal.returns-then-s-lt32
returns-then-s-lt32 c = cc (xxh64-short c.args.s.now (search rules))

pub returns-else-s-lt32 : goal.returns-else-s-lt32
returns-else-s-lt32 c = cc (xxh64-long c.args.s.now (search rules))
