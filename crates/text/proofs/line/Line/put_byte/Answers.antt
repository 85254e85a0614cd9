use Prim.Native.Nat.{◌<◌}
use native.Mathlib.Omega.{arith}
use borrow.Author.Rules.{rules}
use Rattle.text.proofs.Adding.{added-byte}
use Rattle.text.proofs.line.Line.put_byte.Goals as goal

pub returns : goal.returns
returns c =
    let room : c.args.self.len < 160 = omega arith in
    added-byte c.args.self c.args.b (search rules)
