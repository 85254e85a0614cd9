use Rattle.words.specs.Bits.{put_bit}
use Rattle.words.proofs.Bits.{masks-with_bit}
use Prim.Native.Nat.{◌+◌, ◌/◌, ◌%◌}
use mathlib.Core.Path.{ap}
use lib.ListN.{set}
use native.Mathlib.Omega.{arith}
use Rattle.words.proofs.put_bit.Goals as goal

pub returns : goal.returns
unfolding put_bit
returns c =
    ap (set c.args.s.now (c.args.at + c.args.i / 8))
    (masks-with_bit _ (c.args.i % 8) _ (omega (arith, c.slice_known-1.given (c.args.at + c.args.i / 8))) (omega arith) (omega arith))
