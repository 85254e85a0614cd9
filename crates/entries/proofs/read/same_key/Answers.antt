use native.Mathlib.Omega.{arith}
use Prim.Native.Nat.{◌*◌, ◌/◌}
use mathlib.Core.Path.{sym}
use Rattle.lists.proofs.Decides.{decided-false}
use Rattle.entries.proofs.Matching.{length-differs, byte-differs, some-differ, all_same}
use Rattle.entries.proofs.read.same_key.Goals as goal

pub returns-then-n-key : goal.returns-then-n-key
returns-then-n-key c = sym (length-differs c.args.img.now c.args.at c.args.n c.args.key.now c.requires (omega arith))

pub returns-then-not-same_eights : goal.returns-then-not-same_eights
returns-then-not-same_eights c =
    sym (some-differ c.args.img.now c.args.at c.args.n c.args.key.now c.requires (8 * (c.args.n / 8)) (omega arith)
    (decided-false c.same_eights.result c.same_eights.ensures c.if-not-same_eights.true))

pub returns-then-img-at : goal.returns-then-img-at
returns-then-img-at c =
    sym (byte-differs c.args.img.now c.args.at c.args.n c.args.key.now c.requires c.loop-i.i (omega arith)
    (omega arith))

pub returns : goal.returns
returns c = sym (all_same c.args.img.now c.args.at c.args.n c.args.key.now c.requires c.loop-i.invariant (omega arith))
